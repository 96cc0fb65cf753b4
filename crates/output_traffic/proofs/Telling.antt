-- The notifications of a run's entries, told by the texts of its messages.
use Rattle.std.proofs.Common.{◌≡◌, ℕ, suc, ◌+◌, ◌==◌, ◌&&◌, Bool, true, false, cond, List, [], ◌∷◌, ◌++◌, inl, inr, length, map, slice_get, Some, refl, sym, ap, subst, ◌∙◌, arith, eq-eqb, ne_eqb}
use Rattle.std.proofs.lemmas.List.{length-map}
use Rattle.base.specs.Sets.{Has}
use Rattle.base.specs.Numbers.{IsDistinct, sum_over, count}
use Rattle.base.proofs.Numbers.{Same, Is, Not, compare}
use Rattle.law_routing.specs.Server.{Message, Subs, Advs, Noticed, is_among}
use Rattle.law_routing.proofs.Laws.{one-has}
use Rattle.law_routing.proofs.Listing.{has-one}
use Rattle.law_phases.specs.Trees.{JournalEntry}
use Rattle.law_phases.specs.Runs.{PhasedRun}
use Rattle.law_phases.specs.AtMoments.{messages_at, net_seen, phase_seen}
use Rattle.law_phases.proofs.Nets.{net-laws}
use Rattle.net_model.specs.Real.{real, real_laws}
use Rattle.filter_text.specs.declared.sent.Sent.{Sent}
use Rattle.filter_text.specs.MessageText.{message_text}
use Rattle.server_spec.specs.Control.{sent_to as text_to, texts, wired}
use Rattle.net_model.specs.Parts.{EntryParts}
use Rattle.net_model.specs.Meaning.{entry_of, journal_of}
use Rattle.output_traffic.specs.Carried.{carried, is_notice, notices_on, put_on, sent_to}
use Rattle.output_traffic.specs.Runs.{is_noticed, noticed, noticed_at, noticed_maybe}
use Rattle.output_traffic.specs.Told.{told_from}
use Rattle.law_phases.proofs.Carrying.{puts-one}
use Rattle.law_phases.proofs.Speaking.{notices}

-- a text begins as that of a notification where it is one
text-notice : (m : Message real) → is_notice (message_text (wired m)) ≡ is_noticed real m
unfolding message_text
text-notice (Subs out add) = refl
text-notice (Advs out add) = refl
text-notice (Noticed p o n) = refl

pub sum-append : {X : Type 0} (f : X → ℕ) (xs ys : List X) → sum_over f (xs ++ ys) ≡ sum_over f xs + sum_over f ys
sum-append f [] ys = omega arith
sum-append f (x ∷ xs) ys = omega (arith, sum-append f xs ys)

-- the texts to one neighbour
to-one : (to link : ℕ) (ms : List (Message real)) → link ≡ to → sent_to is_notice to (map (text_to link) ms) ≡ notices real ms
to-one to link [] e = refl
to-one to link (m ∷ ms) e =
    let first : count ((link == to) && is_notice (message_text (wired m))) ≡ count (is_noticed real m) = rw (eq-eqb link to e, text-notice m) refl in
    omega (arith, first, to-one to link ms e)

-- and to another
pub to-other : (test : List ℕ → Bool) (to link : ℕ) (ms : List (Message real)) → (link ≡ to → ⊥) → sent_to test to (map (text_to link) ms) ≡ 0
to-other test to link [] n = refl
to-other test to link (m ∷ ms) n =
    let first : count ((link == to) && test (message_text (wired m))) ≡ 0 = rw (ne_eqb link to n) refl in
    omega (arith, first, to-other test to link ms n)

module _ (messages : ℕ → List (Message real)) (to : ℕ) where
  pub none-to : (test : List ℕ → Bool) (links : List ℕ) → (Has to links → ⊥) → sent_to test to (texts messages links) ≡ 0
  none-to test [] n = refl
  none-to test (link ∷ links) n =
      omega (
        arith,
        sum-append (λ (m : Sent). count ((m.to == to) && test m.bytes)) (map (text_to link) (messages link)) (texts messages links),
        to-other test to link (messages link) (λ e. n (inl (sym e))),
        none-to test links (λ h. n (inr h)),
      )

  all-to : (links : List ℕ) → Has to links → IsDistinct links → sent_to is_notice to (texts messages links) ≡ notices real (messages to)
  all-to [] h d = absurd h
  all-to (link ∷ links) h d = go (compare link to) h (λ i. all-to links i d.1)
    where
      whole : sent_to is_notice to (texts messages (link ∷ links)) ≡ sent_to is_notice to (map (text_to link) (messages link)) + sent_to is_notice to (texts messages links)
      whole = sum-append (λ (m : Sent). count ((m.to == to) && is_notice m.bytes)) (map (text_to link) (messages link)) (texts messages links)

      go : Same link to → Has to (link ∷ links) → (Has to links → sent_to is_notice to (texts messages links) ≡ notices real (messages to)) → sent_to is_notice to (texts messages (link ∷ links)) ≡ notices real (messages to)
      go (Is p v) h ih = omega (arith, whole, to-one to link (messages link) p, none-to is_notice links (λ i. d.0 (subst (λ z. Has z links) (sym p) i)), ap (λ z. notices real (messages z)) p)
      go (Not m v) (inl e) ih = absurd (m (sym e))
      go (Not m v) (inr i) ih = omega (arith, whole, to-other is_notice to link (messages link) m, ih i)

module _ (run : PhasedRun real) where
  -- an entry's texts for a link tell as many notifications as it puts there
  one-entry : (n : ℕ) (entry : EntryParts) (from to : ℕ) → slice_get run.journal n ≡ Some (entry_of entry)
      → put_on is_notice entry.server (texts (messages_at real run n (entry_of entry)) ((net_seen real run n).links entry.server)) from to ≡ noticed_at real run n (entry_of entry) from to
  one-entry n entry from to is = go (compare entry.server from)
    where
      links : List ℕ
      links = (net_seen real run n).links entry.server

      here : (entry.server == from) ≡ true → entry.server ≡ from → (b : Bool) → is_among to ((net_seen real run n).links entry.server) ≡ b
          → sent_to is_notice to (texts (messages_at real run n (entry_of entry)) ((net_seen real run n).links entry.server)) ≡ noticed_at real run n (entry_of entry) from to
      here v p true e =
          all-to (messages_at real run n (entry_of entry)) to ((net_seen real run n).links entry.server) (one-has to ((net_seen real run n).links entry.server) e) ((net-laws real run.net run.laws (phase_seen real run n)).tree.single entry.server)
          ∙ rw v refl
      here v p false e = none-to (messages_at real run n (entry_of entry)) to is_notice ((net_seen real run n).links entry.server) (λ h. (let x = has-one to ((net_seen real run n).links entry.server) h in let y : true ≡ false = sym x ∙ e in absurd cc)) ∙ elim (puts-one real real_laws run n (entry_of entry) is from to) [
        | inl s ↦ sym s.none
        | inr s ↦ absurd (let x = has-one to ((net_seen real run n).links entry.server) (subst (λ z. Has to ((net_seen real run n).links z)) (sym s.server) s.near) in let y : true ≡ false = sym x ∙ e in cc)
      ]

      go : Same entry.server from → put_on is_notice entry.server (texts (messages_at real run n (entry_of entry)) ((net_seen real run n).links entry.server)) from to ≡ noticed_at real run n (entry_of entry) from to
      go (Not m v) = rw v refl
      go (Is p v) = ap (λ b. cond b (sent_to is_notice to (texts (messages_at real run n (entry_of entry)) ((net_seen real run n).links entry.server))) 0) v ∙ here v p (is_among to ((net_seen real run n).links entry.server)) refl

  entries-told : (entries : List EntryParts) (n from to : ℕ) → ((i : ℕ) (e : JournalEntry) → slice_get (journal_of entries) i ≡ Some e → slice_get run.journal (n + i) ≡ Some e)
      → noticed real run (n + length entries) from to ≡ noticed real run n from to + carried is_notice entries (told_from run n entries) from to
  entries-told [] n from to at = let none : n + 0 ≡ n = omega arith in omega (arith, ap (λ k. noticed real run k from to) none)
  entries-told (entry ∷ entries) n from to at =
      let none : n ≡ n + 0 = omega arith in
      let next : n + suc (length entries) ≡ suc n + length entries = omega arith in
      let slot = ap (slice_get run.journal) none ∙ at 0 (entry_of entry) refl in
      let ih = entries-told entries (suc n) from to (λ i e f. ap (slice_get run.journal) (shift i) ∙ at (suc i) e f) in
      omega (arith, ap (λ k. noticed real run k from to) next, ih, ap (λ m. noticed_maybe real run n m from to) slot, one-entry n entry from to slot)
    where
      shift : (i : ℕ) → suc n + i ≡ n + suc i
      shift i = omega arith

  -- a journal tells as many as its run puts
  pub all-told : (journal : List EntryParts) → run.journal ≡ journal_of journal → (from to : ℕ) → notices_on journal (told_from run 0 journal) from to ≡ noticed real run (length run.journal) from to
  all-told journal e from to =
      let long : length run.journal ≡ length journal = ap length e ∙ length-map journal entry_of in
      let zero-plus : 0 + length journal ≡ length run.journal = omega (arith, long) in
      omega (arith, entries-told journal 0 from to (λ i x f. ap (slice_get run.journal) (plain i) ∙ (ap (λ z. slice_get z i) e ∙ f)), ap (λ k. noticed real run k from to) zero-plus)
    where
      plain : (i : ℕ) → 0 + i ≡ i
      plain i = omega arith
