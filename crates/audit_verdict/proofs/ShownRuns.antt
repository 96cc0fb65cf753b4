-- What a run of a document's net delivers and sends has no byte below a space.
use Rattle.std.proofs.Common.{◌≡◌, ℕ, zero, suc, Bool, true, false, inl, inr, List, [], ◌∷◌, length, map, Some, refl, sym, ap, subst, ◌∙◌}
use Rattle.std.specs.Prelude.{slice_get}
use Rattle.std.specs.List.{range_with_len}
use Rattle.std.specs.Str.{bytes_eq}
use Rattle.std.proofs.lemmas.Option.{same_Some}
use Rattle.filter_constraints.proofs.BytesLemmas.{bytes_eq-tells}
use Rattle.law_routing.specs.Net.{PhasedCommand}
use Rattle.law_phases.specs.Trees.{net_at}
use Rattle.law_phases.specs.Moments.{opening_moment, found_of}
use Rattle.net_model.specs.Real.{real}
use Rattle.filter_text.specs.declared.command.Command.{Command}
use Rattle.filter_text.specs.declared.command.Command.TheVariants as commands
use Rattle.document_format.specs.CommandText.{IsCommandIn, command_text}
use Rattle.net_model.specs.Parts.{ClientParts, NetParts, EntryParts}
use Rattle.net_model.specs.Meaning.{command_of, entry_of, journal_of, phased_command}
use Rattle.net_model.specs.Nets.{home_of, of_clients, phased_net, script_in, script_of}
use Rattle.net_turns.specs.Network.{moment_by, received_by}
use Rattle.net_turns.specs.Told.{told_by, told_from, told_of}
use Rattle.filter_text.specs.MessageText.{Each}
use Rattle.document_format.proofs.ClientStands.{AreApart as AreApartInText, IsWritableClient}
use Rattle.document_format.proofs.Shown.{command_shown}
use Rattle.document_format.proofs.WordLaws.{name_word, word_shown}
use Rattle.audit_claim.proofs.Spelled.{AreApart, are_shown}
use Rattle.audit_verdict.proofs.Kept.{All, KeepsCommand, after-kept, all-map, all-none, found-after-kept, messages-kept-by, opening-kept}
use Rattle.audit_verdict.proofs.ShownTexts.{IsShownDelivery, IsShownList, IsShownNotice, IsShownSent, deliveries-shown, sent-shown}
use Rattle.base.proofs.Lists.{bytes_eq-self}
use Rattle.audit_verdict.proofs.Runs.{told-length}

-- Scripts.

step-shown : (version : ℕ) (c : Command) → IsCommandIn version c → KeepsCommand real IsShownList IsShownList IsShownNotice (command_of c)
unfolding command_text
step-shown version (commands.Subscribe f) is = command_shown version (commands.Subscribe f) is
step-shown version (commands.Unsubscribe f) is = command_shown version (commands.Unsubscribe f) is
step-shown version (commands.Advertise a) is = command_shown version (commands.Advertise a) is
step-shown version (commands.Unadvertise a) is = command_shown version (commands.Unadvertise a) is
step-shown version (commands.Publish n) is = command_shown version (commands.Publish n) is

steps-shown : (version : ℕ) (steps : List (ℕ × Command)) → Each (λ (s : ℕ × Command). IsCommandIn version s.1) steps → All (λ (x : PhasedCommand real). KeepsCommand real IsShownList IsShownList IsShownNotice x.command) (map phased_command steps)
steps-shown version [] is = all-none (λ (x : PhasedCommand real). KeepsCommand real IsShownList IsShownList IsShownNotice x.command)
steps-shown version (s ∷ steps) is = λ x h. elim h [
  | inl e ↦ subst (λ (z : PhasedCommand real). KeepsCommand real IsShownList IsShownList IsShownNotice z.command) (sym e) (step-shown version s.1 is.0)
  | inr m ↦ steps-shown version steps is.1 x m
]

place-shown : (version count : ℕ) (cs : List ClientParts) (k : ℕ) → Each (IsWritableClient version count) cs → All (λ (x : PhasedCommand real). KeepsCommand real IsShownList IsShownList IsShownNotice x.command) (script_in (slice_get cs k))
place-shown version count [] k is = all-none (λ (x : PhasedCommand real). KeepsCommand real IsShownList IsShownList IsShownNotice x.command)
place-shown version count (c ∷ cs) zero is = steps-shown version c.script is.0.commands
place-shown version count (c ∷ cs) (suc k) is = place-shown version count cs k is.1

pub scripts-shown : (version count : ℕ) (net : NetParts) → Each (IsWritableClient version count) net.clients → (c : ℕ)
    → All (λ (x : PhasedCommand real). KeepsCommand real IsShownList IsShownList IsShownNotice x.command) (script_of net c)
scripts-shown version count net is zero = all-none (λ (x : PhasedCommand real). KeepsCommand real IsShownList IsShownList IsShownNotice x.command)
scripts-shown version count net is (suc k) = place-shown version count net.clients k is

-- Names.

pub names-shown : (version count : ℕ) (cs : List ClientParts) → Each (IsWritableClient version count) cs → All (λ (c : ClientParts). are_shown c.name ≡ true) cs
names-shown version count [] is = all-none (λ (c : ClientParts). are_shown c.name ≡ true)
names-shown version count (c ∷ cs) is = λ x h. elim h [
  | inl e ↦ subst (λ (z : ClientParts). are_shown z.name ≡ true) (sym e) (word_shown c.name (name_word c.name is.0.name).bytes)
  | inr m ↦ names-shown version count cs is.1 x m
]

-- What is delivered.

pub of-clients : {A : Type 0} (P : A → Type 0) (net : NetParts) (f : ℕ → A) → ((c : ℕ) → P (f c)) → All P (of_clients net f)
of-clients P net f h = all-map P f (range_with_len 1 (length net.clients)) (λ c m. h c)

module _ (net : NetParts) (scripts : (c : ℕ) → All (λ (x : PhasedCommand real). KeepsCommand real IsShownList IsShownList IsShownNotice x.command) (script_of net c)) (journal : List EntryParts) where
  pub received-shown : All (All IsShownDelivery) (of_clients net (received_by net journal))
  received-shown =
      let kept = after-kept real IsShownList IsShownList IsShownNotice (phased_net net) scripts (journal_of journal) (length (journal_of journal)) (opening_moment real (phased_net net)) (opening-kept real IsShownList IsShownList IsShownNotice (phased_net net) scripts) in
      of-clients (All IsShownDelivery) net (received_by net journal) (λ c. deliveries-shown (((moment_by net journal).state.state (home_of net c)).inbox c) ((kept.servers (home_of net c)).inbox c))

  told-shown : (n : ℕ) (es : List EntryParts) → All (All IsShownSent) (told_from net journal n es)
  told-shown n [] = all-none (All IsShownSent)
  told-shown n (e ∷ es) = λ x h. elim h [
    | inl q ↦ subst (All IsShownSent) (sym q) first
    | inr m ↦ told-shown (suc n) es x m
  ]
    where
      first : All IsShownSent (told_of net (found_of real (phased_net net) (journal_of journal) n) e)
      first =
          let kept = found-after-kept real IsShownList IsShownList IsShownNotice (phased_net net) scripts (journal_of journal) n (opening_moment real (phased_net net)) (opening-kept real IsShownList IsShownList IsShownNotice (phased_net net) scripts) in
          sent-shown _ ((net_at real (phased_net net) (found_of real (phased_net net) (journal_of journal) n).phase).links e.server)
          (λ link. messages-kept-by real IsShownList IsShownList IsShownNotice (phased_net net) scripts (found_of real (phased_net net) (journal_of journal) n) (entry_of e) link kept)

  pub all-told-shown : All (All IsShownSent) (told_by net journal)
  all-told-shown = told-shown zero journal

pub as-many-told : (net : NetParts) (journal : List EntryParts) → length (told_by net journal) ≡ length journal
as-many-told net journal = told-length net journal zero journal

-- Names differ.

both-ways : (a b : List ℕ) → bytes_eq a b ≡ false → bytes_eq b a ≡ false
both-ways a b e = go (bytes_eq b a) refl
  where
    clash : (b : Bool) → b ≡ true → b ≡ false → ⊥
    clash b p q = cc

    go : (t : Bool) → bytes_eq b a ≡ t → bytes_eq b a ≡ false
    go true f = absurd (clash (bytes_eq a b) (ap (bytes_eq a) (bytes_eq-tells b a f) ∙ bytes_eq-self a) e)
    go false f = f

pub apart-there : (cs : List ClientParts) → AreApartInText cs → AreApart cs
apart-there [] h = tt
apart-there (c ∷ cs) h = ((λ k client at. both-ways client.name c.name (each cs k client at h.0)), apart-there cs h.1)
  where
    each : (ds : List ClientParts) (k : ℕ) (client : ClientParts) → slice_get ds k ≡ Some client → Each (λ (o : ClientParts). bytes_eq o.name c.name ≡ false) ds → bytes_eq client.name c.name ≡ false
    each [] k client at h = absurd cc
    each (d ∷ ds) zero client at h = subst (λ (z : ClientParts). bytes_eq z.name c.name ≡ false) (same_Some d client at) h.0
    each (d ∷ ds) (suc k) client at h = each ds k client at h.1
