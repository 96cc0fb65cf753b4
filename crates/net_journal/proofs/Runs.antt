-- What journals and their merge are in the laws of runs.
use Rattle.std.proofs.Common.{◌≡◌, ℕ, ◌<◌, ◌==◌, Bool, true, false, cond, List, [], ◌∷◌, inl, inr, map, filter, nat_cmp, refl, sym, ap, subst, ◌∙◌, arith}
use Rattle.std.specs.List.Sorted.{IsStableByKey, IsNonDecreasingBy}
use Rattle.base.specs.Sets.{Has}
use Rattle.base.proofs.Numbers.{Same, Is, Not, compare}
use Rattle.law_machine.specs.Machine.{Machine}
use Rattle.law_machine.specs.Journals.{entries_of, IsEarlier, IsInOrder, IsMerge, IsJournal}
use Rattle.law_machine.proofs.Merge.{of-has}
use Rattle.law_machine.proofs.Order.{merge-once}
use Rattle.law_routing.specs.Net.{Net}
use Rattle.law_routing.specs.Routing.{routing_machine, NetEntry}
use Rattle.law_phases.specs.Trees.{JournalEntry, entry_on, entry_off, entries_on}
use Rattle.net_model.specs.Real.{real}
use Rattle.net_model.specs.Parts.{EntryParts}
use Rattle.net_model.specs.Meaning.{entry_of, journal_of}
use Rattle.net_journal.specs.Merging.{IsJournalOf, AreServerJournals, journal_at, entries_in, merged_of}
use Rattle.net_journal.proofs.Lists.{Later}
use Rattle.net_journal.proofs.Joined.{joined, is_of}
use Rattle.net_journal.proofs.Sorted.{stamp_of, IsSooner, merged-order, merged-parts}
use Rattle.net_journal.proofs.Placed.{merged_of-order, merged_of-parts}

module _ (net : Net real) where
  abbrev m : Machine
  m = routing_machine real net

  -- an entry as the runs see it
  abbrev seen : EntryParts → NetEntry real net
  seen entry = entry_on real net (entry_of entry)

  parts-seen : (server : ℕ) (es : List EntryParts) → entries_of m server (entries_in net es) ≡ entries_in net (filter (is_of server) es)
  parts-seen server [] = refl
  parts-seen server (e ∷ es) = go (e.server == server) (parts-seen server es)
    where
      go : (b : Bool) → entries_of m server (entries_in net es) ≡ entries_in net (filter (is_of server) es)
          → cond b (seen e ∷ entries_of m server (entries_in net es)) (entries_of m server (entries_in net es)) ≡ entries_in net (cond b (e ∷ filter (is_of server) es) (filter (is_of server) es))
      go true ih = ap (λ l. seen e ∷ l) ih
      go false ih = ih

  has-seen : (x : NetEntry real net) (es : List EntryParts) → Has x (entries_in net es) → (e : EntryParts) × Has e es × (x ≡ seen e)
  has-seen x [] h = absurd h
  has-seen x (e ∷ es) (inl q) = (e, inl refl, q)
  has-seen x (e ∷ es) (inr h) = let n = has-seen x es h in (n.0, inr n.1, n.2)

  seen-has : (e : EntryParts) (es : List EntryParts) → Has e es → Has (seen e) (entries_in net es)
  seen-has e [] h = absurd h
  seen-has e (f ∷ es) (inl q) = inl (ap seen q)
  seen-has e (f ∷ es) (inr h) = inr (seen-has e es h)

  order-seen : (es : List EntryParts) → Later IsSooner es → IsInOrder m (entries_in net es)
  order-seen [] o = tt
  order-seen (e ∷ es) o = ((λ x h. let n = has-seen x es h in subst (IsEarlier m (seen e)) (sym n.2) (o.0 n.0 n.1)), order-seen es o.1)

  merge-seen : (lists : List (List EntryParts)) (es : List EntryParts) → Later IsSooner es → ((server : ℕ) → filter (is_of server) es ≡ journal_at lists server)
      → IsMerge m (λ server. entries_in net (journal_at lists server)) (entries_in net es)
  merge-seen lists es order parts = record { order = order-seen es order; parts = λ server. parts-seen server es ∙ ap (entries_in net) (parts server) }

  -- of journals one after the other, sorted
  pub merge-sorted : (lists : List (List EntryParts)) → AreServerJournals lists → (xs ys : List EntryParts) → xs ≡ joined lists
      → IsNonDecreasingBy stamp_of ys → IsStableByKey stamp_of nat_cmp xs ys → IsMerge m (λ server. entries_in net (journal_at lists server)) (entries_in net ys)
  merge-sorted lists are xs ys is rising stable =
      merge-seen lists ys (merged-order lists are xs ys is rising stable) (merged-parts lists are xs ys is rising stable)

  -- of journals one after the other, put in by stamp
  pub merge-placed : (lists : List (List EntryParts)) → AreServerJournals lists → IsMerge m (λ server. entries_in net (journal_at lists server)) (entries_in net (merged_of lists))
  merge-placed lists are = merge-seen lists (merged_of lists) (merged_of-order lists are) (merged_of-parts lists are)

  -- a journal is one in the runs, and the other way round
  pub journal-seen : (server : ℕ) (es : List EntryParts) → IsJournalOf server es → IsJournal m server (entries_in net es)
  journal-seen server [] j = tt
  journal-seen server (e ∷ es) j =
      (j.0, (λ x h. let n = has-seen x es h in subst (λ (z : NetEntry real net). e.stamp < z.stamp) (sym n.2) (j.1 n.0 n.1)), journal-seen server es j.2)

  pub seen-journal : (server : ℕ) (es : List EntryParts) → IsJournal m server (entries_in net es) → IsJournalOf server es
  seen-journal server [] j = tt
  seen-journal server (e ∷ es) j = (j.0, (λ f h. j.1 (seen f) (seen-has f es h)), seen-journal server es j.2)

  -- of what is in order, each server's entries are a journal
  part-journal : (server : ℕ) (xs : List (NetEntry real net)) → IsInOrder m xs → IsJournal m server (entries_of m server xs)
  part-journal server [] o = tt
  part-journal server (x ∷ xs) o = go (compare x.server server) (part-journal server xs o.1)
    where
      later : x.server ≡ server → (y : NetEntry real net) → Has y (entries_of m server xs) → x.stamp < y.stamp
      later q y h = elim (o.0 y (of-has m server xs y h)) [ inl l ↦ l | inr l ↦ absurd (omega (arith, l.1, q, of-server server xs y h)) ]
        where
          of-server : (server : ℕ) (xs : List (NetEntry real net)) (y : NetEntry real net) → Has y (entries_of m server xs) → y.server ≡ server
          of-server server [] y h = absurd h
          of-server server (z ∷ zs) y h = by (compare z.server server) h (of-server server zs y)
            where
              by : Same z.server server → Has y (entries_of m server (z ∷ zs)) → (Has y (entries_of m server zs) → y.server ≡ server) → y.server ≡ server
              by (Is p v) h ih = elim (rw v at h) [ inl a ↦ ap (λ (z : NetEntry real net). z.server) a ∙ p | inr b ↦ ih b ]
              by (Not n v) h ih = ih (rw v at h)

      go : Same x.server server → IsJournal m server (entries_of m server xs) → IsJournal m server (entries_of m server (x ∷ xs))
      go (Is p v) ih = rw v (p, later p, ih)
      go (Not n v) ih = rw v ih

  unseen : (es : List JournalEntry) → map (entry_off real net) (entries_on real net es) ≡ es
  unseen [] = refl
  unseen (e ∷ es) = ap (λ l. e ∷ l) (unseen es)

  -- what has the same journals is the same
  pub one-merge : (lists : List (List EntryParts)) (es : List EntryParts) (sofar : List JournalEntry)
      → IsMerge m (λ server. entries_in net (journal_at lists server)) (entries_in net es)
      → IsMerge m (λ server. entries_in net (journal_at lists server)) (entries_on real net sofar) → sofar ≡ journal_of es
  one-merge lists es sofar a b =
      sym (unseen sofar)
      ∙ ap (map (entry_off real net)) (merge-once m (entries_on real net sofar) (entries_in net es) b.order a.order (λ server. b.parts server ∙ sym (a.parts server)))
      ∙ unseen (journal_of es)

  -- what has a merge are journals
  pub are-journals : (lists : List (List EntryParts)) (sofar : List JournalEntry) → IsMerge m (λ server. entries_in net (journal_at lists server)) (entries_on real net sofar) → AreServerJournals lists
  are-journals lists sofar a server =
      seen-journal server (journal_at lists server) (subst (IsJournal m server) (a.parts server) (part-journal server (entries_on real net sofar) a.order))
