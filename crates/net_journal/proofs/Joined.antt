-- Journals one after the other: by server and then by stamp, and each server's entries are its journal.
use Rattle.std.proofs.Common.{◌≡◌, ℕ, zero, suc, ◌+◌, ◌≤◌, ◌<◌, ◌==◌, Bool, List, [], ◌∷◌, ◌++◌, ◌⊎◌, inl, inr, map, filter, length, slice_index_or, refl, sym, ap, subst, ◌∙◌, arith, eq-eqb, ne_eqb, length-append}
use Rattle.std.specs.List.{flat_map, sum_by}
use Rattle.std.proofs.lemmas.List.Sums.{sum_by-cons}
use Rattle.base.specs.Sets.{Has}
use Rattle.law_machine.proofs.Lists.{append-nothing}
use Rattle.net_model.specs.Parts.{EntryParts}
use Rattle.net_journal.specs.Merging.{IsJournalOf, AreServerJournals, journal_at}
use Rattle.net_journal.proofs.Lists.{Later, later-append, filter-append, filter-all, filter-none}
use Rattle.base.proofs.Sets.{has-append}

abbrev pub joined : List (List EntryParts) → List EntryParts
joined lists = flat_map (λ list. list) lists

pub joined-map : {X : Type 0} (f : X → List EntryParts) (xs : List X) → flat_map f xs ≡ joined (map f xs)
joined-map f [] = refl
joined-map f (x ∷ xs) = ap (λ l. f x ++ l) (joined-map f xs)

pub length-joined : {X : Type 0} (f : X → List EntryParts) (xs : List X) → length (flat_map f xs) ≡ sum_by (λ x. length (f x)) xs
length-joined f [] = refl
length-joined f (x ∷ xs) = omega (arith, length-append (f x) (flat_map f xs), length-joined f xs, sum_by-cons (λ y. length (f y)) x xs)

-- an entry is of this server
abbrev pub is_of : ℕ → EntryParts → Bool
is_of server entry = entry.server == server

-- by server, then by stamp
abbrev pub IsRanked : EntryParts → EntryParts → Type 0
IsRanked e f = (e.server < f.server) ⊎ ((e.server ≡ f.server) × (e.stamp < f.stamp))

-- journals of servers from this one on
abbrev AreFrom : ℕ → List (List EntryParts) → Type 0
AreFrom server [] = Unit {0}
AreFrom server (list ∷ lists) = IsJournalOf server list × AreFrom (suc server) lists

are-from : (n : ℕ) (lists : List (List EntryParts)) → ((k : ℕ) → IsJournalOf (n + k) (slice_index_or lists k [])) → AreFrom n lists
are-from n [] h = tt
are-from n (l ∷ ls) h = (subst (λ s. IsJournalOf s l) (omega arith) (h 0), are-from (suc n) ls (λ k. subst (λ s. IsJournalOf s (slice_index_or ls k [])) (shift k) (h (suc k))))
  where
    shift : (k : ℕ) → n + suc k ≡ suc n + k
    shift k = omega arith

own : (n : ℕ) (es : List EntryParts) → IsJournalOf n es → (e : EntryParts) → Has e es → e.server ≡ n
own n [] j e h = absurd h
own n (f ∷ es) j e (inl q) = ap (λ (z : EntryParts). z.server) q ∙ j.0
own n (f ∷ es) j e (inr h) = own n es j.2 e h

ranked-one : (n : ℕ) (es : List EntryParts) → IsJournalOf n es → Later IsRanked es
ranked-one n [] j = tt
ranked-one n (e ∷ es) j = ((λ f h. inr (j.0 ∙ sym (own n es j.2 f h), j.1 f h)), ranked-one n es j.2)

ranked-from : (n : ℕ) (ls : List (List EntryParts)) → AreFrom n ls → Later IsRanked (joined ls) × ((e : EntryParts) → Has e (joined ls) → n ≤ e.server)
ranked-from n [] a = (tt, λ e h. absurd h)
ranked-from n (l ∷ ls) a =
    let ih = ranked-from (suc n) ls a.1 in (
      later-append IsRanked l (joined ls) (ranked-one n l a.0) ih.0 (λ e f h g. inl (omega (arith, own n l a.0 e h, ih.1 f g))),
      λ e h. elim (has-append e l (joined ls) h) [ inl x ↦ omega (arith, own n l a.0 e x) | inr x ↦ omega (arith, ih.1 e x) ],
    )

none-below : (n t : ℕ) (ls : List (List EntryParts)) → AreFrom n ls → t < n → filter (is_of t) (joined ls) ≡ []
none-below n t ls a low =
    filter-none (is_of t) (joined ls) (λ e h. let up = (ranked-from n ls a).1 e h in ne_eqb e.server t (λ q. omega (arith, q, up, low)))

part-of : (n k : ℕ) (ls : List (List EntryParts)) → AreFrom n ls → filter (is_of (n + k)) (joined ls) ≡ slice_index_or ls k []
part-of n k [] a = refl
part-of n zero (l ∷ ls) a =
    filter-append (is_of (n + zero)) l (joined ls)
    ∙ ap (λ z. z ++ filter (is_of (n + zero)) (joined ls)) (filter-all (is_of (n + zero)) l (λ e h. eq-eqb e.server (n + zero) (omega (arith, own n l a.0 e h))))
    ∙ ap (λ z. l ++ z) (none-below (suc n) (n + zero) ls a.1 (omega arith))
    ∙ append-nothing l
part-of n (suc k) (l ∷ ls) a =
    filter-append (is_of (n + suc k)) l (joined ls)
    ∙ ap (λ z. z ++ filter (is_of (n + suc k)) (joined ls)) (filter-none (is_of (n + suc k)) l (λ e h. let q = own n l a.0 e h in ne_eqb e.server (n + suc k) (λ r. omega (arith, q, r))))
    ∙ ap (λ s. filter (is_of s) (joined ls)) shift
    ∙ part-of (suc n) k ls a.1
  where
    shift : n + suc k ≡ suc n + k
    shift = omega arith

from-one : (ls : List (List EntryParts)) → AreServerJournals ls → AreFrom 1 ls
from-one ls are = are-from 1 ls (λ k. subst (λ s. IsJournalOf s (slice_index_or ls k [])) (shift k) (are (suc k)))
  where
    shift : (k : ℕ) → suc k ≡ 1 + k
    shift k = omega arith

pub ranked : (ls : List (List EntryParts)) → AreServerJournals ls → Later IsRanked (joined ls)
ranked ls are = (ranked-from 1 ls (from-one ls are)).0

pub parts : (ls : List (List EntryParts)) → AreServerJournals ls → (server : ℕ) → filter (is_of server) (joined ls) ≡ journal_at ls server
parts ls are zero = none-below 1 zero ls (from-one ls are) (omega arith)
parts ls are (suc k) = ap (λ s. filter (is_of s) (joined ls)) shift ∙ part-of 1 k ls (from-one ls are)
  where
    shift : suc k ≡ 1 + k
    shift = omega arith
