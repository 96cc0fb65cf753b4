-- A stable sort by stamp of what stands by server: by stamp and then by server, and each server's entries stay in their order.
use Rattle.std.proofs.Common.{◌≡◌, ℕ, suc, ◌≤◌, ◌<◌, Bool, true, false, cond, List, [], ◌∷◌, ◌⊎◌, inl, inr, filter, length, slice_index_or, nat_cmp, is_lt, refl, sym, ap, subst, ◌∙◌, arith}
use Rattle.std.specs.List.Sorted.{ties, IsStableByKey, IsNonDecreasingBy}
use Rattle.std.proofs.lemmas.Bool.Decides.{nat_tests}
use Rattle.base.specs.Sets.{Has}
use Rattle.base.proofs.Roots.{Has-filter, filter-Has}
use Rattle.net_model.specs.Parts.{EntryParts}
use Rattle.net_journal.proofs.Lists.{Later, later-filter, one-list}
use Rattle.net_journal.specs.Merging.{AreServerJournals, journal_at}
use Rattle.net_journal.proofs.Joined.{joined, is_of, IsRanked, ranked, parts}

abbrev pub stamp_of : EntryParts → ℕ
stamp_of entry = entry.stamp

-- by stamp, then by server
abbrev pub IsSooner : EntryParts → EntryParts → Type 0
IsSooner e f = (e.stamp < f.stamp) ⊎ ((e.stamp ≡ f.stamp) × (e.server < f.server))

-- the test that stamps are equal, as a sort makes it
abbrev ties_with : EntryParts → EntryParts → Bool
ties_with e f = ties (λ x y. is_lt (nat_cmp (stamp_of x) (stamp_of y))) e f

tied : (e f : EntryParts) → e.stamp ≡ f.stamp → ties_with e f ≡ true
tied e f q = grind (arith, nat_tests)

-- none is below an earlier one
abbrev IsUp : EntryParts → EntryParts → Type 0
IsUp e f = e.stamp ≤ f.stamp

first-up : (e : EntryParts) (es : List EntryParts) → ((j : ℕ) → j < length es → e.stamp ≤ (slice_index_or es j e).stamp) → (f : EntryParts) → Has f es → e.stamp ≤ f.stamp
first-up e [] h f m = absurd m
first-up e (x ∷ es) h f (inl q) = omega (arith, h 0 (omega arith), ap stamp_of q)
first-up e (x ∷ es) h f (inr m) = first-up e es (λ j l. h (suc j) (omega (arith, l))) f m

up : (es : List EntryParts) → IsNonDecreasingBy stamp_of es → Later IsUp es
up [] h = tt
up (e ∷ es) h = (first-up e es (λ j l. h 0 (suc j) e (omega arith) (omega (arith, l))), up es (λ i j d p l. h (suc i) (suc j) d (omega (arith, p)) (omega (arith, l))))

-- entries of which those with equal stamps stand by server
in-order : (es : List EntryParts) → Later IsUp es → ((e : EntryParts) → Later IsRanked (filter (ties_with e) es)) → Later IsSooner es
in-order [] u r = tt
in-order (e ∷ es) u r = (sooner, in-order es u.1 (λ x. rest x (ties_with x e) (r x)))
  where
    rest : (x : EntryParts) (b : Bool) → Later IsRanked (cond b (e ∷ filter (ties_with x) es) (filter (ties_with x) es)) → Later IsRanked (filter (ties_with x) es)
    rest x true l = l.1
    rest x false l = l

    mine : Later IsRanked (e ∷ filter (ties_with e) es)
    mine = subst (λ b. Later IsRanked (cond b (e ∷ filter (ties_with e) es) (filter (ties_with e) es))) (tied e e refl) (r e)

    order : (a b : ℕ) → a ≤ b → (a < b) ⊎ (a ≡ b)
    order a b h = grind arith

    sooner : (f : EntryParts) → Has f es → IsSooner e f
    sooner f m = elim (order e.stamp f.stamp (u.0 f m)) [ inl l ↦ inl l | inr q ↦ elim (mine.0 f (Has-filter (ties_with e) f es m (tied e f q))) [ inl l ↦ inr (q, l) | inr l ↦ absurd (omega (arith, q, l.1)) ] ]

server-is : (server : ℕ) (e : EntryParts) → is_of server e ≡ true → e.server ≡ server
server-is server e h = grind (arith, nat_tests)

-- what is in order has each server's entries as what stands by server with the same members
module _ (xs ys : List EntryParts) (apart : Later IsRanked xs) (ordered : Later IsSooner ys) (to : (e : EntryParts) → Has e ys → Has e xs) (from : (e : EntryParts) → Has e xs → Has e ys) where
  pub same-parts : (server : ℕ) → filter (is_of server) ys ≡ filter (is_of server) xs
  same-parts server = one-list stamp_of (filter (is_of server) ys) (filter (is_of server) xs)
      (later-filter IsSooner (λ e f. e.stamp < f.stamp) (is_of server) sooner ys ordered)
      (later-filter IsRanked (λ e f. e.stamp < f.stamp) (is_of server) lower xs apart)
      (λ e m. let n = filter-Has (is_of server) e ys m in Has-filter (is_of server) e xs (to e n.0) n.1)
      (λ e m. let n = filter-Has (is_of server) e xs m in Has-filter (is_of server) e ys (from e n.0) n.1)
    where
      sooner : (e f : EntryParts) → is_of server e ≡ true → is_of server f ≡ true → IsSooner e f → e.stamp < f.stamp
      sooner e f p q (inl l) = l
      sooner e f p q (inr l) = absurd (omega (arith, server-is server e p, server-is server f q, l.1))

      lower : (e f : EntryParts) → is_of server e ≡ true → is_of server f ≡ true → IsRanked e f → e.stamp < f.stamp
      lower e f p q (inl l) = absurd (omega (arith, server-is server e p, server-is server f q, l))
      lower e f p q (inr l) = l.1

module _ (xs ys : List EntryParts) (apart : Later IsRanked xs) (rising : IsNonDecreasingBy stamp_of ys) (stable : IsStableByKey stamp_of nat_cmp xs ys) where
  ordered : Later IsSooner ys
  ordered =
      in-order ys (up ys rising)
      (λ e. subst (Later IsRanked) (sym (stable e)) (later-filter IsRanked IsRanked (ties_with e) (λ x y a b r. r) xs apart))

  to : (e : EntryParts) → Has e ys → Has e xs
  to e m = (filter-Has (ties_with e) e xs (subst (Has e) (stable e) (Has-filter (ties_with e) e ys m (tied e e refl)))).0

  from : (e : EntryParts) → Has e xs → Has e ys
  from e m = (filter-Has (ties_with e) e ys (subst (Has e) (sym (stable e)) (Has-filter (ties_with e) e xs m (tied e e refl)))).0

  sorted-parts : (server : ℕ) → filter (is_of server) ys ≡ filter (is_of server) xs
  sorted-parts = same-parts xs ys apart ordered to from

-- of journals one after the other, sorted
module _ (lists : List (List EntryParts)) (are : AreServerJournals lists) (xs ys : List EntryParts) (is : xs ≡ joined lists) (rising : IsNonDecreasingBy stamp_of ys) (stable : IsStableByKey stamp_of nat_cmp xs ys) where
  apart-here : Later IsRanked xs
  apart-here = subst (Later IsRanked) (sym is) (ranked lists are)

  pub merged-order : Later IsSooner ys
  merged-order = ordered xs ys apart-here rising stable

  pub merged-parts : (server : ℕ) → filter (is_of server) ys ≡ journal_at lists server
  merged-parts server = sorted-parts xs ys apart-here rising stable server ∙ ap (filter (is_of server)) is ∙ parts lists are server
