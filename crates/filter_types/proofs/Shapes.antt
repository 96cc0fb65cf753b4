-- The tests of a notice and of a canonical list tell what they test.
use Rattle.std.proofs.Common.{◌≡◌, ◌<◌, ◌≤◌, ℕ, true, refl, ap, arith, List, [], ◌∷◌, length, Ordering}
use Rattle.std.specs.declared.cmp.Ordering.TheVariants.{Less, Equal, Greater}
use Rattle.std.specs.Ordering.{nat_cmp, is_lt}
use Rattle.std.specs.Cmp.Lexicographic.{slice_cmp}
use Rattle.std.proofs.lemmas.Bool.Decides.{nat_tests}
use Rattle.filter_constraints.specs.Constraint.{ConstraintParts}
use Rattle.filter_constraints.specs.Order.{constraint_cmp}
use Rattle.filter_constraints.specs.OrderTotal.{constraint_total}
use Rattle.filter_types.specs.Notice.{Attribute, AreRising, AreNames, AreValues, IsNotice, is_name_less, are_rising, is_notice}
use Rattle.filter_types.specs.Canonical.{IsBelow, AreInCanonicalOrder, AreConstraints, IsListed, is_rising, is_listed}
use Rattle.std.proofs.lemmas.Bool.{and_parts, and_from}
use Rattle.base.proofs.Bools.{is_lt-less}

names-told : (n : List Attribute) → AreRising n → are_rising n ≡ true
names-told [] r = refl
names-told (a ∷ []) r = refl
names-told (a ∷ b ∷ n) r = and_from (is_name_less a b) (are_rising (b ∷ n)) (ap is_lt r.0) (names-told (b ∷ n) r.1)

names-tell : (n : List Attribute) → are_rising n ≡ true → AreRising n
names-tell [] h = tt
names-tell (a ∷ []) h = tt
names-tell (a ∷ b ∷ n) h = let p = and_parts (is_name_less a b) (are_rising (b ∷ n)) h in (is_lt-less (slice_cmp nat_cmp a.0 b.0) p.0, names-tell (b ∷ n) p.1)

pub notice_told : (n : List Attribute) → IsNotice n → is_notice n ≡ true
unfolding is_notice
notice_told n i = let r = names-told n i.rising in grind (arith, nat_tests)

pub notice_of : (n : List Attribute) → 0 < length n → length n ≤ 64 → are_rising n ≡ true → AreNames n → AreValues n → IsNotice n
notice_of n s f r m v = record { some = s; few = f; rising = names-tell n r; names = m; values = v }

rising-told : (f : List ConstraintParts) → AreInCanonicalOrder f → is_rising f ≡ true
rising-told [] r = refl
rising-told (c ∷ []) r = refl
rising-told (c ∷ d ∷ f) r = and_from (is_lt (constraint_cmp c d)) (is_rising (d ∷ f)) (ap is_lt r.0.0) (rising-told (d ∷ f) r.1)

below : (c d : ConstraintParts) (f : List ConstraintParts) → constraint_cmp c d ≡ Less → IsBelow d f → IsBelow c f
below c d [] h b = tt
below c d (e ∷ f) h b = (constraint_total.trans c d e h b.0, below c d f h b.1)

rising-tell : (f : List ConstraintParts) → is_rising f ≡ true → AreInCanonicalOrder f
rising-tell [] h = tt
rising-tell (c ∷ []) h = (tt, tt)
rising-tell (c ∷ d ∷ f) h =
    let p = and_parts (is_lt (constraint_cmp c d)) (is_rising (d ∷ f)) h in
    let l = is_lt-less (constraint_cmp c d) p.0 in
    let r = rising-tell (d ∷ f) p.1 in
    ((l, below c d f l r.0), r)

pub listed_told : (most : ℕ) (f : List ConstraintParts) → IsListed most f → is_listed most f ≡ true
unfolding is_listed
listed_told most f i = let r = rising-told f i.rising in grind (arith, nat_tests)

pub listed_of : (most : ℕ) (f : List ConstraintParts) → 0 < length f → length f ≤ most → is_rising f ≡ true → AreConstraints f → IsListed most f
listed_of most f s l r w = record { rising = rising-tell f r; some = s; few = l; whole = w }
