-- The ids of the constraints that the attributes satisfy.
use Rattle.std.proofs.Common.{◌≡◌, ◌+◌, ◌&&◌, ◌∙◌, ℕ, Bool, true, false, cond, refl, sym, ap, subst, arith, List, [], ◌∷◌, ◌++◌, Some, None}
use Rattle.std.specs.Prelude.{Vec}
use Rattle.std.specs.declared.alloc.Global.{Global}
use Rattle.std.specs.List.{IsDistinct}
use Rattle.std.specs.Map.{lookup, keys_of}
use Rattle.std.specs.Ordering.{is_eq, nat_cmp, ordering_reverse}
use Rattle.std.specs.Str.{bytes_eq}
use Rattle.std.proofs.lemmas.Cmp.{nat_list_cmp_total}
use Rattle.std.proofs.lemmas.Map.Text.{is_eq-slice_cmp}
use Rattle.std.specs.Cmp.Lexicographic.{slice_cmp}
use Rattle.std.specs.declared.cmp.Ordering.TheVariants.{Less}
use Rattle.filter_values.specs.declared.value.Value.{Value}
use Rattle.filter_constraints.specs.Constraint.{ConstraintParts, satisfies}
use Rattle.filter_constraints.proofs.BytesLemmas.{bytes_eq-tells}
use Rattle.filter_types.specs.Notice.{Attribute, attribute_at, AreRising}
use Rattle.filter_types.specs.Cover.{attribute_satisfies}
use Rattle.filter_types.proofs.SideBySide.{later_rising}
use Rattle.match_index.specs.Pairs.{tally, Same, Test, Pair, passes, ids_met}
use Rattle.match_index.proofs.Tallies.{tally-append, tally-agree}
use Rattle.match_index.specs.Keys.{same_bytes, at_key, key_cmp}
use Rattle.match_filters.specs.Index.{Use, is_satisfied, ids_satisfied}
use Rattle.match_filters.specs.Shelves.{constraint_of, uses_of}
use Rattle.match_filters.proofs.ShelfLaws.{AreNamed, shelf-only, shelf-none}
use Rattle.base.proofs.Lists.{bytes_eq-self}

pub tally-satisfied : (q : ℕ → Bool) (n : List Attribute) (us : List Use) → tally q (ids_satisfied n us) ≡ tally (λ u. is_satisfied n u.0 && q u.1) us
tally-satisfied q n [] = refl
tally-satisfied q n (u ∷ us) = go (is_satisfied n u.0) (tally-satisfied q n us)
  where
    go : (b : Bool) → tally q (ids_satisfied n us) ≡ tally (λ x. is_satisfied n x.0 && q x.1) us → tally q (cond b (u.1 ∷ ids_satisfied n us) (ids_satisfied n us)) ≡ cond (b && q u.1) 1 0 + tally (λ x. is_satisfied n x.0 && q x.1) us
    go true h = ap (λ k. cond (q u.1) 1 0 + k) h
    go false h = omega (arith, h)

pub tally-met : (q : ℕ → Bool) (v : Value) (pairs : List Pair) → tally q (ids_met v pairs) ≡ tally (λ x. passes v x.0 && q x.1) pairs
tally-met q v [] = refl
tally-met q v (x ∷ pairs) = go (passes v x.0) (tally-met q v pairs)
  where
    go : (b : Bool) → tally q (ids_met v pairs) ≡ tally (λ y. passes v y.0 && q y.1) pairs → tally q (cond b (x.1 ∷ ids_met v pairs) (ids_met v pairs)) ≡ cond (b && q x.1) 1 0 + tally (λ y. passes v y.0 && q y.1) pairs
    go true h = ap (λ k. cond (q x.1) 1 0 + k) h
    go false h = omega (arith, h)

-- what one attribute satisfies
passes-one : (name : List ℕ) (v : Value) (t : Test) → passes v t ≡ is_satisfied ((name, v) ∷ []) (constraint_of name t)
unfolding satisfies
passes-one name v t = rw (bytes_eq-self name) refl

differs : (m n : List ℕ) → same_bytes m n ≡ false → bytes_eq m n ≡ false
differs m n h = sym (is_eq-slice_cmp m n) ∙ h

not-of-name : (a : Attribute) (c : ConstraintParts) → bytes_eq a.0 c.name ≡ false → is_satisfied (a ∷ []) c ≡ false
not-of-name a c h = ap (λ b. attribute_satisfies (cond b (Some a) None) c) h

are-named : (a : Attribute) (q : ℕ → Bool) → AreNamed a.0 (λ u. is_satisfied (a ∷ []) u.0 && q u.1)
are-named a q u h = ap (λ b. b && q u.1) (not-of-name a u.0 (differs a.0 u.0.name h))

-- an attribute satisfies constraints on the shelf of its name alone
pub meets-shelf : (name : List ℕ) (a : Attribute) (pairs : List Pair) (es : List (Vec ℕ Global × List Pair)) → name ≡ a.0 → IsDistinct (λ j k. is_eq (key_cmp j k)) (keys_of es) → lookup (at_key name) es ≡ Some pairs → Same (ids_met a.1 pairs) (ids_satisfied (a ∷ []) (uses_of es))
meets-shelf name a pairs es n distinct h = λ q.
    let here = subst (λ (u : List ℕ). lookup (at_key u) es ≡ Some pairs) n h in
    let each = tally-agree {X = Pair} (λ x. passes a.1 x.0 && q x.1) (λ x. is_satisfied (a ∷ []) (constraint_of a.0 x.0) && q x.1) pairs (λ x. ap (λ b. b && q x.1) (passes-one a.0 a.1 x.0)) in
    tally-met q a.1 pairs ∙ each ∙ sym (shelf-only a.0 (λ u. is_satisfied (a ∷ []) u.0 && q u.1) pairs es (are-named a q) distinct here) ∙ sym (tally-satisfied q (a ∷ []) (uses_of es))

pub meets-none : (name : List ℕ) (a : Attribute) (es : List (Vec ℕ Global × List Pair)) → name ≡ a.0 → lookup (at_key name) es ≡ None → Same [] (ids_satisfied (a ∷ []) (uses_of es))
meets-none name a es n h = λ q.
    let none = subst (λ (u : List ℕ). lookup (at_key u) es ≡ None) n h in
    sym (tally-satisfied q (a ∷ []) (uses_of es) ∙ shelf-none a.0 (λ u. is_satisfied (a ∷ []) u.0 && q u.1) es (are-named a q) none)

less-differs : (m n : List ℕ) → slice_cmp nat_cmp m n ≡ Less → bytes_eq n m ≡ false
less-differs m n h = sym (is_eq-slice_cmp n m) ∙ ap is_eq (nat_list_cmp_total.antisymm n m ∙ ap ordering_reverse h)

-- no later attribute has the name
later-none : (m : List ℕ) (n : List Attribute) (a : Attribute) → slice_cmp nat_cmp m a.0 ≡ Less → AreRising (a ∷ n) → attribute_at (a ∷ n) m ≡ None
later-none m [] a h r = rw (less-differs m a.0 h) refl
later-none m (b ∷ n) a h r = rw (less-differs m a.0 h) (later-none m n b (nat_list_cmp_total.trans m a.0 b.0 h r.0) r.1)

pub none-later : (a : Attribute) (n : List Attribute) → AreRising (a ∷ n) → attribute_at n a.0 ≡ None
none-later a [] r = refl
none-later a (b ∷ n) r = later-none a.0 n b r.0 r.1

-- a constraint is satisfied by the first attribute or by a later one, and not by both
either : (a : Attribute) (n : List Attribute) (c : ConstraintParts) (b : Bool) → AreRising (a ∷ n) → cond (is_satisfied (a ∷ []) c && b) 1 0 + cond (is_satisfied n c && b) 1 0 ≡ cond (is_satisfied (a ∷ n) c && b) 1 0
either a n c b r = go (bytes_eq a.0 c.name) refl
  where
    go : (s : Bool) → bytes_eq a.0 c.name ≡ s → cond (attribute_satisfies (cond s (Some a) None) c && b) 1 0 + cond (attribute_satisfies (attribute_at n c.name) c && b) 1 0 ≡ cond (attribute_satisfies (cond s (Some a) (attribute_at n c.name)) c && b) 1 0
    go true e =
        let k = subst (λ (m : List ℕ). attribute_at n m ≡ None) (bytes_eq-tells a.0 c.name e) (none-later a n r) in
        omega (arith, ap {B = ℕ} (λ o. cond (attribute_satisfies o c && b) 1 0) k)
    go false e = omega arith

-- what the first attribute satisfies, and what the later ones do
pub split-first : (a : Attribute) (n : List Attribute) (us : List Use) → AreRising (a ∷ n) → Same (ids_satisfied (a ∷ []) us ++ ids_satisfied n us) (ids_satisfied (a ∷ n) us)
split-first a n us r = λ q. tally-append q (ids_satisfied (a ∷ []) us) (ids_satisfied n us) ∙ counted q us
  where
    each : (q : ℕ → Bool) (us : List Use) → tally (λ u. is_satisfied (a ∷ []) u.0 && q u.1) us + tally (λ u. is_satisfied n u.0 && q u.1) us ≡ tally (λ u. is_satisfied (a ∷ n) u.0 && q u.1) us
    each q [] = refl
    each q (u ∷ us) = omega (arith, each q us, either a n u.0 (q u.1) r)

    counted : (q : ℕ → Bool) (us : List Use) → tally q (ids_satisfied (a ∷ []) us) + tally q (ids_satisfied n us) ≡ tally q (ids_satisfied (a ∷ n) us)
    counted q us = omega (arith, tally-satisfied q (a ∷ []) us, tally-satisfied q n us, tally-satisfied q (a ∷ n) us, each q us)

none-satisfied : (us : List Use) → ids_satisfied [] us ≡ []
none-satisfied [] = refl
none-satisfied (u ∷ us) = none-satisfied us

-- the ids that some attributes have brought, and those that the rest of the attributes will bring
pub record Walked (n rest : List Attribute) (us : List Use) (hits : List ℕ) : Type 0 where
  pub same : Same (hits ++ ids_satisfied rest us) (ids_satisfied n us)
  pub rising : AreRising rest

pub walked-start : (n : List Attribute) (us : List Use) → AreRising n → Walked n n us []
walked-start n us r = record { same = λ p. refl; rising = r }

pub walked-more : (n rest : List Attribute) (a : Attribute) (us : List Use) (hits found : List ℕ) → Walked n (a ∷ rest) us hits → Same found (ids_satisfied (a ∷ []) us) → Walked n rest us (hits ++ found)
walked-more n rest a us hits found w h = record {
  same = λ p. omega (arith, w.same p, h p, split-first a rest us w.rising p, tally-append p hits found, tally-append p (hits ++ found) (ids_satisfied rest us), tally-append p hits (ids_satisfied (a ∷ rest) us), tally-append p (ids_satisfied (a ∷ []) us) (ids_satisfied rest us));
  rising = later_rising (a ∷ rest) a rest refl w.rising;
}

pub walked-end : (n : List Attribute) (us : List Use) (hits : List ℕ) → Walked n [] us hits → Same hits (ids_satisfied n us)
walked-end n us hits w = λ p. omega (arith, w.same p, tally-append p hits (ids_satisfied [] us), ap (tally p) (none-satisfied us))
