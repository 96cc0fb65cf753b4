-- What a change of one shelf does to the uses of all.
use Rattle.std.proofs.Common.{◌≡◌, ◌+◌, ◌∙◌, ℕ, Bool, true, false, cond, refl, sym, ap, subst, arith, List, [], ◌∷◌, Some, None}
use Rattle.std.specs.Prelude.{Vec}
use Rattle.std.specs.declared.alloc.Global.{Global}
use Rattle.std.specs.List.{IsDistinct, AllByRecursion}
use Rattle.std.specs.Map.{lookup, set_value, keys_of}
use Rattle.std.specs.BTreeMap.{insert_entry}
use Rattle.std.specs.Ordering.{is_eq}
use Rattle.filter_constraints.specs.Constraint.{ConstraintParts}
use Rattle.match_index.specs.Pairs.{tally, Same, Pair, test_of}
use Rattle.match_index.specs.Groups.{spread}
use Rattle.match_index.proofs.Tallies.{tally-append, tally-none}
use Rattle.match_index.proofs.Groups.{spread-insert, spread-set, spread-absent}
use Rattle.match_index.specs.Keys.{same_bytes, at_key, key_cmp}
use Rattle.match_index.proofs.Keys.{same-one, same-same}
use Rattle.match_filters.specs.Index.{Use}
use Rattle.match_filters.specs.Shelves.{constraint_of, named, uses_of}

module _ {K X P : Type 0} (part : K → X → List P) (p : P → Bool) (t : K → Bool) (none : (q : K) (x : X) → t q ≡ false → tally p (part q x) ≡ 0) where
  rest-absent : (eq : K → K → Bool) (a : K) (es : List (K × X)) → ((b : K) → eq a b ≡ t b) → AllByRecursion (λ b. eq a b ≡ false) (keys_of es) → tally p (spread part es) ≡ 0
  rest-absent eq a [] same h = refl
  rest-absent eq a (e ∷ es) same h = omega (arith, tally-append p (part e.0 e.1) (spread part es), none e.0 e.1 (sym (same e.0) ∙ h.0), rest-absent eq a es same h.1)

  -- where the keys are distinct and only the parts under one key count, that key's part counts for all
  pub spread-only : (eq : K → K → Bool) → ((a b : K) → t a ≡ true → eq a b ≡ t b) → (m : X → ℕ) (x : X) (es : List (K × X)) → ((q : K) (y : X) → t q ≡ true → tally p (part q y) ≡ m y) → IsDistinct eq (keys_of es) → lookup t es ≡ Some x → tally p (spread part es) ≡ m x
  unfolding IsDistinct
  spread-only eq same m x [] one distinct h = cc
  spread-only eq same m x (e ∷ es) one distinct h = go (t e.0) refl h (spread-only eq same m x es one distinct.1) (λ w. rest-absent eq e.0 es (λ b. same e.0 b w) distinct.0)
    where
      go : (b : Bool) → t e.0 ≡ b → cond b (Some e.1) (lookup t es) ≡ Some x → (lookup t es ≡ Some x → tally p (spread part es) ≡ m x) → (t e.0 ≡ true → tally p (spread part es) ≡ 0) → tally p (spread part (e ∷ es)) ≡ m x
      go true w g r k = let s : e.1 ≡ x = cc in omega (arith, tally-append p (part e.0 e.1) (spread part es), one e.0 e.1 w, ap {B = ℕ} m s, k w)
      go false w g r k = omega (arith, tally-append p (part e.0 e.1) (spread part es), none e.0 e.1 w, r g)

abbrev shelf : Vec ℕ Global → List Pair → List Use
shelf k pairs = named k.items pairs

-- how many uses of a shelf pass, its name being known
abbrev pub count : List ℕ → (Use → Bool) → List Pair → ℕ
count name p pairs = tally (λ (x : Pair). p (constraint_of name x.0, x.1)) pairs

pub tally-named : (p : Use → Bool) (name : List ℕ) (pairs : List Pair) → tally p (named name pairs) ≡ count name p pairs
tally-named p name [] = refl
tally-named p name (x ∷ pairs) = ap (λ n. cond (p (constraint_of name x.0, x.1)) 1 0 + n) (tally-named p name pairs)

of-shelf : (name : List ℕ) (p : Use → Bool) (k : Vec ℕ Global) (pairs : List Pair) → at_key name k ≡ true → tally p (shelf k pairs) ≡ count name p pairs
of-shelf name p k pairs h = tally-named p k.items pairs ∙ ap {B = ℕ} (λ (m : List ℕ). count m p pairs) (same-one name k h)

-- other pairs on a shelf
set : (name : List ℕ) (p : Use → Bool) (old new : List Pair) (es fs : List (Vec ℕ Global × List Pair)) → lookup (at_key name) es ≡ Some old → fs ≡ set_value (at_key name) es new → tally p (uses_of fs) + count name p old ≡ tally p (uses_of es) + count name p new
set name p old new es fs h f = omega (arith, ap {B = ℕ} (λ (xs : List (Vec ℕ Global × List Pair)). tally p (uses_of xs)) f, spread-set shelf p (at_key name) (count name p) old new es (of-shelf name p) h)

pub shelf-more : (name : List ℕ) (c : ConstraintParts) (id : ℕ) (old new : List Pair) (es fs : List (Vec ℕ Global × List Pair)) → name ≡ c.name → lookup (at_key name) es ≡ Some old → fs ≡ set_value (at_key name) es new → Same new ((test_of c, id) ∷ old) → Same (uses_of fs) ((c, id) ∷ uses_of es)
shelf-more name c id old new es fs n h f s = λ p. omega (arith, set name p old new es fs h f, s (λ x. p (constraint_of name x.0, x.1)), ap {B = ℕ} (λ (m : List ℕ). cond (p (constraint_of m (test_of c), id)) 1 0) n)

pub shelf-new : (name : List ℕ) (c : ConstraintParts) (id : ℕ) (key : Vec ℕ Global) (new : List Pair) (es fs : List (Vec ℕ Global × List Pair)) → name ≡ c.name → key.items ≡ name → lookup (at_key name) es ≡ None → fs ≡ insert_entry key_cmp es key new → Same new ((test_of c, id) ∷ []) → Same (uses_of fs) ((c, id) ∷ uses_of es)
shelf-new name c id key new es fs n k h f s = λ p.
    let absent = subst (λ (u : List ℕ). lookup (at_key u) es ≡ None) (sym k) h in
    let e = tally-named p key.items new ∙ ap {B = ℕ} (λ (m : List ℕ). count m p new) (k ∙ n) in
    omega (arith, ap {B = ℕ} (λ (xs : List (Vec ℕ Global × List Pair)). tally p (uses_of xs)) f, spread-insert shelf p key_cmp key new es absent, e, s (λ x. p (constraint_of c.name x.0, x.1)))

-- what passes is of this name
abbrev pub AreNamed : List ℕ → (Use → Bool) → Type 0
AreNamed name p = (u : Use) → same_bytes name u.0.name ≡ false → p u ≡ false

others : (name : List ℕ) (p : Use → Bool) → AreNamed name p → (k : Vec ℕ Global) (pairs : List Pair) → at_key name k ≡ false → tally p (shelf k pairs) ≡ 0
others name p none k pairs h = tally-named p k.items pairs ∙ tally-none (λ x. p (constraint_of k.items x.0, x.1)) pairs (λ x. none (constraint_of k.items x.0, x.1) h)

-- what is of one name stands on the shelf of that name
pub shelf-only : (name : List ℕ) (p : Use → Bool) (pairs : List Pair) (es : List (Vec ℕ Global × List Pair)) → AreNamed name p → IsDistinct (λ a b. is_eq (key_cmp a b)) (keys_of es) → lookup (at_key name) es ≡ Some pairs → tally p (uses_of es) ≡ count name p pairs
shelf-only name p pairs es none distinct h = spread-only shelf p (at_key name) (others name p none) (λ a b. is_eq (key_cmp a b)) (same-same name) (count name p) pairs es (of-shelf name p) distinct h

pub shelf-none : (name : List ℕ) (p : Use → Bool) (es : List (Vec ℕ Global × List Pair)) → AreNamed name p → lookup (at_key name) es ≡ None → tally p (uses_of es) ≡ 0
shelf-none name p es none h = spread-absent shelf p (at_key name) es (others name p none) h
