-- Rows of parts, and what a value hits in a group.
use Rattle.std.proofs.Common.{◌≡◌, ◌+◌, ◌<◌, ℕ, Bool, true, false, cond, refl, ap, arith, List, [], ◌∷◌, ◌++◌, length, get_or, zero, suc}
use Rattle.std.proofs.Math.ListN.{set}
use Rattle.filter_values.specs.declared.value.Value.{Value}
use Rattle.match_index.specs.Pairs.{tally, Pair, passes, ids_met}
use Rattle.match_index.specs.Groups.{flat}
use Rattle.match_index.proofs.Tallies.{tally-append}

module _ {X P : Type 0} (part : X → List P) (p : P → Bool) where
  -- another row at a place
  pub flat-set : (xs : List X) (i : ℕ) (y d : X) → i < length xs → tally p (flat part (set xs i y)) + tally p (part (get_or xs i d)) ≡ tally p (flat part xs) + tally p (part y)
  flat-set [] i y d h = absurd (omega arith)
  flat-set (x ∷ xs) zero y d h = omega (arith, tally-append p (part y) (flat part xs), tally-append p (part x) (flat part xs))
  flat-set (x ∷ xs) (suc i) y d h = omega (arith, tally-append p (part x) (flat part (set xs i y)), tally-append p (part x) (flat part xs), flat-set xs i y d (omega arith))

  -- a row behind the others
  pub flat-push : (xs : List X) (y : X) → tally p (flat part (xs ++ y ∷ [])) ≡ tally p (flat part xs) + tally p (part y)
  flat-push [] y = omega (arith, tally-append p (part y) [])
  flat-push (x ∷ xs) y = omega (arith, tally-append p (part x) (flat part (xs ++ y ∷ [])), tally-append p (part x) (flat part xs), flat-push xs y)

pub met-append : (v : Value) (xs ys : List Pair) → ids_met v (xs ++ ys) ≡ ids_met v xs ++ ids_met v ys
met-append v [] ys = refl
met-append v (x ∷ xs) ys = go (passes v x.0) (met-append v xs ys)
  where
    go : (b : Bool) → ids_met v (xs ++ ys) ≡ ids_met v xs ++ ids_met v ys → cond b (x.1 ∷ ids_met v (xs ++ ys)) (ids_met v (xs ++ ys)) ≡ cond b (x.1 ∷ ids_met v xs) (ids_met v xs) ++ ids_met v ys
    go true h = ap (λ zs. x.1 ∷ zs) h
    go false h = h
