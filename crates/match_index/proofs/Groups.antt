-- What a change of one group does to the parts of all.
use Rattle.std.proofs.Common.{◌≡◌, ◌+◌, ℕ, Bool, true, false, cond, refl, ap, ◌∙◌, arith, List, [], ◌∷◌, Some, None, Ordering}
use Rattle.std.specs.declared.cmp.Ordering.TheVariants.{Less, Equal, Greater}
use Rattle.std.specs.Map.{lookup, set_value}
use Rattle.std.specs.BTreeMap.{insert_entry, is_at}
use Rattle.std.specs.Ordering.{is_eq, match_ordering}
use Rattle.match_index.specs.Pairs.{tally}
use Rattle.match_index.specs.Groups.{spread}
use Rattle.match_index.proofs.Tallies.{tally-append}

module _ {K X P : Type 0} (part : K → X → List P) (p : P → Bool) where
  pub tally-spread : (k : K) (x : X) (es : List (K × X)) → tally p (spread part ((k, x) ∷ es)) ≡ tally p (part k x) + tally p (spread part es)
  tally-spread k x es = tally-append p (part k x) (spread part es)

  -- a group under a key that had none
  pub spread-insert : (R : K → K → Ordering) (k : K) (x : X) (es : List (K × X)) → lookup (is_at (R k)) es ≡ None → tally p (spread part (insert_entry R es k x)) ≡ tally p (part k x) + tally p (spread part es)
  spread-insert R k x [] h = tally-spread k x []
  spread-insert R k x (e ∷ es) h = go (R k e.0) h (spread-insert R k x es)
    where
      go : (o : Ordering) → cond (is_eq o) (Some e.1) (lookup (is_at (R k)) es) ≡ None → (lookup (is_at (R k)) es ≡ None → tally p (spread part (insert_entry R es k x)) ≡ tally p (part k x) + tally p (spread part es)) → tally p (spread part (match_ordering o ((k, x) ∷ e ∷ es) ((e.0, x) ∷ es) (e ∷ insert_entry R es k x))) ≡ tally p (part k x) + tally p (spread part (e ∷ es))
      go Less n r = tally-spread k x (e ∷ es)
      go Equal n r = cc
      go Greater n r = omega (arith, tally-append p (part e.0 e.1) (spread part (insert_entry R es k x)), tally-append p (part e.0 e.1) (spread part es), r n)

  -- another group under a key, where m counts in a group at such a key
  pub spread-set : (t : K → Bool) (m : X → ℕ) (old new : X) (es : List (K × X)) → ((q : K) (x : X) → t q ≡ true → tally p (part q x) ≡ m x) → lookup t es ≡ Some old → tally p (spread part (set_value t es new)) + m old ≡ tally p (spread part es) + m new
  spread-set t m old new [] one h = cc
  spread-set t m old new (e ∷ es) one h = go (t e.0) refl h (spread-set t m old new es one)
    where
      go : (b : Bool) → t e.0 ≡ b → cond b (Some e.1) (lookup t es) ≡ Some old → (lookup t es ≡ Some old → tally p (spread part (set_value t es new)) + m old ≡ tally p (spread part es) + m new) → tally p (spread part (cond b ((e.0, new) ∷ es) (e ∷ set_value t es new))) + m old ≡ tally p (spread part (e ∷ es)) + m new
      go true w n r =
          let s : e.1 ≡ old = cc in
          let a : tally p (part e.0 e.1) ≡ m old = one e.0 e.1 w ∙ ap {B = ℕ} m s in
          omega (arith, one e.0 new w, tally-append p (part e.0 new) (spread part es), tally-append p (part e.0 e.1) (spread part es))
      go false w n r = omega (arith, tally-append p (part e.0 e.1) (spread part (set_value t es new)), tally-append p (part e.0 e.1) (spread part es), r n)

  -- where no key fits, no group is there
  pub spread-absent : (t : K → Bool) (es : List (K × X)) → ((q : K) (x : X) → t q ≡ false → tally p (part q x) ≡ 0) → lookup t es ≡ None → tally p (spread part es) ≡ 0
  spread-absent t [] none h = refl
  spread-absent t (e ∷ es) none h = go (t e.0) refl h (spread-absent t es none)
    where
      go : (b : Bool) → t e.0 ≡ b → cond b (Some e.1) (lookup t es) ≡ None → (lookup t es ≡ None → tally p (spread part es) ≡ 0) → tally p (spread part (e ∷ es)) ≡ 0
      go true w n r = cc
      go false w n r = omega (arith, tally-append p (part e.0 e.1) (spread part es), none e.0 e.1 w, r n)
