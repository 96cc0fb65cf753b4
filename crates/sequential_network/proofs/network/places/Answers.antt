use Rattle.std.proofs.Common.{◌≡◌, ◌+◌, ℕ, suc, length, [], ◌∷◌, Some, slice_get, refl, sym, ap, subst, ◌∙◌, arith}
use Rattle.net_turns.proofs.Among.{low_server}
use Rattle.sequential_network.proofs.network.places.Goals as goal
use Rattle.std.proofs.lemmas.List.{length-append}
use Rattle.base.proofs.Lists.{each-get-push}

pub start-requires : goal.start-requires
start-requires g c =
    let low = c.loop-place-test.true in let count = c.requires.count.0 in
    λ k. ((refl, tt), (c.requires.sound, low_server c.args.tables.now (c.loop-place.place + 1) (omega arith, omega (arith, low, count))))

pub loop-place-preserved : goal.loop-place-preserved
loop-place-preserved g c =
    let before = c.loop-place.invariant.0 in
    let longer = length-append c.loop-place.places.items (c.in_ok-start.field-0 ∷ []) in (
      ap length c.in_ok-push.ensures.items ∙ omega (arith, before, longer),
      subst (λ z. (k : ℕ) (core : _) → slice_get z k ≡ Some core → g.P.Ruled.ruling.IsFirst c.args.tables.now (suc k) core) (sym c.in_ok-push.ensures.items)
          (each-get-push (λ k core. g.P.Ruled.ruling.IsFirst c.args.tables.now (suc k) core) c.loop-place.places.items c.in_ok-start.field-0 c.loop-place.invariant.1
          (subst (λ k. g.P.Ruled.ruling.IsFirst c.args.tables.now k c.in_ok-start.field-0) (omega (arith, before)) c.in_ok-start.ensures)),
    )
