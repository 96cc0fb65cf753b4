use Rattle.std.proofs.Common.{◌++◌, ◌∷◌, [], ap, sym, ◌∙◌}
use Rattle.output_flood.proofs.tables.places.Goals as goal
use Rattle.base.proofs.Lists.{range-push}

pub loop-place-preserved : goal.loop-place-preserved
loop-place-preserved c = c.in_ok-push.ensures.items ∙ ap (λ z. z ++ c.loop-place.place ∷ []) c.loop-place.invariant ∙ sym (range-push c.loop-place.place)
