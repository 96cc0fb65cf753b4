use Rattle.std.proofs.Common.{◌+◌, ◌==◌, ◌++◌, ◌∷◌, [], cond, filter, ap, ◌∙◌}
use Rattle.std.specs.List.{range_with_len}
use Rattle.net_model.specs.Nets.{home_of}
use Rattle.sequential_network.proofs.Starting.{filter_more}
use Rattle.sequential_network.proofs.network.clients_at.Goals as goal

pub loop-place-preserved : goal.loop-place-preserved
loop-place-preserved c =
    c.in_ok-put_where.ensures
    ∙ ap (λ z. z ++ cond (c.home.result == c.args.server) ((c.loop-place.place + 1) ∷ []) []) c.loop-place.invariant
    ∙ ap (λ z. filter (λ d. home_of c.args.net.now d == c.args.server) (range_with_len 1 c.loop-place.place) ++ cond (z == c.args.server) ((c.loop-place.place + 1) ∷ []) []) c.home.ensures
    ∙ filter_more (λ d. home_of c.args.net.now d == c.args.server) c.loop-place.place
