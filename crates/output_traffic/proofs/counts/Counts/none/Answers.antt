use Rattle.std.proofs.Common.{◌+◌, ◌*◌, ◌<◌, get_or, ap, ◌∙◌, arith}
use Rattle.std.proofs.lemmas.List.{get_or-replicate}
use Rattle.output_traffic.proofs.counts.Counts.none.Goals as goal

pub returns : goal.returns
returns c from to lf lt small =
    let inside : from * 65 + to < 4225 = omega (arith, lf, lt) in
    ap (λ z. get_or z (from * 65 + to) 0) (c.in_ok-vec.ensures.items_if_clones_equal (λ y e. e)) ∙ get_or-replicate 4225 (from * 65 + to) 0 0 inside
