use Rattle.std.proofs.Common.{◌≡◌, ◌+◌, ap, ◌∙◌, arith}
use Rattle.output_traffic.specs.Counts.{count_at}
use Rattle.output_traffic.proofs.Away.{flooded-is}
use Rattle.output_traffic.proofs.flood.add_publication.Goals as goal

pub returns : goal.returns
returns c from to lf lt small =
    let tree = c.args.tree.now in
    let end : c.loop-b.b ≡ tree.count + 1 = omega (arith, c.loop-b-test.false, c.loop-b.auto.b-end, c.servers-b-end.ensures.value) in
    let flooded = flooded-is tree c.lemma_laws.ensures c.args.home c.requires c.loop-b.b from to end in
    c.loop-b.invariant from to lf lt (omega (arith, small, flooded)) ∙ ap (λ z. count_at c.args.counts.now from to + z) flooded
