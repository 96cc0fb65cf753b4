use Rattle.std.proofs.Common.{◌≤◌, length, sym, subst, arith}
use Rattle.std.proofs.lemmas.List.{length-take-le}
use Rattle.net_tables.proofs.Counting.{known_filters_few}
use Rattle.net_tables.proofs.Kept.{taken_next}
use Rattle.net_tables.proofs.catalogue.matcher_of.Goals as goal

pub put-requires : goal.put-requires
put-requires c =
    let few = subst (λ z. length z ≤ 4096) (sym c.requires.filters) (known_filters_few c.args.net.now.clients c.requires.sound.controls) in
    let long = subst (λ z. length z ≤ c.loop-i.i) (sym c.loop-i.invariant) (omega (arith, length-take-le c.loop-i.i c.args.filters.now (omega (arith, c.loop-i-test.true)))) in
    omega (arith, few, long, c.loop-i-test.true)

pub loop-i-preserved : goal.loop-i-preserved
loop-i-preserved c = taken_next c.args.filters.now c.loop-i.i c.at.result.now c.behind-filters.inside.0 c.loop-i.builder c.put.new.self c.at.ensures c.behind-filters.view_is c.loop-i.invariant c.in_ok-put.ensures
