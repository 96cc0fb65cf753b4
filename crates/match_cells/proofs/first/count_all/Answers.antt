use Rattle.std.proofs.Common.{◌∙◌, ap, sym, length, arith}
use Rattle.std.specs.List.{sum_by}
use Rattle.std.proofs.lemmas.List.{take_all}
use Rattle.match_cells.specs.Asks.{missed_below}
use Rattle.match_cells.proofs.Losses.{lost-first, fits-below}
use Rattle.match_cells.proofs.first.count_all.Goals as goal

pub count_one-requires-clause-fits : goal.count_one-requires-clause-fits
count_one-requires-clause-fits c k =
    let d = c.index-groups-c.result in
    let f = fits-below k _ c.args.groups.now c.loop-c.c d (omega arith) (c.loop-c.invariant k) c.requires.few in
    omega (arith, f, ap length c.deref.ensures.value, ap (λ g. length g.items) c.index-groups-c.is)

pub returns-clause-counts : goal.returns-clause-counts
returns-clause-counts c k = c.loop-c.invariant k ∙ (ap (sum_by (λ g. missed_below k g.items)) (take_all c.loop-c.c c.args.groups.now c.loop-c-test.false) ∙ sym (lost-first k c.args.groups.now))
