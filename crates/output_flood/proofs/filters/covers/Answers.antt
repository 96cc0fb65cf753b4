use Rattle.std.proofs.Common.{sym, ◌∙◌}
use Rattle.output_flood.proofs.Numbered.{covers_is}
use Rattle.output_flood.proofs.filters.covers.Goals as goal

pub returns : goal.returns
returns c =
    let filters = c.args.filters.now in
    c.covers.ensures ∙ sym (covers_is filters c.args.i c.args.k c.at-one.result.now c.at-other.result.now c.at-one.ensures c.at-other.ensures)
