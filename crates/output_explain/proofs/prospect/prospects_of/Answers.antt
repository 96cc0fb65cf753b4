use Rattle.std.proofs.Common.{◌∙◌}
use Rattle.output_explain.proofs.Chances.{prospects_ok}
use Rattle.output_explain.proofs.prospect.prospects_of.Goals as goal

pub returns : goal.returns
returns c =
    prospects_ok c.args.net.now c.in_ok-owed.owed.rows.items c.in_ok-owed.owed.refused.items c.args.client c.rows_of.result.now c.deref.result.now
    c.in_ok-owed.ensures c.requires.client c.rows_of.ensures (c.deref.ensures.value ∙ c.in_ok-filters.ensures) c.listed_of.result c.listed_of.ensures
