use Rattle.std.proofs.Common.{sym, ◌∙◌}
use Rattle.filter_text.proofs.ApartLaws.{short_rises}
use Rattle.filter_text.proofs.change.rises.Goals as goal

pub returns : goal.returns
returns g c = sym (c.loop-rest.invariant ∙ short_rises g.L.Listed.order _ c.in_default.len_below)
