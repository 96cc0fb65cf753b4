use Rattle.std.proofs.Common.{ap, sym, ◌∙◌}
use Rattle.net_model.proofs.Meaning.{matches_plain}
use Rattle.output_explain.proofs.prospect.is_matched_by.Goals as goal

pub returns : goal.returns
returns c = c.matches.ensures ∙ sym (ap (λ m. m c.args.filter.now) (matches_plain c.args.notice.now c.attributes.ensures.whole.values))
