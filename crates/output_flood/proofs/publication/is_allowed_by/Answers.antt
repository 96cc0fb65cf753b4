use Rattle.std.proofs.Common.{sym, ◌∙◌}
use Rattle.net_model.proofs.Meaning.{allows_plain}
use Rattle.output_flood.proofs.publication.is_allowed_by.Goals as goal

pub returns : goal.returns
returns c = c.allows.ensures ∙ sym (allows_plain c.args.notice.now c.args.advert.now c.attributes.ensures.whole.values)
