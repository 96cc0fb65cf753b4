use Rattle.std.proofs.Common.{sym, ap, ◌∙◌}
use Rattle.filter_types.specs.Cover.{allows}
use Rattle.net_model.proofs.Meaning.{allows_plain}
use Rattle.server_session.proofs.publishing.is_allowed_by.Goals as goal

pub returns : goal.returns
returns c = c.allows.ensures ∙ (ap (λ z. allows z c.args.notice.now) c.ad.view_is ∙ sym (allows_plain c.args.notice.now c.args.ad.now c.attributes.ensures.whole.values))
