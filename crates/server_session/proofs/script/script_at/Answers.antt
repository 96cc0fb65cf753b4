use Rattle.std.proofs.Common.{◌≡◌, ◌<◌, List, length, slice_get, sym, ap, subst, ◌∙◌}
use Rattle.std.proofs.lemmas.Option.{same_Some}
use Rattle.net_model.specs.Parts.{ClientParts, NetParts}
use Rattle.server_session.proofs.script.script_at.Goals as goal
use Rattle.base.proofs.Lists.{get-get_or}

pub returns : goal.returns
returns c k e =
    let clients : c.behind-tables.inside.clients.items ≡ c.args.tables.now.clients = ap (λ (z : NetParts). z.clients) (c.behind-tables.view_is ∙ c.net.ensures) in
    let there = subst (λ (z : List ClientParts). c.args.place < length z) (sym clients) c.requires in
    let at = get-get_or c.behind-tables.inside.clients.items c.args.place c.index-client.result.now there c.index-client.ensures in
    let same : c.index-client.result.now ≡ k = same_Some _ _ (sym at ∙ (ap (λ (z : List ClientParts). slice_get z c.args.place) clients ∙ e)) in
    c.deref.ensures.value ∙ ap (λ (z : ClientParts). z.script) (c.client.view_is ∙ same)
