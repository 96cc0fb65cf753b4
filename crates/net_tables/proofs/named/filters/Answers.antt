use Rattle.std.proofs.Common.{◌≡◌, ◌++◌, ◌≤◌, ◌^◌, [], IfOk, take, length, sym, ap, subst, ◌∙◌}
use Rattle.std.specs.List.{flat_map}
use Rattle.filter_types.specs.Before.{list_before}
use Rattle.net_tables.specs.Known.{script_filters}
use Rattle.net_tables.specs.Numbering.{AreKept, AreNumbersOf}
use Rattle.net_tables.proofs.Kept.{named_next, all_kept, filters_kept}
use Rattle.net_tables.proofs.named.filters.Goals as goal

pub loop-client-preserved : goal.loop-client-preserved
loop-client-preserved c =
    let clients = c.args.clients.now in
    let i = c.loop-client.client-index in
    let client = c.client-item.result in
    let kept = AreKept list_before c.keep_filters.new.kept.pool c.keep_filters.new.kept.keys.items in
    let script : c.deref.result.now ≡ client.script = c.deref.ensures.value ∙ ap (λ z. z.script) c.client.view_is in
    let done = flat_map (λ z. script_filters z.script) (take i clients) in
    named_next (λ z. script_filters z.script) kept clients i client [] c.loop-client-test.true c.client-item.is
    (subst (λ z. kept (done ++ script_filters z)) script (c.in_ok-keep_filters.ensures done c.loop-client.invariant))

pub numbered-requires-clause-few : goal.numbered-requires-clause-few
numbered-requires-clause-few c =
    let pool = c.loop-client.kept.pool in
    let keys = c.loop-client.kept.keys.items in
    let clients = c.args.clients.now in
    let are = all_kept (λ client. script_filters client.script) clients c.loop-client.client-index pool keys c.loop-client-test.false c.loop-client.invariant in
    subst (λ z. length z ≤ 2 ^ 32) (sym (filters_kept clients pool keys are)) c.requires

pub returns-clause-items : goal.returns-clause-items
returns-clause-items c =
    let pool = c.loop-client.kept.pool in
    let keys = c.loop-client.kept.keys.items in
    let clients = c.args.clients.now in
    let are = all_kept (λ client. script_filters client.script) clients c.loop-client.client-index pool keys c.loop-client-test.false c.loop-client.invariant in
    subst (λ z. IfOk c.numbered.result (λ named. named.items ≡ z)) (filters_kept clients pool keys are) c.numbered.ensures.items

pub returns-clause-numbers : goal.returns-clause-numbers
returns-clause-numbers c =
    let pool = c.loop-client.kept.pool in
    let keys = c.loop-client.kept.keys.items in
    let clients = c.args.clients.now in
    let named = flat_map (λ client. script_filters client.script) clients in
    let are = all_kept (λ client. script_filters client.script) clients c.loop-client.client-index pool keys c.loop-client-test.false c.loop-client.invariant in
    subst (λ z. IfOk c.numbered.result (λ r. AreNumbersOf z r.numbers.items named)) (filters_kept clients pool keys are) (c.numbered.ensures.numbers named are)
