use Rattle.std.proofs.Common.{◌≡◌, ◌≤◌, ◌++◌, ◌∙◌, false, drop, length, refl, sym, ap, subst}
use Rattle.net_model.specs.Nets.{of_clients}
use Rattle.sequential_network.specs.Ruling.{refused_by}
use Rattle.output_report.specs.Deliveries.{deliveries_text}
use Rattle.output_report.specs.Trace.{trace_text}
use Rattle.audit_verdict.specs.Comparing.{ComparingParts, IsComparedTo}
use Rattle.audit_verdict.proofs.MadeRuns.{text-is}
use Rattle.audit_verdict.proofs.Verdicts.{compared_all}
use Rattle.audit_verdict.proofs.making.made.Goals as goal

pub compare-requires : goal.compare-requires
compare-requires g c =
    let part : c.make_compared.new.text.claimed ≡ drop c.trace_at-at.result c.new-text.result.claimed =
    c.in-Ok.ensures.compared.claimed ∙ ap (λ (z : ComparingParts). z.claimed) c.new-traced.ensures ∙ c.split_at.ensures.back
    ∙ ap (λ (z : ComparingParts). drop c.trace_at-at.result z.claimed) (sym c.new-text.ensures) in
    let within : c.trace_at-at.result ≤ length c.new-text.result.claimed =
    subst (λ (z : ComparingParts). c.trace_at-at.result ≤ length z.claimed) (sym c.new-text.ensures) c.trace_at-at.ensures in
    let compared = compared_all c.split_at.result.1.now (trace_text c.args.tables.now c.in-Ok.network.journal (g.P.Ruled.telling.told_by c.args.tables.now c.in-Ok.network.journal))
    c.new-traced.result c.make_compared.new.text c.new-traced.ensures c.in-Ok.ensures.compared in
    λ κs. ((refl, tt), (c.requires.sound, (c.in-Ok.ensures.made.0, (part, (within, compared)))))

pub returns-clause-compared : goal.returns-clause-compared
returns-clause-compared g c =
    let net = c.args.tables.now in
    let journal = c.in-Ok.network.journal in
    let ruling = g.P.Ruled.ruling in
    subst (IsComparedTo c.compare.new.text)
    (text-is g.K.NetworkKind.kind g.P.Ruled.trying g.P.Ruled.walking g.P.Ruled.telling g.P.Ruled.ruling c.requires.laws c.args.tables.now c.in-Ok.network.journal)
    (compared_all c.args.output.now
    (deliveries_text net (of_clients net (refused_by ruling net journal)) (of_clients net (ruling.received_by net journal)) false ++ trace_text net journal (g.P.Ruled.telling.told_by net journal))
    c.new-text.result c.compare.new.text c.new-text.ensures c.in_ok-compare.ensures)
