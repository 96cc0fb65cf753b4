use Rattle.std.proofs.Common.{subst}
use Rattle.base_devices.specs.Pending.{outlet, Went}
use Rattle.base_devices.proofs.Outlets.{went-then}
use Rattle.output_report.specs.Lines.{client_line}
use Rattle.output_report.specs.Deliveries.{delivery_section}
use Rattle.output_report.proofs.writing.put_section.Goals as goal

pub returns : goal.returns
unfolding delivery_section
returns g c =
    let old = outlet (g.K.Sink.state c.args.sink.now) c.args.out.now in
    let new = outlet (g.K.Sink.state c.put_client.new.sink) c.put_client.new.out in
    let first : Went old new (client_line c.args.client.now.name) = subst (λ z. Went old new (client_line z.name)) c.client.view_is c.put_client.ensures in
    went-then _ _ _ _ _ (went-then _ _ _ _ _ first c.put_refused.ensures) c.put_received.ensures
