use Rattle.std.specs.Prelude.{codes}
use Rattle.std.proofs.Common.{subst}
use Rattle.base.specs.Text.{labelled}
use Rattle.base_devices.specs.Pending.{outlet, Went}
use Rattle.base_devices.proofs.Outlets.{went-then}
use Rattle.output_traffic.specs.Text.{client_node}
use Rattle.output_traffic.proofs.graph.put_client.Goals as goal

pub returns : goal.returns
unfolding client_node
returns g c =
    let a = outlet (g.K.Sink.state c.put.new.sink) c.put.new.self in
    let b = outlet (g.K.Sink.state c.put-2.new.sink) c.put-2.new.self in
    let d = outlet (g.K.Sink.state c.put_labelled-2.new.sink) c.put_labelled-2.new.out in
    let e = outlet (g.K.Sink.state c.put_labelled-3.new.sink) c.put_labelled-3.new.out in
    let name : Went a b c.args.client.now.name = subst (λ z. Went a b z.name) c.client.view_is (rw c.bytes.ensures.bytes at c.put-2.ensures) in
    let home : Went d e (labelled (codes " -> ") c.args.client.now.home) = subst (λ z. Went d e (labelled (codes " -> ") z.home)) c.client.view_is (rw c.from.ensures at c.put_labelled-3.ensures) in
    let first = went-then _ _ _ _ _ (went-then _ _ _ _ _ (went-then _ _ _ _ _ c.put_labelled.ensures c.put.ensures) name) c.put-3.ensures in
    went-then _ _ _ _ _ (went-then _ _ _ _ _ (went-then _ _ _ _ _ first c.put_labelled-2.ensures) home) c.put-4.ensures
