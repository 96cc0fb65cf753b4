use Rattle.base_devices.proofs.Outlets.{went-then}
use Rattle.output_traffic.specs.Text.{server_node}
use Rattle.output_traffic.proofs.graph.put_server.Goals as goal

pub returns : goal.returns
unfolding server_node
returns g c = went-then _ _ _ _ _ (rw c.from.ensures at c.put_labelled.ensures) c.put.ensures
