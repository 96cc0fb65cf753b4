use Rattle.std.proofs.Common.{take}
use Rattle.std.specs.List.{flat_map}
use Rattle.base_devices.specs.Pending.{outlet, Went}
use Rattle.output_traffic.specs.Text.{link_printed}
use Rattle.output_traffic.specs.Printed.{loads_by}
use Rattle.output_traffic.proofs.directions.put_links.Given as goal

-- what is put of the links so far
abbrev pub invariant-loop-link : goal.invariant-loop-link
invariant-loop-link g l = Went (outlet (g.K.Sink.state l.initial.sink) l.initial.out)
    (outlet (g.K.Sink.state l.sink) l.out) (flat_map (link_printed l.graph (loads_by l.loads)) (take l.link-index l.links))
