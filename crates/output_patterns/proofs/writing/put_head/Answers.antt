use Rattle.std.specs.Prelude.{◌++◌, codes}
use Rattle.base_devices.specs.Pending.{outlet, Went}
use Rattle.base_devices.proofs.Outlets.{went-then}
use Rattle.output_report.specs.Published.{by_number}
use Rattle.output_patterns.specs.Found.{pattern_line}
use Rattle.output_patterns.proofs.writing.put_head.Goals as goal

pub returns : goal.returns
unfolding pattern_line
returns g c =
    let name = by_number c.args.names.now c.args.client in
    let label = c.args.label.now in
    let second : Went (outlet (g.K.Sink.state c.put.new.sink) c.put.new.self)
    (outlet (g.K.Sink.state c.put-2.new.sink) c.put-2.new.self) name = rw c.name_at.ensures at c.put-2.ensures in
    let fourth : Went (outlet (g.K.Sink.state c.put-3.new.sink) c.put-3.new.self)
    (outlet (g.K.Sink.state c.put-4.new.sink) c.put-4.new.self) label = rw c.bytes.ensures.bytes at c.put-4.ensures in
    let named = went-then _ _ _ (codes "pattern ") name c.put.ensures second in
    let apart = went-then _ _ _ (codes "pattern " ++ name) (codes " ") named c.put-3.ensures in
    let labelled = went-then _ _ _ (codes "pattern " ++ name ++ codes " ") label apart fourth in
    went-then _ _ _ (codes "pattern " ++ name ++ codes " " ++ label) (codes "\n") labelled c.put-5.ensures
