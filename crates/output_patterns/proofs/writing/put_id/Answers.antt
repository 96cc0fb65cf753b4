use Rattle.std.specs.Prelude.{◌++◌, codes}
use Rattle.std.specs.Fmt.{decimal}
use Rattle.base_devices.specs.Pending.{outlet, Went}
use Rattle.base_devices.proofs.Outlets.{went-then}
use Rattle.output_report.specs.Published.{by_number}
use Rattle.output_patterns.specs.Found.{id_text}
use Rattle.output_patterns.proofs.writing.put_id.Goals as goal

pub returns : goal.returns
unfolding id_text
returns g c =
    let name = by_number c.args.names.now c.args.id.publisher in
    let number = decimal c.args.id.ordinal in
    let second : Went (outlet (g.K.Sink.state c.put.new.sink) c.put.new.self)
    (outlet (g.K.Sink.state c.put-2.new.sink) c.put-2.new.self) name = rw c.name_at.ensures at c.put-2.ensures in
    let last : Went (outlet (g.K.Sink.state c.put-3.new.sink) c.put-3.new.self)
    (outlet (g.K.Sink.state c.put_number.new.sink) c.put_number.new.out) number = rw c.from.ensures at c.put_number.ensures in
    let named = went-then _ _ _ (codes " ") name c.put.ensures second in
    let apart = went-then _ _ _ (codes " " ++ name) (codes " ") named c.put-3.ensures in
    went-then _ _ _ (codes " " ++ name ++ codes " ") number apart last
