use Rattle.std.specs.Prelude.{◌++◌, codes}
use Rattle.std.specs.Fmt.{decimal}
use Rattle.base_devices.specs.Pending.{outlet, Went}
use Rattle.base_devices.proofs.Outlets.{went-then}
use Rattle.net_model.specs.Nets.{client_name}
use Rattle.output_report.specs.Lines.{publication_line}
use Rattle.output_report.proofs.writing.put_publication.Goals as goal

pub returns : goal.returns
unfolding publication_line
returns g c =
    let word = c.args.word.now in
    let name = client_name c.args.clients.now c.args.id.publisher in
    let number = decimal c.args.id.ordinal in
    let text = c.args.text.now in
    let second : Went (outlet (g.K.Sink.state c.put.new.sink) c.put.new.self)
    (outlet (g.K.Sink.state c.put-2.new.sink) c.put-2.new.self) name = rw c.client_name.ensures at c.put-2.ensures in
    let fourth : Went (outlet (g.K.Sink.state c.put-3.new.sink) c.put-3.new.self)
    (outlet (g.K.Sink.state c.put_number.new.sink) c.put_number.new.out) number = rw c.from.ensures at c.put_number.ensures in
    let named = went-then _ _ _ word name c.put.ensures second in
    let apart = went-then _ _ _ (word ++ name) (codes " ") named c.put-3.ensures in
    let numbered = went-then _ _ _ (word ++ name ++ codes " ") number apart fourth in
    let spaced = went-then _ _ _ (word ++ name ++ codes " " ++ number) (codes " ") numbered c.put-4.ensures in
    let told = went-then _ _ _ (word ++ name ++ codes " " ++ number ++ codes " ") text spaced c.put-5.ensures in
    went-then _ _ _ (word ++ name ++ codes " " ++ number ++ codes " " ++ text) (codes "\n") told c.put-6.ensures
