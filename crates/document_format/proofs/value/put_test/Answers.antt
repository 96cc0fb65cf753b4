use Rattle.std.proofs.Common.{sym, subst}
use Rattle.std.specs.Prelude.{codes}
use Rattle.std.specs.Option.{option_copied}
use Rattle.base_devices.specs.Pending.{outlet, Went}
use Rattle.base_devices.proofs.Outlets.{went-then}
use Rattle.filter_text.specs.FilterText.{test_text}
use Rattle.document_format.proofs.value.put_test.Goals as goal

pub returns-in-Some : goal.returns-in-Some
returns-in-Some g c =
    let new = outlet (g.K.Sink.state c.put_value.new.sink) c.put_value.new.out in
    subst (λ u. Went (outlet (g.K.Sink.state c.args.sink.now) c.args.out.now) new (test_text c.args.op (option_copied u))) (sym c.in-Some.is)
    (went-then _ _ _ _ _ (rw c.op_word.ensures at c.put.ensures) (went-then _ _ _ (codes " ") _ c.put-in-Some.ensures c.put_value.ensures))

pub returns-in-None : goal.returns-in-None
returns-in-None g c =
    let new = outlet (g.K.Sink.state c.put.new.sink) c.put.new.self in
    subst (λ u. Went (outlet (g.K.Sink.state c.args.sink.now) c.args.out.now) new (test_text c.args.op (option_copied u))) (sym c.in-None.is)
    (rw c.op_word.ensures at c.put.ensures)
