use Rattle.std.specs.Prelude.{codes}
use Rattle.base_devices.proofs.Outlets.{went-then}
use Rattle.filter_text.specs.FilterText.{constraint_text}
use Rattle.document_format.proofs.value.ConstraintPart.put.Goals as goal

pub returns : goal.returns
unfolding constraint_text
returns g c =
    let name = rw (c.bytes.ensures.bytes, c.name.ensures) at c.put.ensures in
    let kind = rw (c.kind_word.ensures, c.kind.ensures) at c.put-3.ensures in
    let test = rw (c.op.ensures.op, c.operand.ensures) at c.put_test.ensures in
    went-then _ _ _ _ _ name (went-then _ _ _ (codes " ") _ c.put-2.ensures (went-then _ _ _ _ _ kind (went-then _ _ _ (codes " ") _ c.put-4.ensures test)))
