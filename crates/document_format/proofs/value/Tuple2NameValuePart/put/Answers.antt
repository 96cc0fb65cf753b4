use Rattle.std.specs.Prelude.{codes}
use Rattle.base_devices.proofs.Outlets.{went-then}
use Rattle.filter_text.specs.NoticeText.{attribute_text}
use Rattle.document_format.proofs.value.Tuple2NameValuePart.put.Goals as goal

pub returns : goal.returns
unfolding attribute_text
returns g c =
    let name = rw c.bytes.ensures.bytes at c.put.ensures in
    let kind = rw (c.kind_word.ensures, c.kind.ensures) at c.put-3.ensures in
    went-then _ _ _ _ _ (went-then _ _ _ _ _ name (went-then _ _ _ (codes " ") _ c.put-2.ensures kind)) (went-then _ _ _ (codes " ") _ c.put-4.ensures c.put_value.ensures)
