use Rattle.std.proofs.Common.{length}
use Rattle.document_script.proofs.IntLaws.{no_int, no_number, one_number, short_given, small_given}
use Rattle.document_script.proofs.number.short_int.Goals as goal

pub returns-in-None : goal.returns-in-None
returns-in-None c = no_int c.args.word.now c.args.digits.now c.requires.digits (no_number c.args.digits.now c.in-None.ensures.value)

pub signed-requires : goal.signed-requires
signed-requires c = small_given (length c.args.digits.now) c.in-Some.n c.requires.few c.in-Some.ensures.less

pub returns-in-Some : goal.returns-in-Some
returns-in-Some c =
    let is = one_number c.args.digits.now c.in-Some.n c.in-Some.ensures.value in
    short_given c.args.word.now c.args.digits.now c.in-Some.n c.is_negative.result c.signed.result c.requires.digits c.requires.some is.0 is.1 (small_given (length c.args.digits.now) c.in-Some.n c.requires.few c.in-Some.ensures.less) c.is_negative.ensures c.signed.ensures
