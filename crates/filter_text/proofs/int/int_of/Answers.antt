use Rattle.filter_text.proofs.IntLaws.{result_is}
use Rattle.filter_text.proofs.int.int_of.Goals as goal

pub returns : goal.returns
returns c = result_is c.args.bytes.now c.spelled_int.result c.spelled_int.ensures
