use Rattle.filter_text.proofs.TimeLaws.{result_is}
use Rattle.filter_text.proofs.time.time_of.Goals as goal

pub returns : goal.returns
returns c = result_is c.args.bytes.now c.spelled_time.result c.spelled_time.ensures
