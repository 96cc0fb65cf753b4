use Rattle.std.proofs.Common.{refl}
use Rattle.law_examples.proofs.withdrawal_uncovers.Goals as goal

pub returns : goal.returns
returns c = refl
