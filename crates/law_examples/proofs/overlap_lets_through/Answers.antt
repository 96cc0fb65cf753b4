use Rattle.std.proofs.Common.{refl}
use Rattle.law_examples.proofs.overlap_lets_through.Goals as goal

pub returns : goal.returns
returns c = refl
