use Rattle.std.proofs.Common.{arith}
use Rattle.std.proofs.lemmas.Grind.{common_steps}
use Rattle.output_patterns.proofs.Feeding.{going}
use Rattle.output_patterns.proofs.detector.start_over.Goals as goal

pub returns-else-len-steps-clause-same : goal.returns-else-len-steps-clause-same
returns-else-len-steps-clause-same c p n = going c.args.steps.now _ c.args.found.now.items p n (grind (arith, common_steps))
