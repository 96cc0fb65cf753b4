use Rattle.std.proofs.Common.{[], subst, arith}
use Rattle.std.proofs.lemmas.Grind.{common_steps}
use Rattle.net_model.specs.Parts.{NetParts}
use Rattle.program_sequential.specs.Faults.{StopsAtLine}
use Rattle.program_sequential.specs.Runs.{turns_first}
use Rattle.program_sequential.proofs.ran.make_run.Goals as goal

pub returns-in_err-network-clause-bad : goal.returns-in_err-network-clause-bad
returns-in_err-network-clause-bad g c = λ line kind e.
    let b = c.in_err-network.ensures.bad line kind (grind (arith, common_steps, e, c.from_residual-in_err-network.ensures.1)) in
    (b.0, subst (λ (n : NetParts). StopsAtLine n [] (turns_first c.args.schedule n) line) c.in_ok-tables.ensures b.1)
