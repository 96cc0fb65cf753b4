use Rattle.program_sequential.proofs.Carrying.{IsCountedTo}
use Rattle.program_sequential.proofs.traffic.carried_over.Given as goal

abbrev pub invariant-loop-entry : goal.invariant-loop-entry
invariant-loop-entry l = IsCountedTo l.entry-index l.fn.tables l.journal l.network l.carried
