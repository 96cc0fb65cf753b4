use Rattle.std.proofs.Common.{rules}
use Rattle.program_sequential.proofs.text.trace_over.Goals as goal

pub trace_text-requires : goal.trace_text-requires
trace_text-requires g c = let each = g.met.T.Telling.each c.args.tables.now c.args.journal.now in search rules
