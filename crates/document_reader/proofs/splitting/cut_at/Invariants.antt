use Rattle.std.proofs.Common.{length}
use Rattle.document_reader.proofs.Searching.{Searching}
use Rattle.document_reader.proofs.splitting.cut_at.Given as goal

abbrev pub invariant-lines : goal.invariant-lines
invariant-lines l = Searching l.bytes l.word l.rest l.number

abbrev pub decreases-lines : goal.decreases-lines
decreases-lines l = length l.rest
