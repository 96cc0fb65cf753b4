use Rattle.std.proofs.Common.{◌≡◌, ◌+◌, ◌≤◌, length}
use Rattle.document_reader.specs.Lines.{lines}
use Rattle.document_reader.specs.Places.{read_from, start}
use Rattle.document_reader.proofs.Standing.{Standing}
use Rattle.document_reader.proofs.read.read_lines.Given as goal

-- what is left, read from what stands so far, gives the whole, and what stands is sound
abbrev pub invariant-lines : goal.invariant-lines
invariant-lines l = (read_from l.number l.state (lines l.rest) ≡ read_from 1 start (lines l.bytes)) × (1 ≤ l.number) × (l.number + length l.rest ≤ 1 + length l.bytes) × Standing l.state

abbrev pub decreases-lines : goal.decreases-lines
decreases-lines l = length l.rest
