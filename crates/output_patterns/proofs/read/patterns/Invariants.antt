use Rattle.std.proofs.Common.{◌≡◌, ◌+◌, ◌≤◌, length}
use Rattle.document_reader.specs.Lines.{lines}
use Rattle.output_patterns.specs.Rules.{nothing, read_from}
use Rattle.output_patterns.proofs.read.patterns.Given as goal

-- what is left, read from what stands so far, gives the whole
abbrev pub invariant-lines : goal.invariant-lines
invariant-lines l =
    (read_from l.version l.clients l.number l.state (lines l.rest) ≡ read_from l.version l.clients l.first nothing (lines l.bytes))
    × (l.number + length l.rest ≤ l.first + length l.bytes)

abbrev pub decreases-lines : goal.decreases-lines
decreases-lines l = length l.rest
