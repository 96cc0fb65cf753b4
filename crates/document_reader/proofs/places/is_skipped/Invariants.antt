use Rattle.std.proofs.Common.{◌≡◌, drop}
use Rattle.document_reader.specs.Lines.{words}
use Rattle.document_reader.specs.Places.{is_skipped}
use Rattle.document_reader.proofs.places.is_skipped.Given as goal

abbrev pub invariant-loop-i : goal.invariant-loop-i
invariant-loop-i l = is_skipped (words (drop l.i l.line)) ≡ is_skipped (words l.line)
