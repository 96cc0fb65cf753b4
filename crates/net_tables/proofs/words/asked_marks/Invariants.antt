use Rattle.std.proofs.Common.{◌≡◌, drop}
use Rattle.base.specs.Signature.{marks_from}
use Rattle.net_tables.specs.Words.{all_text_signs}
use Rattle.net_tables.proofs.words.asked_marks.Given as goal

abbrev pub invariant-loop-constraint : goal.invariant-loop-constraint
invariant-loop-constraint l =
    marks_from (λ s. s) l.marks (all_text_signs (drop l.constraint-index l.constraints)) ≡ marks_from (λ s. s) 0 (all_text_signs l.constraints)
