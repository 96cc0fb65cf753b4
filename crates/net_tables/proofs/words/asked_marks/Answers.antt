use Rattle.std.proofs.Common.{arith}
use Rattle.base.specs.Signature.{marks_from}
use Rattle.net_tables.specs.Words.{all_text_signs}
use Rattle.net_tables.proofs.Asked.{constraint-step}
use Rattle.net_tables.proofs.words.asked_marks.Goals as goal

pub loop-constraint-preserved : goal.loop-constraint-preserved
loop-constraint-preserved c =
    constraint-step c.args.constraints.now c.constraint-item.result c.loop-constraint.constraint-index c.loop-constraint.marks c.with_asked-marks.result
    (marks_from (λ s. s) 0 (all_text_signs c.args.constraints.now)) (omega (arith, c.loop-constraint-test.true)) c.constraint-item.is c.with_asked-marks.ensures c.loop-constraint.invariant
