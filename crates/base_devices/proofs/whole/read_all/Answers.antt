use Rattle.std.proofs.Common.{◌++◌, ◌∙◌, take, arith, length-append, length-take}
use Rattle.std.proofs.lemmas.Grind.{common_steps}
use Rattle.base_devices.proofs.Pieces.{joined, told_then, told_still, no_more}
use Rattle.base_devices.proofs.whole.read_all.Goals as goal

pub returns-in_err-count-clause-too_long : goal.returns-in_err-count-clause-too_long
returns-in_err-count-clause-too_long g c = (
  (λ e. absurd (grind (arith, common_steps, e, c.from_residual.ensures.1))),
  (λ t. absurd (no_more _ _ c.loop-bytes.bytes.items c.args.limit (c.in_err-count.ensures.given ∙ c.loop-bytes.invariant.0) (omega (arith, c.loop-bytes.invariant.2, c.loop-bytes.bytes.ok.0)) t)),
)

pub returns-in_err-count-clause-told : goal.returns-in_err-count-clause-told
returns-in_err-count-clause-told g c =
    told_still _ _ _ _ _ _ c.loop-bytes.bytes.items c.loop-bytes.invariant.0 c.loop-bytes.invariant.1 c.in_err-count.ensures.given c.in_err-count.ensures.left

pub returns-then-count-eq0-clause-too_long : goal.returns-then-count-eq0-clause-too_long
returns-then-count-eq0-clause-too_long g c = (
  (λ e. absurd cc),
  (λ t. absurd (no_more _ _ (c.loop-bytes.bytes.items ++ take c.in_ok-count.count c.read.new.into) c.args.limit
      (joined _ _ _ c.loop-bytes.bytes.items (take c.in_ok-count.count c.read.new.into) c.loop-bytes.invariant.0 c.in_ok-count.ensures.given)
      (omega (arith, c.if-count-eq0.true, c.loop-bytes.invariant.2, c.loop-bytes.bytes.ok.0, length-append c.loop-bytes.bytes.items (take c.in_ok-count.count c.read.new.into), length-take c.in_ok-count.count c.read.new.into)) t)),
)

pub returns-then-count-eq0-clause-told : goal.returns-then-count-eq0-clause-told
returns-then-count-eq0-clause-told g c =
    told_then _ _ _ _ _ _ c.loop-bytes.bytes.items _ c.loop-bytes.invariant.0 c.loop-bytes.invariant.1 c.in_ok-count.ensures.given c.in_ok-count.ensures.left.0

pub returns-then-count-most-clause-told : goal.returns-then-count-most-clause-told
returns-then-count-most-clause-told g c =
    told_then _ _ _ _ _ _ c.loop-bytes.bytes.items _ c.loop-bytes.invariant.0 c.loop-bytes.invariant.1 c.in_ok-count.ensures.given c.in_ok-count.ensures.left.0

pub returns-in_err-extend_from_slice-clause-too_long : goal.returns-in_err-extend_from_slice-clause-too_long
returns-in_err-extend_from_slice-clause-too_long g c = (
  (λ e. absurd (grind (arith, common_steps, e, c.from_residual-in_err-extend_from_slice.ensures.1))),
  (λ t. absurd (no_more _ _ (c.loop-bytes.bytes.items ++ take c.in_ok-count.count c.read.new.into) c.args.limit
      (joined _ _ _ c.loop-bytes.bytes.items (take c.in_ok-count.count c.read.new.into) c.loop-bytes.invariant.0 c.in_ok-count.ensures.given)
      (omega (arith, c.if-count-most.false, c.len.ensures, c.loop-bytes.invariant.2, c.loop-bytes.bytes.ok.0, length-append c.loop-bytes.bytes.items (take c.in_ok-count.count c.read.new.into), length-take c.in_ok-count.count c.read.new.into)) t)),
)

pub returns-in_err-extend_from_slice-clause-told : goal.returns-in_err-extend_from_slice-clause-told
returns-in_err-extend_from_slice-clause-told g c =
    told_then _ _ _ _ _ _ c.loop-bytes.bytes.items _ c.loop-bytes.invariant.0 c.loop-bytes.invariant.1 c.in_ok-count.ensures.given c.in_ok-count.ensures.left.0
