-- What is taken after a look is what was seen.
use Rattle.std.proofs.Common.{◌∙◌}
use Rattle.thread_lane.specs.declared.taking.LaneOut.{LaneOut}
use Rattle.thread_lane.specs.Lane.{SameOut}

module _ {T : Type 0} where
  pub same-out : (x y z : LaneOut T) → SameOut x y → SameOut y z → SameOut x z
  same-out x y z (((a, b, c, d), m), e) (((a', b', c', d'), m'), e') = (((a' ∙ a, b' ∙ b, c' ∙ c, d' ∙ d), m' ∙ m), e' ∙ e)
