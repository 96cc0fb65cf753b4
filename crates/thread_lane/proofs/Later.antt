-- What stays known of the ends of a lane.
use Rattle.std.proofs.Common.{◌∙◌}
use Rattle.thread_lane.specs.declared.putting.LaneIn.{LaneIn}
use Rattle.thread_lane.specs.Lane.{SameIn}

module _ {T : Type 0} where
  -- an end that is the same later, and later still
  pub same_in_later : (a b c : LaneIn T) → SameIn a b → SameIn b c → SameIn a c
  same_in_later a b c one two = (((two.0.0.0 ∙ one.0.0.0, two.0.0.1 ∙ one.0.0.1, two.0.0.2 ∙ one.0.0.2, two.0.0.3 ∙ one.0.0.3), two.0.1 ∙ one.0.1), two.1 ∙ one.1)
