-- Defines on which sides of an operand a value may be; `any` has none, and asks for all sides.
use Rattle.std.specs.Prelude.{true}
use Rattle.filter_constraints.specs.declared.op.Op.{Op}
use Rattle.filter_constraints.specs.declared.op.Op.TheVariants as ops
use Rattle.match_index.specs.Sides.{asked, sides_of}
use Rattle.match_index.specs.declared.sides.Sides.{Sides}

abbrev pub sides_for : Op → Sides
sides_for ops.Any = asked true true true
sides_for op = sides_of op
