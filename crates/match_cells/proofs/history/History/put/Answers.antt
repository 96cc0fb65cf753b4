use Rattle.std.proofs.Common.{◌≡◌, ◌∙◌, Bool, true, false, not, refl, sym, arith}
use mathlib.Core.Bool.{beq}
use Rattle.match_cells.proofs.Kept.{put-more}
use Rattle.match_cells.proofs.history.History.put.Goals as goal

differ : (a b : Bool) → not (beq a b) ≡ true → a ≡ not b
differ true true e = grind arith
differ true false e = refl
differ false true e = refl
differ false false e = grind arith

pub returns-in_ok-turn : goal.returns-in_ok-turn
returns-in_ok-turn c =
    put-more c.args.k c.args.is c.args.self.now c.turn.new.self c.requires (sym c.has.ensures ∙ differ c.has.result c.args.is c.if-has-is.true) c.in_ok-turn.ensures.first c.in_ok-turn.ensures.changes
