use Rattle.std.proofs.Common.{◌≡◌, ℕ, ◌<◌, ◌≤◌, length, slice_get, Some}
use Rattle.server_stock.specs.declared.sides.Side.{Side}
use Rattle.server_stock.specs.Sides.{turned}
use Rattle.server_stock.proofs.sides.turn_all.Given as goal

abbrev pub invariant-loop-p : goal.invariant-loop-p
invariant-loop-p g l =
    record {
      length : length l.sides ≡ length l.fn.sides;
      later : (q : ℕ) → l.p ≤ q → slice_get l.sides q ≡ slice_get l.fn.sides q;
      done : (q : ℕ) (s : Side) → q < l.p → slice_get l.fn.sides q ≡ Some s → slice_get l.sides q ≡ Some (turned g.T.Cover.covering l.order s.offered l.held.rows q s);
    }
