-- What filters ask of a value at the operands of one name and kind.
use Rattle.std.specs.Prelude.{ℕ, ◌&&◌, ◌==◌, Bool, not, List}
use Rattle.std.specs.List.{count_by}
use Rattle.match_cells.specs.declared.ask.Ask.{Ask}
use Rattle.match_cells.specs.declared.ask.Side.{Side}
use Rattle.match_cells.specs.declared.ask.Side.TheVariants as sides

-- whether an ask is met by a value on this side of its operand
abbrev pub met : Side → Ask → Bool
met sides.Below a = a.below
met sides.At a = a.at
met sides.Above a = a.above

-- how many of the asks of a filter are not met on a side of their operand
abbrev pub missed : Side → ℕ → List Ask → ℕ
missed side k asks = count_by (λ a. (a.id == k) && not (met side a)) asks

-- how many asks a filter has
abbrev pub own : ℕ → List Ask → ℕ
own k asks = count_by (λ a. a.id == k) asks

-- how many a value below the operand doesn't meet
abbrev pub missed_below : ℕ → List Ask → ℕ
missed_below k asks = missed sides.Below k asks
