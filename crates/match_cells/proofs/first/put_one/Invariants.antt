use Rattle.std.proofs.Common.{◌≡◌, ◌↔◌, ◌⊎◌, ℕ, ◌<◌, take, get_or}
use Rattle.base_bits.specs.Words.{bit}
use Rattle.match_cells.specs.Asks.{own}
use Rattle.match_cells.proofs.first.put_one.Given as goal

abbrev pub invariant-loop-i : goal.invariant-loop-i
invariant-loop-i l = (k : ℕ) → (bit l.words k ≡ 1) ↔ (((0 < own k (take l.i l.asks)) × (get_or l.lost k 0 ≡ 0)) ⊎ (bit l.initial.words k ≡ 1))
