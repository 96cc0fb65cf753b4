use Rattle.std.proofs.Common.{◌≡◌, ◌↔◌, ℕ, ◌<◌, take, get_or}
use Rattle.base_bits.specs.Words.{bit}
use Rattle.match_cells.specs.Cells.{asked}
use Rattle.match_cells.proofs.first.put_all.Given as goal

abbrev pub invariant-loop-c : goal.invariant-loop-c
invariant-loop-c l = (k : ℕ) → (bit l.words k ≡ 1) ↔ ((0 < asked k (take l.c l.groups)) × (get_or l.lost k 0 ≡ 0))
