use Rattle.std.proofs.Common.{ℕ, ◌<◌, get_or}
use Rattle.base.specs.Sets.{Has}
use Rattle.server_message.proofs.numbers.are_apart.Given as goal

abbrev pub invariant-loop-number : goal.invariant-loop-number
invariant-loop-number l = (j : ℕ) → j < l.number-index → Has (get_or l.one j 0) l.other → ⊥
