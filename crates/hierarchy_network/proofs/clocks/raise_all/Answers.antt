use Rattle.std.proofs.Common.{ℕ, ◌<◌, ◌^◌, sym, subst}
use Rattle.base.specs.Sets.{Has}
use Rattle.hierarchy_network.proofs.clocks.raise_all.Goals as goal

pub set_clocks-requires-clause-low : goal.set_clocks-requires-clause-low
set_clocks-requires-clause-low c = subst (λ z. (clock : ℕ) → Has clock z → clock < 2 ^ 62) (sym c.deref-4.ensures.value) c.in_ok-raised.ensures.low
