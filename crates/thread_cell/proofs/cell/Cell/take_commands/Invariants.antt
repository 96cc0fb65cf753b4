use Rattle.std.proofs.Common.{◌≡◌, ◌<◌, ℕ, suc, false}
use mathlib.Core.List.{IsPrefix}
use Rattle.base.specs.Sets.{Has}
use Rattle.net_model.specs.Nets.{clients_of}
use Rattle.thread_cell.specs.Turns.{HasCommand}
use Rattle.thread_cell.specs.Together.{sight}
use Rattle.thread_cell.proofs.cell.Cell.take_commands.Given as goal

abbrev pub invariant-loop-place : goal.invariant-loop-place
invariant-loop-place g l = record {
  root : l.self.root ≡ l.fn.self.root;
  grown : IsPrefix l.fn.self.journal l.self.journal;
  idle : l.made ≡ false → (sight l.self ≡ sight l.fn.self)
      × ((place : ℕ) → place < l.place → Has (suc place) (clients_of l.fn.self.root.net.value l.fn.self.root.server) → HasCommand l.fn.self.held.core (suc place) l.fn.self.root.phase → ⊥);
}
