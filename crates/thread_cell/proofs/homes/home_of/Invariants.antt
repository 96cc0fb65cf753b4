use Rattle.std.proofs.Common.{◌≡◌, ◌↔◌, ℕ, ◌+◌, List, take}
use Rattle.base.specs.Sets.{Has}
use Rattle.filter_constraints.specs.Constraint.{ConstraintParts}
use Rattle.server_spec.specs.Control.{subs, advs}
use Rattle.thread_cell.proofs.homes.home_of.Given as goal

abbrev pub invariant-loop-client : goal.invariant-loop-client
invariant-loop-client l = record {
  net : l.home.net ≡ l.core.net;
  filters : (f : List ConstraintParts) → Has f l.home.home.filters ↔ ((client : ℕ) × Has client (take l.client-index l.client-items) × Has f (subs l.core.control (64 + client)));
  adverts : (a : List ConstraintParts) → Has a l.home.home.adverts ↔ ((client : ℕ) × Has client (take l.client-index l.client-items) × Has a (advs l.core.control (64 + client)));
}
