use Rattle.std.proofs.Common.{Some, sym, ap, subst}
use Rattle.server_control.specs.Held.{held_in, AreHeldIn}
use Rattle.server_core.specs.Core.{CoreParts}
use Rattle.server_core.specs.Linked.{SuitsCore, IsLinked}
use Rattle.sequential_network.proofs.begin.moved.Goals as goal

pub relinked-requires-clause-net : goal.relinked-requires-clause-net
relinked-requires-clause-net c = subst (λ (z : CoreParts). AreHeldIn z.net c.args.held.now) (sym c.core.ensures) c.requires.net

pub returns-clause-links : goal.returns-clause-links
returns-clause-links c = record {
  ledger = c.in_ok-relinked.relinked;
  given = ap Some c.in_ok-of.ensures;
  linked = subst (λ (z : CoreParts). IsLinked (held_in c.args.held.now) z.control c.in_ok-relinked.relinked.control) c.core.ensures c.in_ok-relinked.ensures.linked;
  suits = subst (λ (z : CoreParts). SuitsCore z c.in_ok-relinked.relinked) c.core.ensures c.in_ok-relinked.ensures.suits;
}
