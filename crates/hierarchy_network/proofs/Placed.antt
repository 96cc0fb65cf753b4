-- The pairs that a server of a hierarchy installed, after each of its steps.
use Rattle.std.proofs.Common.{◌≡◌, ℕ, List, Result, Ok, Err, IfOk, OnOk, OnErr, sym, ap, subst}
use Rattle.base.specs.Sets.{Has}
use Rattle.filter_constraints.specs.Constraint.{ConstraintParts}
use Rattle.law_machine.specs.Machine.{Input}
use Rattle.law_routing.specs.Server.{Message}
use Rattle.law_routing.specs.Step.{Task}
use Rattle.net_model.specs.Real.{real}
use Rattle.server_spec.specs.Holdings.{held_from}
use Rattle.server_spec.specs.Control.{subs}
use Rattle.net_tables.specs.Known.{known_filters}
use Rattle.match_routes.specs.Installed.{Installed, IsOfSame, all_changed}
use Rattle.server_message.specs.Parts.{SendingParts}
use Rattle.server_core.specs.declared.stepped.StepFault.{StepFault}
use Rattle.server_core.specs.Core.{installed_from}
use Rattle.server_core.specs.Pending.{IsPending}
use Rattle.hierarchy_network.specs.Core.{HierarchyParts}
use Rattle.hierarchy_network.specs.Step.{MakesHierarchyStep}
use Rattle.sequential_network.specs.Kept.{IsPlace}
use Rattle.sequential_network.proofs.Placed.{forwarding-same, forwarding-at, forwarding_turned}

module _ (parts next : HierarchyParts) (f : Installed) where
  stays : next.core.net ≡ parts.core.net → next.core.interfaces ≡ parts.core.interfaces → ((i : ℕ) → installed_from next.core i ≡ installed_from parts.core i) → IsPlace parts.core f → IsPlace next.core f
  stays net interfaces same is =
      forwarding-at parts.core.net next.core.net parts.core.interfaces next.core.interfaces (installed_from next.core) f net interfaces
      (forwarding-same parts.core.net parts.core.interfaces (installed_from parts.core) (installed_from next.core) f same is)

  -- a command or a reception installs nothing
  pub placed_after : (input : Input Task (Message real)) (taken : ℕ) {T : Type 0} (answer : Result T StepFault) (stamp : T → ℕ) (sent : T → List SendingParts)
      → IfOk answer (λ s. MakesHierarchyStep input taken parts next (stamp s) (sent s)) → OnOk answer (next.core.interfaces ≡ parts.core.interfaces)
      → OnOk answer (next.core.installed ≡ parts.core.installed) → OnErr answer (next ≡ parts) → IsPlace parts.core f → IsPlace next.core f
  placed_after input taken (Ok s) stamp sent step interfaces installed same is = stays step.same_net interfaces (λ i. ap (held_from real.before i) installed) is
  placed_after input taken (Err e) stamp sent step interfaces installed same is = subst (λ (z : HierarchyParts). IsPlace z.core f) (sym same) is

  -- a table update installs what is held
  pub placed_after_update : (g : Installed) → next.core.net ≡ parts.core.net → next.core.interfaces ≡ parts.core.interfaces → next.core.installed ≡ parts.core.control.filters
      → IsPending (known_filters parts.core.net.clients) parts.core.interfaces (installed_from parts.core) (subs parts.core.control) parts.core.pending
      → ((i : ℕ) (x : List ConstraintParts) → Has x (subs parts.core.control i) → Has x (known_filters parts.core.net.clients))
      → IsOfSame g f → g.pairs ≡ all_changed parts.core.pending f.pairs → IsPlace parts.core f → IsPlace next.core g
  placed_after_update g net interfaces installed pending known same pairs is =
      forwarding-at parts.core.net next.core.net parts.core.interfaces next.core.interfaces (installed_from next.core) g net interfaces
      (forwarding-same parts.core.net parts.core.interfaces (subs parts.core.control) (installed_from next.core) g (λ i. ap (held_from real.before i) installed)
      (forwarding_turned parts.core.net parts.core.interfaces (installed_from parts.core) (subs parts.core.control) parts.core.pending f is pending g same pairs known))
