-- What a step sends goes on links of its server, at most one message on each.
use Rattle.std.proofs.Common.{ℕ, ◌<◌, ◌≤◌, List, length, map, Result, Ok, Err, IfOk, sym, subst, arith}
use Rattle.base.specs.Sets.{Has}
use Rattle.base.specs.Numbers.{IsDistinct}
use Rattle.base_tree.specs.Hops.{side_size}
use Rattle.law_machine.specs.Machine.{Input}
use Rattle.law_machine.specs.Load.{MeasureLaws}
use Rattle.law_routing.specs.Server.{Message}
use Rattle.law_routing.specs.Step.{Task}
use Rattle.law_hierarchy.specs.Step.{hierarchy_machine, measure}
use Rattle.law_hierarchy.proofs.Spread.{measure-laws}
use Rattle.net_model.specs.Real.{real, real_laws}
use Rattle.base.specs.declared.memory.NoMemory.{NoMemory}
use Rattle.server_message.specs.Parts.{SendingParts, sent_by}
use Rattle.hierarchy_network.specs.Core.{HierarchyParts}
use Rattle.hierarchy_network.specs.Step.{IsHierarchyStep, MakesHierarchyStep}
use Rattle.server_core.specs.Step.{last_stamp}
use Rattle.sequential_network.specs.Stepping.{GoesOn, IsSome}
use Rattle.hierarchy_network.specs.Stepping.{hierarchy}
use Rattle.server_core.proofs.SentOnLinks.{sent-few, sent-to, sent-apart}

pub goes_on : (parts : HierarchyParts) → IsSome hierarchy parts → parts.core.clock < last_stamp → (input : Input Task (Message real)) (taken : ℕ) → taken < last_stamp
    → (next : HierarchyParts) (stamp : ℕ) (sent : List SendingParts) → MakesHierarchyStep input taken parts next stamp sent → GoesOn parts.core.control.links stamp sent
goes_on parts (net, laws, state, stands) low input taken taken-low next stamp sent step = record {
  low = let is = step.stamp_is in omega (arith, is, low, taken-low);
  to = λ s h. sent-to parts.core.net local.outcome.outs parts.core.control.links s (there s h);
  small = λ s h. laws.small parts.core.server s.to (subst (Has s.to) (sym stands.stands.control.links) (sent-to parts.core.net local.outcome.outs parts.core.control.links s (there s h)));
  apart = subst (λ z. IsDistinct (map (λ (s : SendingParts). s.to) z)) (sym local.sent_are)
      (sent-apart parts.core.net local.outcome.outs parts.core.control.links one (subst IsDistinct stands.stands.control.links (laws.tree.single parts.core.server)));
  few = subst (λ z. length z ≤ length parts.core.control.links) (sym local.sent_are) (sent-few parts.core.net local.outcome.outs parts.core.control.links one);
}
  where
    local : IsHierarchyStep net state input parts next sent
    local = step.step net state stands

    there : (s : SendingParts) → Has s sent → Has s (sent_by parts.core.net local.outcome.outs parts.core.control.links)
    there s h = subst (Has s) local.sent_are h

    measured : MeasureLaws (hierarchy_machine real net) (measure real net (side_size net.hop net.servers))
    measured = measure-laws real real_laws net laws

    one : (link : ℕ) → Has link parts.core.control.links → length (local.outcome.outs link) ≤ 1
    one link h = measured.one parts.core.server state input local.outcome local.step link (subst (Has link) (sym stands.stands.control.links) h)

-- the same of what a call answers
pub sends : (parts : HierarchyParts) → IsSome hierarchy parts → parts.core.clock < last_stamp → (input : Input Task (Message real)) (taken : ℕ) → taken < last_stamp → (next : HierarchyParts)
    → {T : Type 0} (answer : Result T NoMemory) (stamp : T → ℕ) (sent : T → List SendingParts) → IfOk answer (λ s. MakesHierarchyStep input taken parts next (stamp s) (sent s))
    → IfOk answer (λ s. GoesOn parts.core.control.links (stamp s) (sent s))
sends parts some low input taken taken-low next (Ok s) stamp sent step = goes_on parts some low input taken taken-low next (stamp s) (sent s) step
sends parts some low input taken taken-low next (Err e) stamp sent step = tt
