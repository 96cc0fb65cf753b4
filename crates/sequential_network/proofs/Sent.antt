-- What a step sends goes on links of its server, at most one message on each.
use Rattle.std.proofs.Common.{◌≡◌, ℕ, ◌<◌, ◌≤◌, List, length, map, Result, Ok, Err, IfOk, sym, subst, arith}
use Rattle.base.specs.Sets.{Has}
use Rattle.base.specs.Numbers.{IsDistinct}
use Rattle.base_tree.specs.Hops.{side_size}
use Rattle.law_machine.specs.Machine.{Input}
use Rattle.law_machine.specs.Load.{MeasureLaws}
use Rattle.law_routing.specs.Server.{Message}
use Rattle.law_routing.specs.Step.{Task}
use Rattle.law_routing.specs.Routing.{routing_machine, measure}
use Rattle.law_routing.proofs.Along.{strict-of, tree}
use Rattle.law_routing.proofs.Spreading.{spreads}
use Rattle.net_model.specs.Real.{real, real_laws}
use Rattle.base.specs.declared.memory.NoMemory.{NoMemory}
use Rattle.server_message.specs.Parts.{SendingParts, sent_by}
use Rattle.server_core.specs.Core.{CoreParts}
use Rattle.server_core.specs.Step.{IsServerStep, MakesStep, last_stamp}
use Rattle.sequential_network.specs.Stepping.{GoesOn, IsSome, peers}
use Rattle.server_core.proofs.SentOnLinks.{sent-few, sent-to, sent-apart}

pub goes_on : (core : CoreParts) → IsSome peers core → core.clock < last_stamp → (input : Input Task (Message real)) (taken : ℕ) → taken < last_stamp
    → (next : CoreParts) (stamp : ℕ) (sent : List SendingParts) → MakesStep input taken core next stamp sent → GoesOn core.control.links stamp sent
goes_on core (net, laws, state, stands) low input taken taken-low next stamp sent step = record {
  low = let is = step.stamp_is in omega (arith, is, low, taken-low);
  to = λ s h. sent-to core.net local.outcome.outs core.control.links s (there s h);
  small = λ s h. laws.small core.server s.to (subst (Has s.to) (sym stands.control.links) (sent-to core.net local.outcome.outs core.control.links s (there s h)));
  apart = subst (λ z. IsDistinct (map (λ (s : SendingParts). s.to) z)) (sym local.sent_are)
      (sent-apart core.net local.outcome.outs core.control.links one (subst IsDistinct stands.control.links (laws.tree.single core.server)));
  few = subst (λ z. length z ≤ length core.control.links) (sym local.sent_are) (sent-few core.net local.outcome.outs core.control.links one);
}
  where
    local : IsServerStep net state input core next sent
    local = step.step net state stands

    there : (s : SendingParts) → Has s sent → Has s (sent_by core.net local.outcome.outs core.control.links)
    there s h = subst (Has s) local.sent_are h

    measured : MeasureLaws (routing_machine real net) (measure real net (side_size net.hop net.servers))
    measured = spreads real (strict-of real real_laws) net (side_size net.hop net.servers) laws.single (tree real real_laws net laws)

    one : (link : ℕ) → Has link core.control.links → length (local.outcome.outs link) ≤ 1
    one link h = measured.one core.server state input local.outcome local.step link (subst (Has link) (sym stands.control.links) h)

-- the same of what a call answers
pub sends : (core : CoreParts) → IsSome peers core → core.clock < last_stamp → (input : Input Task (Message real)) (taken : ℕ) → taken < last_stamp → (next : CoreParts)
    → {T : Type 0} (answer : Result T NoMemory) (stamp : T → ℕ) (sent : T → List SendingParts) → IfOk answer (λ s. MakesStep input taken core next (stamp s) (sent s))
    → IfOk answer (λ s. GoesOn core.control.links (stamp s) (sent s))
sends core some low input taken taken-low next (Ok s) stamp sent step = goes_on core some low input taken taken-low next (stamp s) (sent s) step
sends core some low input taken taken-low next (Err e) stamp sent step = tt

-- what an answer says where it was handed on
pub handed : {T E : Type 0} (Q : T → Type 0) (answer : Result T E) (result : Result T NoMemory) → IfOk answer Q → IfOk result (λ x. answer ≡ Ok x) → IfOk result Q
handed Q answer (Ok x) q is = subst (λ a. IfOk a Q) is q
handed Q answer (Err e) q is = tt
