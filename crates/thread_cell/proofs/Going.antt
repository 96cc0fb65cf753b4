-- What a step of a core sends: messages of its net, in the order of its links; and those for each link.
use Rattle.std.proofs.Common.{◌≡◌, ℕ, ◌≤◌, cond, Bool, true, false, List, [], length, map, refl, sym, ap, subst, ◌∙◌}
use Rattle.base.specs.Sets.{Has}
use Rattle.base.specs.Numbers.{IsDistinct}
use Rattle.base_tree.specs.Hops.{side_size}
use Rattle.law_machine.specs.Machine.{Input, Outcome, stamped, receivers}
use Rattle.law_machine.specs.Load.{MeasureLaws}
use Rattle.law_routing.specs.Net.{Net, NetLaws}
use Rattle.law_routing.specs.Server.{Message, ServerState, is_among}
use Rattle.law_routing.specs.Step.{Task, full_effect}
use Rattle.law_routing.specs.Routing.{routing_machine, measure}
use Rattle.law_routing.proofs.Along.{strict-of, tree}
use Rattle.law_routing.proofs.Spreading.{spreads}
use Rattle.law_routing.proofs.Working.{served}
use Rattle.net_model.specs.Real.{real, real_laws}
use Rattle.server_message.specs.Parts.{MessageParts, SendingParts, sent_by}
use Rattle.server_core.specs.Core.{CoreParts, RepresentsServer}
use Rattle.server_core.specs.Step.{IsServerStep}
use Rattle.thread_cell.specs.LaneMessages.{AreInOrder, AreOfNet, all_sent_as, only_for}
use Rattle.server_core.proofs.SentOnLinks.{receivers-told, sent-of}
use Rattle.thread_cell.proofs.Sending.{messages-told}
use Rattle.thread_cell.proofs.Orders.{receivers-in-order}

module _ (net : Net real) (laws : NetLaws real net) (state : ServerState real) (core next : CoreParts) (stands : RepresentsServer net core state)
    (input : Input Task (Message real)) (sent : List SendingParts) (local : IsServerStep net state input core next sent) where
  measured : MeasureLaws (routing_machine real net) (measure real net (side_size net.hop net.servers))
  measured = spreads real (strict-of real real_laws) net (side_size net.hop net.servers) laws.single (tree real real_laws net laws)

  one : (link : ℕ) → Has link core.control.links → length (local.outcome.outs link) ≤ 1
  one link h = measured.one core.server state input local.outcome local.step link (subst (Has link) (sym stands.control.links) h)

  pub links-apart : IsDistinct core.control.links
  links-apart = subst IsDistinct stands.control.links (laws.tree.single core.server)

  there : (s : SendingParts) → Has s sent → Has s (sent_by core.net local.outcome.outs core.control.links)
  there s h = subst (Has s) local.sent_are h

  -- what is sent is of the core's net
  pub going-net : AreOfNet core.net sent
  going-net s h = ap (λ (z : MessageParts). z.net) (sent-of core.net local.outcome.outs core.control.links s (there s h)).2

  told : map (λ s. s.to) sent ≡ receivers (routing_machine real net) local.outcome.outs core.control.links
  told = ap (map (λ s. s.to)) local.sent_are ∙ receivers-told core.net local.outcome.outs net core.control.links one

  pub going-order : AreInOrder (map (λ s. s.to) sent) core.control.links
  going-order = subst (λ z. AreInOrder z core.control.links) (sym told) (receivers-in-order (routing_machine real net) local.outcome.outs core.control.links)

  pub going-told : map (λ s. s.to) sent ≡ receivers (routing_machine real net) local.outcome.outs (net.links core.server)
  going-told = told ∙ ap (receivers (routing_machine real net) local.outcome.outs) (sym stands.control.links)

  -- nothing goes where there is no link
  outs-apart : (b : ℕ) → is_among b (net.links core.server) ≡ false → local.outcome.outs b ≡ []
  outs-apart b e =
      let s = served real net core.server state input local.outcome local.step in
      ap (λ (z : Outcome (ServerState real) (Message real)). z.outs b) s.made ∙ ap (λ z. cond z ((full_effect real net core.server s.from s.work).outs b) []) e

  -- what is sent to a neighbour are the messages for it
  pub going-messages : (stamp b : ℕ) → all_sent_as stamp (only_for b sent) ≡ stamped (routing_machine real net) stamp (local.outcome.outs b)
  going-messages stamp b =
      ap (λ z. all_sent_as stamp (only_for b z)) local.sent_are ∙ messages-told core.net local.outcome.outs net stamp core.control.links links-apart b ∙ go (is_among b core.control.links) refl
    where
      go : (a : Bool) → is_among b core.control.links ≡ a
          → cond (is_among b core.control.links) (stamped (routing_machine real net) stamp (local.outcome.outs b)) [] ≡ stamped (routing_machine real net) stamp (local.outcome.outs b)
      go true e = rw e refl
      go false e = rw (e, outs-apart b (ap (is_among b) stands.control.links ∙ e)) refl
