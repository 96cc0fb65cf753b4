use Rattle.std.proofs.Common.{◌≡◌, ◌+◌, ◌∷◌, ◌++◌, [], cond, map, drop, ap, sym, ◌∙◌, arith}
use Rattle.law_routing.specs.Net.{Net}
use Rattle.law_routing.specs.Clients.{adverts_step, refused_from}
use Rattle.net_model.specs.Real.{real}
use Rattle.net_model.specs.Meaning.{command_of, phased_command}
use Rattle.output_traffic.specs.Flood.{accepted_phases}
use Rattle.output_traffic.proofs.Refusing.{phase-next}
use Rattle.output_traffic.proofs.flood.accepted.Goals as goal
use Rattle.output_traffic.proofs.flood.accepted.Goals.{then-step+in_ok-push, else-step}
use Rattle.base.proofs.Lists.{drop-next}

pub loop-phase-preserved : goal.loop-phase-preserved
loop-phase-preserved c = record {
  publishes = omega (arith, c.step.ensures.publishes, c.loop-phase.invariant.publishes);
  refused = omega (arith, c.step.ensures.refused, c.loop-phase.invariant.refused);
  left = λ (net : Net real) given.
      let (adverts, kept, phases) = c.loop-phase.invariant.left net given in
      let script = c.args.script.now in
      let i = c.loop-phase.phase-index in
      let item = c.loop-phase-item.result in
      let rest = map phased_command (drop (i + 1) script) in
      let whole = ap (map phased_command) (drop-next script i item c.loop-phase-test.true ∙ ap (λ z. z ∷ drop (i + 1) script) (sym c.loop-phase-item.is)) in
      let step = c.step.ensures.step net adverts item.0 rest (ap (λ z. refused_from real net adverts c.loop-phase.going.publishes z) (sym whole) ∙ kept) in
      let before = c.loop-phase.phases.items in
      let made = elim c.if-step.branch as (λ _. c.if-step.phases.items ≡ cond c.step.result (before ++ item.0 ∷ []) before) [
        | then-step+in_ok-push w ↦ ap (λ z. z.items) w.phases-is ∙ (w.in_ok-push.ensures.items ∙ ap (λ z. cond z (before ++ item.0 ∷ []) before) (sym w.if-step.true))
        | else-step w ↦ ap (λ z. z.items) w.phases-is ∙ ap (λ z. cond z (before ++ item.0 ∷ []) before) (sym w.if-step.false)
      ] in
      let later = accepted_phases real net (adverts_step real adverts (command_of item.1)) rest in (
        adverts_step real adverts (command_of item.1),
        step.1,
        phase-next c.step.result before c.if-step.phases.items later item.0 made
            ∙ (ap (λ z. before ++ cond z (item.0 ∷ later) later) step.0 ∙ (ap (λ z. before ++ accepted_phases real net adverts z) (sym whole) ∙ phases)),
      );
}
