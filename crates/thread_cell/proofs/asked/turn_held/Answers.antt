use Rattle.std.proofs.Common.{refl, sym, subst}
use Rattle.std.specs.Prelude.{IfOk}
use Rattle.law_machine.specs.Machine.{Does}
use Rattle.law_routing.specs.Step.{NextCommand}
use Rattle.net_model.specs.declared.turn.Act.TheVariants.{Command}
use Rattle.thread_cell.specs.declared.turned.Turned.TheVariants.{Idle}
use Rattle.thread_cell.specs.Links.{IsNeighbour}
use Rattle.thread_cell.specs.Asked.{IsWorn, SuitsHeld}
use Rattle.thread_cell.specs.Ahead.{AnswersBy}
use Rattle.thread_cell.proofs.Shown.{same-one}
use Rattle.thread_cell.proofs.Unmoved.{all-unmoved}
use Rattle.thread_cell.proofs.Turning.{still}
use Rattle.thread_cell.proofs.Phased.{left-all}
use Rattle.thread_cell.proofs.Places.{below-found}
use Rattle.thread_cell.proofs.Asking.{place-of, taken-by, update_table-by, worn-by}
use Rattle.thread_cell.proofs.Choosing.{command-by, idle-by}
use Rattle.thread_cell.proofs.asked.turn_held.Goals as goal
use Rattle.std.proofs.lemmas.Bool.{both_ways}

pub returns-then-not-is_of_phase-clause-answers : goal.returns-then-not-is_of_phase-clause-answers
returns-then-not-is_of_phase-clause-answers g c =
    subst (λ w. AnswersBy c.args.phase w c.args.matched c.args.held.now c.args.held.now c.args.journal.now.entries c.args.journal.now.entries Idle) (sym c.in-Command.is)
    (idle-by c.args.phase c.args.held.now c.args.held.now c.args.journal.now.entries c.args.journal.now.entries c.args.matched (Command c.in-Command.client) (
      still _ _ _ _ refl (all-unmoved c.args.held.now.links.items) refl (same-one _) refl,
      λ h. both_ways c.is_of_phase.result c.if-not-is_of_phase.true (c.is_of_phase.ensures.1 h),
    ))

pub turn_command-requires-clause-left : goal.turn_command-requires-clause-left
turn_command-requires-clause-left g c = left-all c.args.held.now.core c.in-Command.client c.args.phase c.requires.stands (c.is_of_phase.ensures.0 c.if-not-is_of_phase.false)

pub returns-in_ok-turn_command-in-Command-clause-answers : goal.returns-in_ok-turn_command-in-Command-clause-answers
returns-in_ok-turn_command-in-Command-clause-answers g c =
    let due = c.is_of_phase.ensures.0 c.if-not-is_of_phase.false in
    subst (λ w. AnswersBy c.args.phase w c.args.matched c.args.held.now c.turn_command.new.held c.args.journal.now.entries c.turn_command.new.journal.entries c.turned.result) (sym c.in-Command.is)
    (subst (AnswersBy c.args.phase (Command c.in-Command.client) c.args.matched c.args.held.now c.turn_command.new.held c.args.journal.now.entries c.turn_command.new.journal.entries) (sym c.turned.ensures)
    (command-by c.args.phase c.args.held.now c.turn_command.new.held c.args.journal.now.entries c.turn_command.new.journal.entries c.args.matched c.in-Command.client c.choose_next-choice.result c.choose_next-choice.ensures
    (record { input = Does (NextCommand c.in-Command.client); turn = c.in_ok-turn_command-in-Command.ensures.made c.args.phase due; busy = due }) refl))

pub unreachable-requires : goal.unreachable-requires
unreachable-requires g c =
    let n = place-of c.args.held.now c.in-Receive.from c.requires.held (subst (λ w. SuitsHeld w c.args.held.now) c.in-Receive.is c.requires.suits) in
    c.in_default.ensures.none n.0 (subst (IsNeighbour n.0 c.in-Receive.from) (sym c.deref.ensures.value) n.1)

pub turn_receive-requires-clause-place : goal.turn_receive-requires-clause-place
turn_receive-requires-clause-place g c =
    let n = subst (IsNeighbour c.in-Some.place c.in-Receive.from) c.deref.ensures.value c.in-Some.ensures.some in
    below-found c.in-Some.place c.args.held.now.links.items n.0 n.1

pub returns-in-Some-clause-answers : goal.returns-in-Some-clause-answers
returns-in-Some-clause-answers g c =
    let n = subst (IsNeighbour c.in-Some.place c.in-Receive.from) c.deref.ensures.value c.in-Some.ensures.some in
    subst (λ w. IfOk c.turn_receive.result (AnswersBy c.args.phase w c.args.matched c.args.held.now c.turn_receive.new.held c.args.journal.now.entries c.turn_receive.new.journal.entries)) (sym c.in-Receive.is)
    (taken-by c.args.phase c.in-Some.place c.in-Receive.from c.args.held.now _ _ _ n c.args.matched c.turn_receive.result (c.turn_receive.ensures.taken c.args.phase))

pub returns-in-Some-clause-worn : goal.returns-in-Some-clause-worn
returns-in-Some-clause-worn g c s e =
    let n = subst (IsNeighbour c.in-Some.place c.in-Receive.from) c.deref.ensures.value c.in-Some.ensures.some in
    subst (λ w. IsWorn w s c.args.held.now c.turn_receive.new.held) (sym c.in-Receive.is)
    (worn-by c.args.phase c.in-Some.place c.in-Receive.from c.args.held.now _ _ _ n c.turn_receive.result s c.turn_receive.ensures.still (c.turn_receive.ensures.worn s) e)

pub returns-in-TableUpdate-clause-answers : goal.returns-in-TableUpdate-clause-answers
returns-in-TableUpdate-clause-answers g c =
    subst (λ w. IfOk c.turn_update.result (AnswersBy c.args.phase w c.args.matched c.args.held.now c.turn_update.new.held c.args.journal.now.entries c.turn_update.new.journal.entries)) (sym c.in-TableUpdate.is)
    (update_table-by c.args.phase c.args.held.now c.turn_update.new.held c.args.journal.now.entries c.turn_update.new.journal.entries c.args.matched c.turn_update.result (c.turn_update.ensures.answers c.args.phase))

pub returns-in-TableUpdate-clause-worn : goal.returns-in-TableUpdate-clause-worn
returns-in-TableUpdate-clause-worn g c s e = subst (λ w. IsWorn w s c.args.held.now c.turn_update.new.held) (sym c.in-TableUpdate.is) (c.turn_update.ensures.worn s e)

pub is_of_phase-requires-clause-lives : goal.is_of_phase-requires-clause-lives
is_of_phase-requires-clause-lives g c = subst (λ w. SuitsHeld w c.args.held.now) c.in-Command.is c.requires.suits

pub choose_next-choice-requires-clause-lives : goal.choose_next-choice-requires-clause-lives
choose_next-choice-requires-clause-lives g c = subst (λ w. SuitsHeld w c.args.held.now) c.in-Command.is c.requires.suits

pub turn_command-requires-clause-lives : goal.turn_command-requires-clause-lives
turn_command-requires-clause-lives g c = subst (λ w. SuitsHeld w c.args.held.now) c.in-Command.is c.requires.suits
