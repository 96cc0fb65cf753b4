use Rattle.std.proofs.Common.{[], ◌∷◌, sym, ◌∙◌, refl}
use Rattle.net_model.specs.declared.turn.Turn.TheVariants as turns
use Rattle.net_turns.specs.Trying.{command_turn}
use Rattle.net_turns.proofs.Commands.{same-phase, other-phase}
use Rattle.net_turns.proofs.Later.{later-same}
use Rattle.net_turns.proofs.Begun.{on-err}
use Rattle.net_turns.proofs.Called.{called-tries, called-none, called-later}
use Rattle.net_turns.proofs.trying.make_command.Goals as goal

pub returns : goal.returns
returns g c =
    let t = g.N.Turning.trying in
    let at = g.N.Turning.seen in
    record {
      tried = called-tries t c.make.result c.args.client c.args.phase (at c.args.network.now) (at c.make.new.self) c.make.ensures.turn
          (sym c.next_phase.ensures ∙ same-phase c.next_phase.result c.args.phase (sym c.ne.ensures ∙ c.if-ne.false));
      begun = on-err c.make.result (t.begun_none c.args.phase (command_turn (at c.args.network.now).net c.args.client ∷ []) (at c.args.network.now) (at c.make.new.self)) c.make.ensures.err;
      none = called-none t c.make.result (turns.Command c.args.client) (at c.args.network.now) (at c.make.new.self) c.make.ensures.turn;
      later = called-later t c.make.result (turns.Command c.args.client) (at c.args.network.now) (at c.make.new.self) c.make.ensures.turn c.make.ensures.err;
    }

pub returns-then-ne : goal.returns-then-ne
returns-then-ne g c =
    let t = g.N.Turning.trying in
    let at = g.N.Turning.seen in
    record {
      tried = t.idle c.args.client c.args.phase (at c.args.network.now)
          (λ e. other-phase c.next_phase.result c.args.phase (sym c.ne.ensures ∙ c.if-ne.true) (c.next_phase.ensures ∙ e));
      begun = tt;
      none = λ e. refl;
      later = later-same (at c.args.network.now) (at c.args.network.now) refl;
    }
