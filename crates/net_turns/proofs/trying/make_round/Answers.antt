use Rattle.std.proofs.lemmas.Bool.{ltb-false}
use Rattle.std.proofs.Common.{ℕ, ◌+◌, ◌-◌, ◌∷◌, ◌++◌, drop, refl, sym, ap, subst, ◌∙◌, arith}
use Rattle.law_machine.specs.Machine.{Did}
use Rattle.law_routing.specs.Step.{TableUpdate}
use Rattle.law_routing.specs.Walk.{round_at}
use Rattle.law_phases.specs.Trees.{net_at}
use Rattle.net_model.specs.Real.{real}
use Rattle.net_model.specs.Nets.{phased_net, servers_in}
use Rattle.net_turns.specs.Network.{IsLater}
use Rattle.net_turns.specs.Trying.{receptions, round_turns}
use Rattle.net_turns.proofs.Later.{later-same, later-on, later-none}
use Rattle.net_turns.proofs.Rounds.{round-left, round-past}
use Rattle.net_turns.proofs.WalkRounds.{round-goes}
use Rattle.net_turns.proofs.Going.{going-stops}
use Rattle.net_turns.proofs.trying.make_round.Goals as goal
use Rattle.net_turns.proofs.trying.make_round.Goals.{else-loop-server-test, then-loop-server-test+in_ok-receive_each+in_ok-make+else-server-server-end}
use Rattle.net_model.specs.declared.turn.Turn.TheVariants as turns
use Rattle.base.proofs.Results.{on-err}

pub loop-server-init : goal.loop-server-init
loop-server-init g c =
    let t = g.N.Turning.trying in
    let at = g.N.Turning.seen in
    record {
      later = later-same (at c.args.network.now) (at c.args.network.now) refl;
      way = λ phase e. t.going_starts phase (round_turns (at c.args.network.now).net (t.tree_phase phase)) (at c.args.network.now);
    }

pub loop-server-preserved : goal.loop-server-preserved
loop-server-preserved g c =
    let t = g.N.Turning.trying in
    let at = g.N.Turning.seen in
    record {
      later = later-on (at c.args.network.now) (at c.loop-server.network) (at c.make.new.self) c.loop-server.invariant.later
          (later-on (at c.loop-server.network) (at c.receive_each.new.network) (at c.make.new.self) c.in_ok-receive_each.ensures.later (t.turn_later c.in_ok-make.field-0 (turns.TableUpdate c.loop-server.server) (at c.receive_each.new.network) (at c.make.new.self) c.in_ok-make.ensures.turn));
      way = λ phase e. round-goes t phase (t.tree_phase phase) c.args.tree.now c.loop-server.server c.neighbours.result.now c.in_ok-make.field-0 (at c.args.network.now) (at c.loop-server.network) (at c.receive_each.new.network) (at c.make.new.self) c.count-before.ensures.sound e (omega arith) (omega arith)
          c.neighbours.ensures.value (c.loop-server.invariant.way phase e) (c.in_ok-receive_each.ensures.tried phase) c.in_ok-make.ensures.turn;
    }

pub returns-clause-bounded : goal.returns-clause-bounded
returns-clause-bounded g c =
    let t = g.N.Turning.trying in
    let at = g.N.Turning.seen in
    λ phase. t.fewer_entries (at c.args.network.now).net (at c.args.network.now).journal c.count-before.ensures.sound c.count-before.ensures.legal phase

pub returns-clause-tried : goal.returns-clause-tried
returns-clause-tried g c =
    let t = g.N.Turning.trying in
    let at = g.N.Turning.seen in
    λ phase e. (let turns = round_turns (at c.args.network.now).net (t.tree_phase phase) in
    let left = λ (n : ℕ). round_at real (net_at real (phased_net (at c.args.network.now).net) (t.tree_phase phase)) (drop n (servers_in (at c.args.network.now).net)) in
    elim c.loop-server-test.branch [
      | else-loop-server-test w ↦
          subst (λ z. t.Tries phase turns (at c.args.network.now) (at z)) (sym w.network-is)
          (t.going_ends phase turns (left (c.loop-server.server - 1)) (at c.args.network.now) (at c.loop-server.network)
          (round-past (at c.args.network.now).net c.count-before.ensures.sound (t.tree_phase phase) c.args.tree.now (c.loop-server.server - 1) e (omega (arith, w.loop-server-test.false, c.servers-server-end.ensures.value)))
          (c.loop-server.invariant.way phase e))
      | then-loop-server-test+in_ok-receive_each+in_ok-make+else-server-server-end w ↦
          subst (λ z. t.Tries phase turns (at c.args.network.now) (at z)) (sym w.network-is)
          (t.going_ends phase turns (left (c.loop-server.server + 1 - 1)) (at c.args.network.now) (at w.make.new.self)
          (round-past (at c.args.network.now).net c.count-before.ensures.sound (t.tree_phase phase) c.args.tree.now (c.loop-server.server + 1 - 1) e (omega (arith, w.loop-server-test.true, c.servers-server-end.ensures.value)))
          (round-goes t phase (t.tree_phase phase) c.args.tree.now c.loop-server.server w.neighbours.result.now w.in_ok-make.field-0 (at c.args.network.now) (at c.loop-server.network) (at w.receive_each.new.network) (at w.make.new.self) c.count-before.ensures.sound e
          (omega arith) (omega (arith, w.loop-server-test.true, c.servers-server-end.ensures.value)) w.neighbours.ensures.value (c.loop-server.invariant.way phase e) (w.in_ok-receive_each.ensures.tried phase) w.in_ok-make.ensures.turn))
    ])

pub returns-clause-later : goal.returns-clause-later
returns-clause-later g c =
    let t = g.N.Turning.trying in
    let at = g.N.Turning.seen in
    elim c.loop-server-test.branch [
      | else-loop-server-test w ↦ subst (λ z. IsLater (at c.args.network.now) (at z)) (sym w.network-is) c.loop-server.invariant.later
      | then-loop-server-test+in_ok-receive_each+in_ok-make+else-server-server-end w ↦
          subst (λ z. IsLater (at c.args.network.now) (at z)) (sym w.network-is)
          (later-on (at c.args.network.now) (at c.loop-server.network) (at w.make.new.self) c.loop-server.invariant.later
          (later-on (at c.loop-server.network) (at w.receive_each.new.network) (at w.make.new.self) w.in_ok-receive_each.ensures.later (t.turn_later w.in_ok-make.field-0 (turns.TableUpdate c.loop-server.server) (at w.receive_each.new.network) (at w.make.new.self) w.in_ok-make.ensures.turn)))
    ]

pub returns-in_err-receive_each-clause-begun : goal.returns-in_err-receive_each-clause-begun
returns-in_err-receive_each-clause-begun g c =
    let t = g.N.Turning.trying in
    let at = g.N.Turning.seen in
    on-err c.from_residual.result (λ phase e. (
    let net = (at c.args.network.now).net in
    let server = c.loop-server.server in
    let more = round_at real (net_at real (phased_net net) (t.tree_phase phase)) (drop (server + 1 - 1) (servers_in net)) in
    t.going_breaks phase (round_turns net (t.tree_phase phase)) (round_at real (net_at real (phased_net net) (t.tree_phase phase)) (drop (server - 1) (servers_in net))) (receptions server c.neighbours.result.now) ((server, Did TableUpdate) ∷ more) (at c.args.network.now) (at c.loop-server.network) (at c.receive_each.new.network)
    (round-left net c.count-before.ensures.sound (t.tree_phase phase) c.args.tree.now server e (omega arith) (omega arith) ∙ ap (λ z. receptions server z ++ ((server, Did TableUpdate) ∷ more)) (sym c.neighbours.ensures.value))
    (c.loop-server.invariant.way phase e) (c.in_err-receive_each.ensures.begun phase)))

pub returns-in_err-make-clause-begun : goal.returns-in_err-make-clause-begun
returns-in_err-make-clause-begun g c =
    let t = g.N.Turning.trying in
    let at = g.N.Turning.seen in
    on-err c.from_residual-in_err-make.result (λ phase e. (
    let net = (at c.args.network.now).net in
    let server = c.loop-server.server in
    let more = round_at real (net_at real (phased_net net) (t.tree_phase phase)) (drop (server + 1 - 1) (servers_in net)) in
    going-stops t phase (round_turns net (t.tree_phase phase)) ((server, Did TableUpdate) ∷ more) (at c.args.network.now) (at c.receive_each.new.network) (at c.make.new.self)
    (t.going_on phase (round_turns net (t.tree_phase phase)) (round_at real (net_at real (phased_net net) (t.tree_phase phase)) (drop (server - 1) (servers_in net))) (receptions server c.neighbours.result.now) ((server, Did TableUpdate) ∷ more) (at c.args.network.now) (at c.loop-server.network) (at c.receive_each.new.network)
    (round-left net c.count-before.ensures.sound (t.tree_phase phase) c.args.tree.now server e (omega arith) (omega arith) ∙ ap (λ z. receptions server z ++ ((server, Did TableUpdate) ∷ more)) (sym c.neighbours.ensures.value))
    (c.loop-server.invariant.way phase e) (c.in_ok-receive_each.ensures.tried phase)) c.in_err-make.ensures.err))

pub returns-in_err-receive_each-clause-bounded : goal.returns-in_err-receive_each-clause-bounded
returns-in_err-receive_each-clause-bounded g c =
    let t = g.N.Turning.trying in
    let at = g.N.Turning.seen in
    λ phase. t.fewer_entries (at c.args.network.now).net (at c.args.network.now).journal c.count-before.ensures.sound c.count-before.ensures.legal phase

pub returns-in_err-make-clause-bounded : goal.returns-in_err-make-clause-bounded
returns-in_err-make-clause-bounded g c =
    let t = g.N.Turning.trying in
    let at = g.N.Turning.seen in
    λ phase. t.fewer_entries (at c.args.network.now).net (at c.args.network.now).journal c.count-before.ensures.sound c.count-before.ensures.legal phase

pub returns-clause-none : goal.returns-clause-none
returns-clause-none g c =
    let at = g.N.Turning.seen in
    λ e. later-none (at c.args.network.now) (at c.loop-server-test.network) (returns-clause-later g c)
    (omega (arith, ltb-false c.count-before.result c.count.result e, c.count.ensures.count, c.count-before.ensures.count))
