use Rattle.std.proofs.Common.{◌≡◌, ◌<◌, ◌≤◌, sym, ap, subst, ◌∙◌, arith}
use Rattle.net_model.specs.Nets.{phases_of}
use Rattle.net_model.specs.Sound.{IsSound}
use Rattle.net_turns.proofs.Later.{later-on, later-net}
use Rattle.net_turns.proofs.walking.walk.Goals as goal
use Rattle.base.proofs.Results.{on-err}

pub phases-phase-end-requires : goal.phases-phase-end-requires
phases-phase-end-requires g c = subst IsSound (sym c.requires) c.phase-phase.ensures.sound

pub loop-phase-init : goal.loop-phase-init
loop-phase-init g c =
    let w = g.N.Turning.walking in
    let at = g.N.Turning.seen in
    w.walk_starts (at c.args.network.now) c.phase-phase.ensures.sound c.phase-phase.ensures.legal c.phase-phase.result c.phase-phase.ensures.phase

pub make_phase-requires-clause-net : goal.make_phase-requires-clause-net
make_phase-requires-clause-net g c =
    let w = g.N.Turning.walking in
    let at = g.N.Turning.seen in
    c.requires ∙ sym (later-net (at c.args.network.now) (at c.loop-phase.network) (w.walked_later c.loop-phase.phase (at c.args.network.now) (at c.loop-phase.network) c.loop-phase.invariant))

pub make_phase-requires-clause-sound : goal.make_phase-requires-clause-sound
make_phase-requires-clause-sound g c = subst IsSound (sym c.requires) c.phase-phase.ensures.sound

pub loop-phase-preserved : goal.loop-phase-preserved
loop-phase-preserved g c =
    let w = g.N.Turning.walking in
    let at = g.N.Turning.seen in
    let later = w.walked_later c.loop-phase.phase (at c.args.network.now) (at c.loop-phase.network) c.loop-phase.invariant in
    let count : c.phases-phase-end.result ≡ phases_of (at c.loop-phase.network).net = c.phases-phase-end.ensures ∙ ap phases_of (c.requires ∙ sym (later-net (at c.args.network.now) (at c.loop-phase.network) later)) in
    let less : c.loop-phase.phase < phases_of (at c.loop-phase.network).net = omega (arith, count, c.loop-phase-test.true) in
    w.walk_on c.loop-phase.phase (at c.args.network.now) (at c.loop-phase.network) (at c.make_phase.new.network) c.loop-phase.invariant less c.in_ok-make_phase.ensures.tried

pub returns-clause-walked : goal.returns-clause-walked
returns-clause-walked g c =
    let w = g.N.Turning.walking in
    let at = g.N.Turning.seen in
    let count : c.phases-phase-end.result ≡ phases_of (at c.args.network.now).net = c.phases-phase-end.ensures ∙ ap phases_of c.requires in
    let past : phases_of (at c.args.network.now).net ≤ c.loop-phase.phase = omega (arith, count, c.loop-phase-test.false) in
    w.walk_ends c.loop-phase.phase (at c.args.network.now) (at c.loop-phase.network) c.loop-phase.invariant past

pub returns-in_err-make_phase-clause-err : goal.returns-in_err-make_phase-clause-err
returns-in_err-make_phase-clause-err g c =
    let w = g.N.Turning.walking in
    let at = g.N.Turning.seen in
    on-err c.from_residual.result (later-on (at c.args.network.now) (at c.loop-phase.network) (at c.make_phase.new.network) (w.walked_later c.loop-phase.phase (at c.args.network.now) (at c.loop-phase.network) c.loop-phase.invariant) c.make_phase.ensures.later)

pub returns-in_err-make_phase-clause-begun : goal.returns-in_err-make_phase-clause-begun
returns-in_err-make_phase-clause-begun g c =
    let w = g.N.Turning.walking in
    let at = g.N.Turning.seen in
    let later = w.walked_later c.loop-phase.phase (at c.args.network.now) (at c.loop-phase.network) c.loop-phase.invariant in
    let count : c.phases-phase-end.result ≡ phases_of (at c.loop-phase.network).net = c.phases-phase-end.ensures ∙ ap phases_of (c.requires ∙ sym (later-net (at c.args.network.now) (at c.loop-phase.network) later)) in
    let less : c.loop-phase.phase < phases_of (at c.loop-phase.network).net = omega (arith, count, c.loop-phase-test.true) in
    on-err c.from_residual.result (w.walk_begun c.loop-phase.phase (at c.args.network.now) (at c.loop-phase.network) (at c.make_phase.new.network) c.loop-phase.invariant less c.in_err-make_phase.ensures.begun)
