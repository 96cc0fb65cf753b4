use Rattle.std.proofs.Common.{◌≡◌, ◌<◌, ◌≤◌, length, refl, sym, ap, subst, ◌∙◌, arith}
use Rattle.net_model.specs.Nets.{phases_of}
use Rattle.net_model.specs.Sound.{IsSound}
use Rattle.net_turns.specs.Network.{NetworkParts}
use Rattle.net_turns.proofs.Later.{later-net, later-none}
use Rattle.net_turns.proofs.walking.walk_phase.Goals as goal
use Rattle.base.proofs.Results.{on-err}

pub phases-phase-end-requires : goal.phases-phase-end-requires
phases-phase-end-requires g c = subst IsSound (sym c.requires) c.phase-phase.ensures.sound

pub loop-phase-init : goal.loop-phase-init
loop-phase-init g c =
    let w = g.N.Turning.walking in
    let at = g.N.Turning.seen in
    record {
      walked = w.walk_starts (at c.args.network.now) c.phase-phase.ensures.sound c.phase-phase.ensures.legal c.phase-phase.result c.phase-phase.ensures.phase;
      same = refl;
      empty = w.empty_none (at c.args.network.now) c.phase-phase.result c.phase-phase.ensures.phase;
    }

pub make_phase-requires-clause-net : goal.make_phase-requires-clause-net
make_phase-requires-clause-net g c =
    let w = g.N.Turning.walking in
    let at = g.N.Turning.seen in
    c.requires ∙ sym (later-net (at c.args.network.now) (at c.loop-phase.network) (w.walked_later c.loop-phase.phase (at c.args.network.now) (at c.loop-phase.network) c.loop-phase.invariant.walked))

pub make_phase-requires-clause-sound : goal.make_phase-requires-clause-sound
make_phase-requires-clause-sound g c = subst IsSound (sym c.requires) c.phase-phase.ensures.sound

pub loop-phase-preserved : goal.loop-phase-preserved
loop-phase-preserved g c =
    let w = g.N.Turning.walking in
    let at = g.N.Turning.seen in
    let walked = c.loop-phase.invariant.walked in
    let later = w.walked_later c.loop-phase.phase (at c.args.network.now) (at c.loop-phase.network) walked in
    let count : c.phases-phase-end.result ≡ phases_of (at c.loop-phase.network).net = c.phases-phase-end.ensures ∙ ap phases_of (c.requires ∙ sym (later-net (at c.args.network.now) (at c.loop-phase.network) later)) in
    let less : c.loop-phase.phase < phases_of (at c.loop-phase.network).net = omega (arith, count, c.loop-phase-test.true) in
    let short : length (at c.make_phase.new.network).journal ≤ length (at c.loop-phase.network).journal = omega (arith, c.if-count-before.false, c.count.ensures.count, c.count-before.ensures.count, ap (λ (z : NetworkParts). length z.journal) c.loop-phase.invariant.same) in
    let still : (at c.make_phase.new.network) ≡ (at c.loop-phase.network) = later-none (at c.loop-phase.network) (at c.make_phase.new.network) c.in_ok-make_phase.ensures.later short in
    record {
      walked = w.walk_on c.loop-phase.phase (at c.args.network.now) (at c.loop-phase.network) (at c.make_phase.new.network) walked less c.in_ok-make_phase.ensures.tried;
      same = still ∙ c.loop-phase.invariant.same;
      empty = w.empty_more c.loop-phase.phase (at c.args.network.now) (at c.loop-phase.network) (at c.make_phase.new.network) walked less c.loop-phase.invariant.empty c.loop-phase.invariant.same c.in_ok-make_phase.ensures.tried still;
    }

pub returns-then-count-before-clause-walked : goal.returns-then-count-before-clause-walked
returns-then-count-before-clause-walked g c =
    let w = g.N.Turning.walking in
    let at = g.N.Turning.seen in
    let walked = c.loop-phase.invariant.walked in
    let later = w.walked_later c.loop-phase.phase (at c.args.network.now) (at c.loop-phase.network) walked in
    let count : c.phases-phase-end.result ≡ phases_of (at c.loop-phase.network).net = c.phases-phase-end.ensures ∙ ap phases_of (c.requires ∙ sym (later-net (at c.args.network.now) (at c.loop-phase.network) later)) in
    let less : c.loop-phase.phase < phases_of (at c.loop-phase.network).net = omega (arith, count, c.loop-phase-test.true) in
    let more : length (at c.args.network.now).journal < length (at c.make_phase.new.network).journal = omega (arith, c.if-count-before.true, c.count.ensures.count, c.count-before.ensures.count) in
    let from : g.N.Turning.trying.phase_by (at c.args.network.now).net (at c.args.network.now).journal ≤ c.loop-phase.phase = omega (arith, c.phase-phase.ensures.phase, c.loop-phase.auto.phase) in
    w.phase_walked c.loop-phase.phase (at c.args.network.now) (at c.loop-phase.network) (at c.make_phase.new.network) walked less from c.loop-phase.invariant.empty c.loop-phase.invariant.same c.in_ok-make_phase.ensures.tried more

pub returns-clause-walked : goal.returns-clause-walked
returns-clause-walked g c =
    let w = g.N.Turning.walking in
    let at = g.N.Turning.seen in
    let count : c.phases-phase-end.result ≡ phases_of (at c.loop-phase.network).net = c.phases-phase-end.ensures ∙ ap phases_of (c.requires ∙ sym (ap (λ (z : NetworkParts). z.net) c.loop-phase.invariant.same)) in
    let past : phases_of (at c.loop-phase.network).net ≤ c.loop-phase.phase = omega (arith, count, c.loop-phase-test.false) in
    w.none_left c.loop-phase.phase (at c.args.network.now) (at c.loop-phase.network) c.loop-phase.invariant.walked past c.loop-phase.invariant.same

pub returns-in_err-make_phase-clause-begun : goal.returns-in_err-make_phase-clause-begun
returns-in_err-make_phase-clause-begun g c =
    let w = g.N.Turning.walking in
    let at = g.N.Turning.seen in
    let walked = c.loop-phase.invariant.walked in
    let later = w.walked_later c.loop-phase.phase (at c.args.network.now) (at c.loop-phase.network) walked in
    let count : c.phases-phase-end.result ≡ phases_of (at c.loop-phase.network).net = c.phases-phase-end.ensures ∙ ap phases_of (c.requires ∙ sym (later-net (at c.args.network.now) (at c.loop-phase.network) later)) in
    let less : c.loop-phase.phase < phases_of (at c.loop-phase.network).net = omega (arith, count, c.loop-phase-test.true) in
    let from : g.N.Turning.trying.phase_by (at c.args.network.now).net (at c.args.network.now).journal ≤ c.loop-phase.phase = omega (arith, c.phase-phase.ensures.phase, c.loop-phase.auto.phase) in
    on-err c.from_residual.result (w.phase_begun c.loop-phase.phase (at c.args.network.now) (at c.loop-phase.network) (at c.make_phase.new.network) walked less from c.loop-phase.invariant.empty c.loop-phase.invariant.same c.in_err-make_phase.ensures.begun)
