use Rattle.std.proofs.Common.{◌≡◌, ◌++◌, [], length, take, refl, ap, subst, ◌∙◌, sym, arith}
use Rattle.std.proofs.Math.Seq.{take-length}
use Rattle.net_model.specs.declared.turn.Turn.TheVariants as turns
use Rattle.output_report.specs.Trace.{entries_text, trace_head, trace_text}
use Rattle.audit_verdict.specs.Comparing.{GoesOn}
use Rattle.audit_verdict.specs.Kinds.{AreMade}
use Rattle.audit_verdict.proofs.MadeRuns.{made-more, made-none, made-stops}
use Rattle.audit_verdict.proofs.Pieces.{goes_nowhere, goes_then}
use Rattle.audit_verdict.proofs.Stopping.{as-many-entries}
use Rattle.audit_verdict.proofs.traced.make_compared.Goals as goal

pub loop-line-init : goal.loop-line-init
loop-line-init g c =
    made-none g.K.NetworkKind.kind g.P.Ruled.trying g.P.Ruled.walking g.P.Ruled.telling g.P.Ruled.ruling c.requires.laws
    c.args.turns.now c.args.tables.now c.in_ok-network.network c.compare_head.new.text c.in_ok-network.ensures (goes_nowhere c.compare_head.new.text)

pub returns-then-not-branch-clause-made : goal.returns-then-not-branch-clause-made
returns-then-not-branch-clause-made g c = (
  refl,
  made-stops g.K.NetworkKind.kind g.P.Ruled.trying g.P.Ruled.walking g.P.Ruled.telling g.P.Ruled.ruling c.requires.laws
      c.args.turns.now c.args.tables.now c.loop-line.network c.make_turn.new.network c.compare_head.new.text c.loop-line.text c.loop-line.line-index
      (0, turns.Command 0) c.in_ok-make_turn.field-0 c.loop-line-test.true c.loop-line.invariant c.if-not-branch.true c.in_ok-make_turn.ensures.turn,
)

pub loop-line-preserved : goal.loop-line-preserved
loop-line-preserved g c =
    made-more g.K.NetworkKind.kind g.P.Ruled.trying g.P.Ruled.walking g.P.Ruled.telling g.P.Ruled.ruling c.requires.laws
    c.args.turns.now c.args.tables.now c.loop-line.network c.make_turn.new.network c.compare_head.new.text c.loop-line.text c.make_turn.new.text c.loop-line.line-index
    (0, turns.Command 0) c.in_ok-make_turn.field-0
    c.loop-line-test.true c.loop-line.invariant c.if-not-branch.false c.in_ok-make_turn.ensures.turn c.in_ok-make_turn.ensures.compared

pub returns-clause-made : goal.returns-clause-made
returns-clause-made g c =
    let whole : c.loop-line.line-index ≡ length c.args.turns.now = omega (arith, c.loop-line-test.false, c.loop-line.auto.line-index-end) in
    let all : take c.loop-line.line-index c.args.turns.now ≡ c.args.turns.now = ap (λ n. take n c.args.turns.now) whole ∙ take-length c.args.turns.now in
    (c.loop-line.invariant.net_is, subst (λ z. AreMade g.K.NetworkKind.kind c.args.tables.now [] z c.loop-line.network.journal) all c.loop-line.invariant.made)

pub returns-clause-compared : goal.returns-clause-compared
returns-clause-compared g c =
    let kind = g.K.NetworkKind.kind in
    let whole : c.loop-line.line-index ≡ length c.args.turns.now = omega (arith, c.loop-line-test.false, c.loop-line.auto.line-index-end) in
    let all : take c.loop-line.line-index c.args.turns.now ≡ c.args.turns.now = ap (λ n. take n c.args.turns.now) whole ∙ take-length c.args.turns.now in
    let made : AreMade g.K.NetworkKind.kind c.args.tables.now [] c.args.turns.now c.loop-line.network.journal =
    subst (λ z. AreMade g.K.NetworkKind.kind c.args.tables.now [] z c.loop-line.network.journal) all c.loop-line.invariant.made in
    subst (λ told. GoesOn c.args.text.now c.loop-line.text (trace_text c.args.tables.now c.loop-line.network.journal told))
    (sym (c.requires.laws.told_is c.args.tables.now c.loop-line.network.journal))
    (subst (λ n. GoesOn c.args.text.now c.loop-line.text (trace_head n ++ entries_text c.args.tables.now.clients c.loop-line.network.journal (g.K.NetworkKind.kind.told_by c.args.tables.now c.loop-line.network.journal)))
    (as-many-entries g.K.NetworkKind.kind c.args.tables.now c.args.turns.now c.loop-line.network.journal made)
    (goes_then c.args.text.now c.compare_head.new.text c.loop-line.text (trace_head (length c.args.turns.now))
    (entries_text c.args.tables.now.clients c.loop-line.network.journal (g.K.NetworkKind.kind.told_by c.args.tables.now c.loop-line.network.journal))
    c.in_ok-compare_head.ensures c.loop-line.invariant.compared))
