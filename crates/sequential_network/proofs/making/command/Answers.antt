use Rattle.std.proofs.Common.{length, sym, ap, ◌∙◌, rules, arith}
use Rattle.sequential_network.specs.Seen.{seen}
use Rattle.sequential_network.proofs.making.command.Goals as goal
use Rattle.sequential_network.proofs.making.command.Goals.{then-client-eq0-via-then-client-eq0, then-client-eq0-via-else-client-eq0+then-client-len}
use Rattle.std.proofs.lemmas.Bool.{both_ways}

pub returns-then-not-is_quiet-clause-turn : goal.returns-then-not-is_quiet-clause-turn
returns-then-not-is_quiet-clause-turn g c =
    c.requires.laws.command_early c.args.net.now c.args.phase.now (seen c.args.servers.now) c.requires.kept c.args.client c.in-Some.own (sym c.next_phase.ensures ∙ c.in-Some.is) (λ e. c.if-own-phase.false (sym e))
    (λ may. both_ways c.is_quiet.result c.if-not-is_quiet.true (c.is_quiet.ensures.1 (may.empty, may.calm)))

pub returns-then-not-none_below-clause-turn : goal.returns-then-not-none_below-clause-turn
returns-then-not-none_below-clause-turn g c =
    c.requires.laws.command_early c.args.net.now c.args.phase.now (seen c.args.servers.now) c.requires.kept c.args.client c.in-Some.own (sym c.next_phase.ensures ∙ c.in-Some.is) (λ e. c.if-own-phase.false (sym e))
    (λ may. both_ways c.none_below.result c.if-not-none_below.true (c.none_below.ensures.1 may.through))

pub returns-then-own-phase-2-clause-turn : goal.returns-then-own-phase-2-clause-turn
returns-then-own-phase-2-clause-turn g c =
    c.requires.laws.command_early c.args.net.now c.args.phase.now (seen c.args.servers.now) c.requires.kept c.args.client c.in-Some.own (sym c.next_phase.ensures ∙ c.in-Some.is) (λ e. c.if-own-phase.false (sym e))
    (λ may. let later = may.later in omega (arith, later, c.if-own-phase-2.true))

pub returns-then-client-eq0-clause-turn : goal.returns-then-client-eq0-clause-turn
returns-then-client-eq0-clause-turn g c =
    c.requires.laws.command_none c.args.net.now c.args.phase.now (seen c.args.servers.now) c.requires.kept c.args.client
    (λ within own next. elim c.then-client-eq0.branch [
      | then-client-eq0-via-then-client-eq0 w ↦ (let e = w.if-client-eq0.true in omega (arith, within.0, e))
      | then-client-eq0-via-else-client-eq0+then-client-len w ↦ (let past = w.if-client-len.true in let long = w.len.ensures in let view = ap (λ n. length n.clients) c.net.view_is in search (rules, within, past, long, view))
    ])

pub returns-in_default-clause-turn : goal.returns-in_default-clause-turn
returns-in_default-clause-turn g c =
    c.requires.laws.command_none c.args.net.now c.args.phase.now (seen c.args.servers.now) c.requires.kept c.args.client
    (λ within own next. c.in_default.not-Some own (c.next_phase.ensures ∙ next))
