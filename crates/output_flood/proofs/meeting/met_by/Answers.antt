use Rattle.std.proofs.Common.{List, ℕ, ap, subst, ◌∙◌}
use Rattle.base_bits.specs.Rows.{Numbers}
use Rattle.match_routes.specs.Routes.{IsRouteBy}
use Rattle.output_flood.specs.Tables.{AreOthers}
use Rattle.output_flood.proofs.Steady.{meets_all}
use Rattle.output_flood.proofs.meeting.met_by.Goals as goal

pub returns-clause-met : goal.returns-clause-met
returns-clause-met c = λ clients scripts known numbered t same.
    let numbers = ap (λ (n : Numbers). n.members) c.as_set-matched.ensures ∙ c.in_ok-matched.ensures.members in
    meets_all c.args.matcher.now clients scripts c.args.tables.now c.args.publication.now (record { every = c.in_ok-every.every; others = c.in_ok-others.others })
    c.attributes.ensures.whole.values c.lemma_bounded.ensures c.lemma_bounded-2.ensures known numbered t same
    (subst (λ (ns : List ℕ). IsRouteBy ns c.args.tables.now.every.pairs c.in_ok-every.every) numbers c.in_ok-every.ensures)
    (subst (λ (ns : List ℕ). AreOthers c.args.tables.now ns c.in_ok-every.every c.in_ok-others.others.items) numbers
    (subst (λ (es : List ℕ). AreOthers c.args.tables.now c.as_set-matched.result.members es c.in_ok-others.others.items) c.interfaces.ensures c.in_ok-others.ensures))
