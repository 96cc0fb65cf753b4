use Rattle.std.proofs.Common.{◌≡◌, ◌++◌, sym, subst}
use Rattle.output_explain.specs.Facts.{fact_by, filter_fact}
use Rattle.output_explain.specs.Stays.{filter_effect, stay_of}
use Rattle.std.proofs.lemmas.Option.{slice_get_within}
use Rattle.base.proofs.Lists.{index-get}
use Rattle.output_explain.proofs.Gathering.{one_more}
use Rattle.output_explain.proofs.facts.filter_facts.Goals as goal

pub loop-i-preserved : goal.loop-i-preserved
loop-i-preserved c =
    one_more (λ f. filter_fact c.args.notice.now f) (λ f. stay_of (filter_effect f) c.args.before.now c.args.within.now) c.args.known.now
    c.loop-i.i c.at-sub.result.now c.loop-i.facts.items c.push_filter_fact.new.facts.items c.stay_of-stay.result (slice_get_within c.args.known.now c.loop-i.i c.at-sub.result.now c.at-sub.ensures) (sym (index-get c.args.known.now c.loop-i.i c.at-sub.result.now c.at-sub.result.now c.at-sub.ensures))
    c.stay_of-stay.ensures
    (subst (λ z. c.push_filter_fact.new.facts.items ≡ c.loop-i.facts.items ++ fact_by (filter_fact c.args.notice.now z) c.stay_of-stay.result) c.sub.view_is
    c.in_ok-push_filter_fact.ensures)
    c.loop-i.invariant
