use Rattle.std.proofs.Common.{sym}
use Rattle.std.proofs.lemmas.Option.{slice_get_within}
use Rattle.base.proofs.Lists.{index-get}
use Rattle.output_explain.specs.Facts.{advert_fact}
use Rattle.output_explain.specs.Stays.{advert_effect, stay_of}
use Rattle.output_explain.proofs.Gathering.{one_more}
use Rattle.output_explain.proofs.facts.advert_facts.Goals as goal

pub loop-i-preserved : goal.loop-i-preserved
loop-i-preserved c =
    one_more (λ a. advert_fact c.args.notice.now c.args.ahead.now a) (λ a. stay_of (advert_effect a) c.args.before.now c.args.within.now) c.args.known.now
    c.loop-i.i c.at-ad.result.now c.loop-i.facts.items c.push_advert_fact.new.facts.items c.stay_of-stay.result (slice_get_within c.args.known.now c.loop-i.i c.at-ad.result.now c.at-ad.ensures) (sym (index-get c.args.known.now c.loop-i.i c.at-ad.result.now c.at-ad.result.now c.at-ad.ensures))
    c.stay_of-stay.ensures c.in_ok-push_advert_fact.ensures c.loop-i.invariant
