use Rattle.std.proofs.Common.{◌≡◌, length, List, subst, ◌∙◌, sym, arith}
use Rattle.std.proofs.lemmas.Bool.Decides.{nat_tests}
use Rattle.match_routes.specs.declared.table_change.TableChange.{TableChange}
use Rattle.match_routes.specs.Routes.{IsRouteBy}
use Rattle.thread_versions.specs.Pairs.{pairs_after}
use Rattle.thread_versions.proofs.Fronts.{prefix_whole}
use Rattle.thread_versions.proofs.Pairs.{is-route}
use Rattle.thread_versions.proofs.agreeing.agree.Goals as goal

pub returns-clause-route : goal.returns-clause-route
returns-clause-route c agrees =
    let a = c.args.ahead.now in
    let p = c.args.publisher.now in
    let count : a.front.count ≡ p.shown.count = grind (arith, nat_tests, agrees) in
    let long : length a.front.seen.log ≡ length p.shown.seen.log = sym a.front.counted ∙ count ∙ p.shown.counted in
    let same = prefix_whole a.front.seen.log p.shown.seen.log (c.lemma_prefix.ensures (omega (arith, long))) (omega (arith, long)) in
    subst (λ (l : List TableChange). IsRouteBy a.matched.members (pairs_after l) a.route) same (is-route a.matched.members a.front.seen.log a.route a.routed)
