use Rattle.std.proofs.Common.{◌≡◌, ◌∷◌, [], ◌++◌, ap, subst, ◌∙◌, arith}
use Rattle.base_bits.specs.Rows.{Numbers}
use Rattle.base_bits.specs.Grid.{Table}
use Rattle.match_filters.specs.Matching.{matched}
use Rattle.net_tables.specs.Known.{PublicationParts}
use Rattle.net_tables.proofs.Finding.{found-more}
use Rattle.net_tables.proofs.found.find_all.Goals as goal

pub loop-known-preserved : goal.loop-known-preserved
loop-known-preserved c = record {
  wide = c.in_ok-matched.ensures.width ∙ c.loop-known.invariant.wide;
  same = ap (λ (t : Table). t.width) c.in_ok-push.ensures.ok ∙ c.loop-known.invariant.same;
  found = found-more c.args.matcher.now c.args.publications.now c.loop-known.known-index c.known-item.result c.matched.new.row c.loop-known.sets c.push.new.self (omega arith) c.known-item.is
      (c.in_ok-matched.ensures.width ∙ c.loop-known.invariant.wide) (c.in_ok-matched.ensures.members ∙ ap (λ (p : PublicationParts). matched p.notice c.args.matcher.now) c.known.view_is) c.loop-known.invariant.found
      (subst (λ (n : Numbers). c.push.new.self ≡ record { width = c.loop-known.sets.width; rows = c.loop-known.sets.rows ++ n ∷ [] }) c.as_set.ensures c.in_ok-push.ensures.ok);
}
