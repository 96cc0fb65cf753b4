use Rattle.std.proofs.Common.{◌≡◌, ◌+◌, ◌*◌, ◌<◌, ℕ, cond, take, ap, arith}
use Rattle.filter_types.specs.Notice.{Attribute}
use Rattle.match_index.specs.Pairs.{tally}
use Rattle.match_index.proofs.Tallies.{tally-more}
use Rattle.match_cells.specs.Counts.{rows_with}
use Rattle.match_filters.specs.Kinds.{all_uses}
use Rattle.match_filters.specs.Rows.{is_met}
use Rattle.match_filters.proofs.count.gather.Goals as goal

pub loop-name-preserved : goal.loop-name-preserved
loop-name-preserved c =
    let n = c.attributes-name-items.result.now in
    let i = c.loop-name.name-index in
    let a : Attribute = c.loop-name-item.result in
    let h = c.in_ok-read.ensures in
    let counts : (k : ℕ) → k < 64 * c.args.span → rows_with c.read.new.rows k ≡ tally (λ a. is_met a (all_uses c.args.index.now) k) (take (i + 1) n) = λ k l.
    (let more = tally-more (λ a. is_met a (all_uses c.args.index.now) k) n i a c.loop-name-test.true in
    let same = ap {B = ℕ} (λ (x : Attribute). cond (is_met x (all_uses c.args.index.now) k) 1 0) c.loop-name-item.is in
    omega (arith, more, same, h.more k l, c.loop-name.invariant.counts k l)) in
    record { long = h.long c.loop-name.invariant.long; counts = counts }
