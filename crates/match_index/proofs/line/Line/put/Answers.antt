use Rattle.std.proofs.Common.{◌≡◌, ◌∙◌, ap, sym, subst, cond, arith, ◌+◌, ℕ, List}
use Rattle.std.specs.List.{insert, zip}
use Rattle.match_index.specs.Pairs.{tally}
use Rattle.match_index.specs.Lines.{AreSorted}
use Rattle.match_index.proofs.Lines.{put-in, put-sorted, sorted-keys, insert-even}
use Rattle.match_index.proofs.line.Line.put.Goals as goal

pub rank-i-requires-clause-sorted : goal.rank-i-requires-clause-sorted
rank-i-requires-clause-sorted g c = subst (AreSorted g.K.LineKey.order) (sym c.deref.ensures.value) (sorted-keys g.met.K.LineKey.total c.self.inside.keys.items c.self.inside.ids.items c.self.invariant.0 c.self.invariant.1)

pub invariant_of-self-else-is_err-2 : goal.invariant_of-self-else-is_err-2
invariant_of-self-else-is_err-2 g c =
    let keys = c.self.inside.keys.items in
    let ids = c.self.inside.ids.items in
    let i = c.rank-i.result in
    let e = c.self.invariant.0 in
    let rank = rw c.deref.ensures.value at c.rank-i.ensures in
    let k : c.insert.new.self.items ≡ insert keys i c.args.key = grind arith in
    let n : c.insert-else-is_err.new.self.items ≡ insert ids i c.args.id = grind arith in
    rw (k, n) (insert-even keys ids i c.args.key c.args.id e rank.within, put-sorted g.met.K.LineKey.total keys ids e c.self.invariant.1 i c.args.key c.args.id rank.within rank.before rank.behind)

pub returns-clause-added : goal.returns-clause-added
returns-clause-added g c = λ p.
    let keys = c.self.inside.keys.items in
    let ids = c.self.inside.ids.items in
    let i = c.rank-i.result in
    let l = rw c.deref.ensures.value at c.rank-i.ensures.within in
    let k : c.insert.new.self.items ≡ insert keys i c.args.key = grind arith in
    let n : c.insert-else-is_err.new.self.items ≡ insert ids i c.args.id = grind arith in
    ap {B = ℕ} (λ (xs : List g.row.K.Denot). tally p (zip xs c.insert-else-is_err.new.self.items)) k ∙ ap {B = ℕ} (λ (xs : List ℕ). tally p (zip (insert keys i c.args.key) xs)) n ∙ put-in p keys ids i c.args.key c.args.id c.self.invariant.0 l ∙ ap {B = ℕ} (λ (xs : List (g.row.K.Denot × ℕ)). cond (p (c.args.key, c.args.id)) 1 0 + tally p xs) c.self.view_is
