use Rattle.std.proofs.Common.{sym, ap, subst, ◌∙◌, ◌≡◌, Some, arith}
use Rattle.std.specs.List.{insert}
use Rattle.std.proofs.lemmas.List.{get_or_default}
use Rattle.base_pool.specs.Pool.{slot, SameElsewhere}
use Rattle.base_pool.specs.Sorted.{place_of}
use Rattle.base_pool.proofs.Order.{index-insert}
use Rattle.base_pool.proofs.Listed.{again-items, kept-items, one-item}
use Rattle.base_pool.proofs.pool.Pool.keep.Goals as goal

pub share-requires : goal.share-requires
share-requires g c = (c.index.result.now, rw (← c.self.view_is) c.index.ensures, omega (arith, c.if-countable.true))

pub returns-else-countable-clause-only_without_spare : goal.returns-else-countable-clause-only_without_spare
returns-else-countable-clause-only_without_spare g c = λ countable.
    let ok = rw c.deref.ensures.value at c.in-Ok.ensures.ok in
    let k : c.index-key.result.now ≡ place_of c.self.inside.sorted.items c.in-Ok.i = c.index-key.ensures ∙ get_or_default c.self.inside.sorted.items c.in-Ok.i c.index-key.result.now 0 ok.0 in
    let is : slot c.self.inside.slab.slots c.index-key.result.now ≡ Some (record { item = c.args.item; count = ok.1.0 }) = ap (slot c.self.inside.slab.slots) k ∙ ok.1.1 in
    let same : c.index.result.now.item ≡ c.args.item = one-item c.index.result.now (record { item = c.args.item; count = ok.1.0 }) (sym c.index.ensures ∙ is) in
    let few = countable c.index-key.result.now c.index.result.now (rw (← c.self.view_is) c.index.ensures) same in
    absurd (omega (arith, few, c.if-countable.false))

pub returns-then-countable-clause-items : goal.returns-then-countable-clause-items
returns-then-countable-clause-items g c =
    let ok = rw c.deref.ensures.value at c.in-Ok.ensures.ok in
    c.share.ensures.items ∙ rw (← c.self.view_is) (sym (again-items g.T.Cover.covering g.T.Cover.order g.met.T.Cover.laws _ _ c.self.invariant c.in-Ok.i c.args.item ok.0 ok.1))

pub invariant_of-self-in-Err : goal.invariant_of-self-in-Err
invariant_of-self-in-Err g c =
    let gap = rw c.deref.ensures.value at c.in-Err.ensures.err in
    let s : c.reserve.new.self.slots ≡ c.self.inside.slab.slots = ap (λ z. z.slots) c.reserve.ensures.rest_kept in
    let o : c.insert.new.self.items ≡ insert c.self.inside.sorted.items c.in-Err.i c.insert_reserved-key.result = grind arith in
    let up = c.insert_reserved-key.ensures.updates in
    rw o (index-insert g.T.Cover.covering g.T.Cover.order g.met.T.Cover.laws c.self.inside.slab.slots c.insert_reserved-key.new.self.slots c.self.inside.sorted.items c.self.invariant c.insert_reserved-key.result c.args.item c.in-Err.i gap.within
    (rw s at c.insert_reserved-key.ensures.was_vacant) up.changed
    (subst (λ z. SameElsewhere z c.insert_reserved-key.new.self.slots c.insert_reserved-key.result) s up.others) gap.below gap.above)

pub returns-else-is_err-3-clause-items : goal.returns-else-is_err-3-clause-items
returns-else-is_err-3-clause-items g c =
    let gap = rw c.deref.ensures.value at c.in-Err.ensures.err in
    let s : c.reserve.new.self.slots ≡ c.self.inside.slab.slots = ap (λ z. z.slots) c.reserve.ensures.rest_kept in
    let o : c.insert.new.self.items ≡ insert c.self.inside.sorted.items c.in-Err.i c.insert_reserved-key.result = grind arith in
    let up = c.insert_reserved-key.ensures.updates in
    rw (o, ← c.self.view_is) (kept-items g.T.Cover.covering g.T.Cover.order g.met.T.Cover.laws c.self.inside.slab.slots c.insert_reserved-key.new.self.slots c.self.inside.sorted.items c.self.invariant c.insert_reserved-key.result
    (subst (λ z. SameElsewhere z c.insert_reserved-key.new.self.slots c.insert_reserved-key.result) s up.others) c.args.item c.in-Err.i gap.within
    (rw s at c.insert_reserved-key.ensures.was_vacant) up.changed gap.below gap.above)
