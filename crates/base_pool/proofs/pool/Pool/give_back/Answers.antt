use Rattle.std.proofs.Common.{refl, ap, ◌≡◌, ◌∙◌, Some, arith}
use Rattle.base_pool.specs.Pool.{slot}
use Rattle.base_pool.proofs.Order.{index-set, index-remove, one-place, count-down}
use Rattle.base_pool.proofs.Listed.{count-items, lost-items}
use Rattle.base_pool.proofs.pool.Pool.give_back.Goals as goal

pub invariant_of-self : goal.invariant_of-self
invariant_of-self g c =
    let q : c.index.result.now ≡ c.index_mut.result.now = cc in
    index-set g.T.Cover.covering g.T.Cover.order g.met.T.Cover.laws _ _ c.self.invariant _ _ c.index_mut.ensures.value _ refl (omega (arith, ap (λ z. z.count) q))

pub returns-then-shared-clause-none : goal.returns-then-shared-clause-none
returns-then-shared-clause-none g c =
    let q : c.index.result.now ≡ c.index_mut.result.now = cc in
    rw (← c.self.view_is) (count-down g.T.Cover.covering g.T.Cover.order g.met.T.Cover.laws _ _ c.self.invariant _ _ c.index_mut.ensures.value (omega (arith, ap (λ z. z.count) q)))

pub returns-then-shared-clause-items : goal.returns-then-shared-clause-items
returns-then-shared-clause-items g c = rw (← c.self.view_is) (count-items g.T.Cover.covering g.T.Cover.order g.met.T.Cover.laws _ _ c.self.invariant c.args.key c.index_mut.result.now _ c.index_mut.ensures.value refl)

pub invariant_of-self-2 : goal.invariant_of-self-2
invariant_of-self-2 g c =
    let ok = rw c.deref.ensures.value at c.in-Ok.ensures.ok in
    rw c.remove.ensures.items (index-remove g.T.Cover.covering g.T.Cover.order g.met.T.Cover.laws c.self.inside.slab.slots c.remove-2.new.self.slots c.self.inside.sorted.items c.self.invariant c.args.key c.in-Ok.i ok.0
    (one-place g.T.Cover.covering g.T.Cover.order g.met.T.Cover.laws _ _ c.self.invariant c.args.key c.in-Ok.i ok.1.0 c.index-2.result.now c.index-2.ensures ok.0 ok.1.1)
    c.remove-2.ensures.updates.changed c.remove-2.ensures.updates.others)

pub returns-clause-some : goal.returns-clause-some
returns-clause-some g c =
    let ok = rw c.deref.ensures.value at c.in-Ok.ensures.ok in
    let was : slot c.self.inside.slab.slots c.args.key ≡ Some c.remove-2.result = c.remove-2.ensures.value in
    let q : c.index.result.now ≡ c.remove-2.result = cc in
    let one : c.remove-2.result.count ≡ 1 = omega (arith, ap (λ z. z.count) q, c.self.invariant.counted c.args.key c.remove-2.result was, c.if-shared.false) in
    let here : slot c.self.inside.slab.slots c.args.key ≡ Some (record { item = c.remove-2.result.item; count = 1 }) = was ∙ ap (λ z. Some (record { item = c.remove-2.result.item; count = z })) one in
    rw (← c.self.view_is) (
      here,
      c.remove-2.ensures.updates.changed,
      rw c.remove.ensures.items (lost-items g.T.Cover.covering g.T.Cover.order g.met.T.Cover.laws c.self.inside.slab.slots c.remove-2.new.self.slots c.self.inside.sorted.items c.self.invariant c.args.key c.remove-2.ensures.updates.others
          c.remove-2.result.item c.in-Ok.i ok.0
          (one-place g.T.Cover.covering g.T.Cover.order g.met.T.Cover.laws _ _ c.self.invariant c.args.key c.in-Ok.i ok.1.0 c.index-2.result.now c.index-2.ensures ok.0 ok.1.1)
          (1, here) c.remove-2.ensures.updates.changed),
    )
