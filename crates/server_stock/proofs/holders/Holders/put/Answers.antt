use Rattle.std.proofs.Common.{◌+◌, length, ap, ◌∙◌, arith}
use Rattle.base_bits.specs.Rows.{is_in}
use Rattle.base.specs.Numbers.{count}
use Rattle.server_stock.specs.Held.{Held}
use Rattle.server_stock.proofs.Counts.{own-wide, room, counted-change, fresh-count}
use Rattle.server_stock.proofs.holders.Holders.put.Goals as goal
use Rattle.base_order.proofs.SettledRoots.{put-own, put-other}

pub insert-fresh-requires : goal.insert-fresh-requires
insert-fresh-requires c =
    let r = c.requires in
    let v = ap (λ (z : Held). length z.rows) c.self.view_is in
    let u = ap (λ (z : Held). z.width) c.self.view_is in
    let w = own-wide c.self.invariant c.args.place c.args.i c.index_mut.result.now (omega (arith, v, r.place)) (omega (arith, u, r.number)) c.index_mut.ensures.value in
    omega (arith, w, u, r.number)

pub overflow_add-index_mut : goal.overflow_add-index_mut
overflow_add-index_mut c =
    let r = c.requires in
    let v = ap (λ (z : Held). length z.rows) c.self.view_is in
    let u = ap (λ (z : Held). z.width) c.self.view_is in
    let h = room c.self.invariant c.args.place c.args.i c.index_mut.result.now (omega (arith, v, r.place)) (omega (arith, u, r.number)) c.index_mut.ensures.value c.index_mut-2.result.now c.index_mut-2.ensures.value in
    let e = c.as_count.ensures ∙ ap count c.insert-fresh.ensures.fresh in
    omega (arith, h, e)

pub invariant_of-self : goal.invariant_of-self
invariant_of-self c =
    let r = c.requires in
    let v = ap (λ (z : Held). length z.rows) c.self.view_is in
    let u = ap (λ (z : Held). z.width) c.self.view_is in
    let e = c.as_count.ensures ∙ ap count c.insert-fresh.ensures.fresh in
    let s = c.insert-fresh.ensures in
    counted-change c.self.invariant c.args.place c.args.i c.index_mut.result.now (omega (arith, v, r.place)) (omega (arith, u, r.number)) c.index_mut.ensures.value c.index_mut-2.result.now c.index_mut-2.ensures.value
    c.insert-fresh.new.self (c.index_mut-2.result.now + c.as_count.result) s.width
    (λ j d. rw s.members (put-other c.args.i j c.index_mut.result.now.members d))
    (rw (s.members, put-own c.args.i c.index_mut.result.now.members) (fresh-count c.index_mut-2.result.now c.as_count.result (is_in c.args.i c.index_mut.result.now.members) e))
