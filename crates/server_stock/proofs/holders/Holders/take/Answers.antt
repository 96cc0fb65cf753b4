use Rattle.std.proofs.Common.{◌-◌, length, ap, ◌∙◌, arith}
use Rattle.base.specs.Numbers.{count}
use Rattle.server_stock.specs.Held.{Held}
use Rattle.server_stock.proofs.Counts.{own-wide, has-count, counted-change}
use Rattle.server_stock.proofs.holders.Holders.take.Goals as goal
use Rattle.base_order.proofs.SettledRoots.{take-own, take-other}

pub remove-had-requires : goal.remove-had-requires
remove-had-requires c =
    let r = c.requires in
    let v = ap (λ (z : Held). length z.rows) c.self.view_is in
    let u = ap (λ (z : Held). z.width) c.self.view_is in
    let w = own-wide c.self.invariant c.args.place c.args.i c.index_mut.result.now (omega (arith, v, r.place)) (omega (arith, u, r.number)) c.index_mut.ensures.value in
    omega (arith, w, u, r.number)

pub overflow_sub-index_mut : goal.overflow_sub-index_mut
overflow_sub-index_mut c =
    let r = c.requires in
    let v = ap (λ (z : Held). length z.rows) c.self.view_is in
    let u = ap (λ (z : Held). z.width) c.self.view_is in
    let h = has-count c.self.invariant c.args.place c.args.i c.index_mut.result.now (omega (arith, v, r.place)) (omega (arith, u, r.number)) c.index_mut.ensures.value c.index_mut-2.result.now c.index_mut-2.ensures.value in
    let e = c.as_count.ensures ∙ ap count c.remove-had.ensures.had in
    omega (arith, h, e)

pub invariant_of-self : goal.invariant_of-self
invariant_of-self c =
    let r = c.requires in
    let v = ap (λ (z : Held). length z.rows) c.self.view_is in
    let u = ap (λ (z : Held). z.width) c.self.view_is in
    let h = has-count c.self.invariant c.args.place c.args.i c.index_mut.result.now (omega (arith, v, r.place)) (omega (arith, u, r.number)) c.index_mut.ensures.value c.index_mut-2.result.now c.index_mut-2.ensures.value in
    let e = c.as_count.ensures ∙ ap count c.remove-had.ensures.had in
    let s = c.remove-had.ensures in
    counted-change c.self.invariant c.args.place c.args.i c.index_mut.result.now (omega (arith, v, r.place)) (omega (arith, u, r.number)) c.index_mut.ensures.value c.index_mut-2.result.now c.index_mut-2.ensures.value
    c.remove-had.new.self (c.index_mut-2.result.now - c.as_count.result) s.width
    (λ j d. rw s.members (take-other c.args.i j c.index_mut.result.now.members d))
    (rw (s.members, take-own c.args.i c.index_mut.result.now.members) (omega (arith, h, e)))
