use Rattle.std.proofs.Common.{rules, ◌≡◌, ◌<◌, true, false, [], ◌∷◌, Some, sym, ap, subst, ◌∙◌, arith}
use Rattle.atomic_table.specs.Table.{rest}
use mathlib.Core.List.{IsPrefix}
use Rattle.thread_lock.specs.Rule.{view_in, lifted}
use Rattle.thread_lock.proofs.Keeps.{lift_keeps, put_keeps}
use Rattle.thread_lock.proofs.lock.TurnLock.put.Goals as goal

pub store-requires : goal.store-requires
store-requires g c = let lock = c.args.self.now in let key = lock.table.shared.key in let root = g.T.Standing.root in let list = g.T.Standing.list in let r = root key.value.value in
    let pass = c.args.pass.now in let seat = c.into_seat-seat.result in let e = c.into_seat-seat.ensures in let v = seat.me.0 in
    let vw : view_in pass.badge.views ≡ v = ap view_in (sym (ap (λ b. b.views) c.replace.ensures.value) ∙ e.2) in
    let table : seat.table_id ≡ lock.table.shared.table_id = e.0 ∙ ap (λ b. b.table_id) c.replace.ensures.value ∙ c.requires.own.0 in
    let bare : seat.me ≡ (v, []) = ap (λ l. (v, l)) e.3 in
    let known : v.root ≡ Some r = ap (λ w. w.root) (sym vw) ∙ c.requires.own.1 in
    let one : v.parts ≡ 1 = ap (λ w. w.parts) (sym vw) ∙ pass.whole in
    let live : 0 < v.parts = omega (arith, one) in
    let held : v.hand ≡ true = ap (λ w. w.hand) (sym vw) ∙ c.requires.held in let empty : v.out ≡ false = ap (λ w. w.out) (sym vw) ∙ pass.inside in
    (table, search rules, rw lock.sized.1 (lift_keeps root list r key.passes seat.id v seat.me bare held empty known live))

pub store-requires-2 : goal.store-requires-2
store-requires-2 g c = let lock = c.args.self.now in let key = lock.table.shared.key in let root = g.T.Standing.root in let list = g.T.Standing.list in let r = root key.value.value in
    let pass = c.args.pass.now in let seat = c.into_seat-seat.result in let e = c.into_seat-seat.ensures in let v = seat.me.0 in
    let vw : view_in pass.badge.views ≡ v = ap view_in (sym (ap (λ b. b.views) c.replace.ensures.value) ∙ e.2) in
    let table : seat.table_id ≡ lock.table.shared.table_id = e.0 ∙ ap (λ b. b.table_id) c.replace.ensures.value ∙ c.requires.own.0 in
    let bare : seat.me ≡ (v, []) = ap (λ l. (v, l)) e.3 in
    let known : v.root ≡ Some r = ap (λ w. w.root) (sym vw) ∙ c.requires.own.1 in
    let one : v.parts ≡ 1 = ap (λ w. w.parts) (sym vw) ∙ pass.whole in
    let live : 0 < v.parts = omega (arith, one) in
    let held : v.hand ≡ true = ap (λ w. w.hand) (sym vw) ∙ c.requires.held in
    let now = c.exchange-hole.new.seat in let x = c.args.value in
    let is : now.me ≡ (lifted v, (0, Some x) ∷ []) = c.exchange-hole.ensures.3 ∙ ap (λ w. (w, (0, Some x) ∷ rest c.store.new.seat.me.1)) c.store.ensures.2.view
    ∙ ap (λ l. (lifted v, (0, Some x) ∷ rest l)) c.store.ensures.2.slots ∙ ap (λ l. (lifted v, (0, Some x) ∷ l)) e.3 in (
      c.exchange-hole.ensures.0 ∙ c.store.ensures.0 ∙ table,
      search rules,
      rw lock.sized.1 (put_keeps root list r key.passes now.id (lifted v) now.me x is held known c.requires.root (subst (λ w. IsPrefix w.seen (list x)) vw c.requires.list)),
    )
