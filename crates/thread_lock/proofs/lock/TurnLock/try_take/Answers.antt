use Rattle.std.proofs.Common.{rules, ◌≡◌, ◌<◌, false, [], ◌∷◌, None, Some, sym, ap, ◌∙◌, refl, arith}
use Rattle.atomic_table.specs.Table.{rest}
use Rattle.thread_lock.specs.Rule.{view_in, took}
use Rattle.thread_lock.proofs.Keeps.{take_keeps, lay_keeps}
use Rattle.thread_lock.proofs.lock.TurnLock.try_take.Goals as goal

pub swap-requires : goal.swap-requires
swap-requires g c = let lock = c.args.self.now in let key = lock.table.shared.key in let root = g.T.Standing.root in let list = g.T.Standing.list in let r = root key.value.value in
    let pass = c.args.pass.now in let seat = c.into_seat-seat.result in let e = c.into_seat-seat.ensures in let v = seat.me.0 in
    let vw : view_in pass.badge.views ≡ v = ap view_in (sym (ap (λ b. b.views) c.replace.ensures.value) ∙ e.2) in
    let table : seat.table_id ≡ lock.table.shared.table_id = e.0 ∙ ap (λ b. b.table_id) c.replace.ensures.value ∙ c.requires.own.0 in
    let bare : seat.me ≡ (v, []) = ap (λ l. (v, l)) e.3 in
    let known : v.root ≡ Some r = ap (λ w. w.root) (sym vw) ∙ c.requires.own.1 in
    let one : v.parts ≡ 1 = ap (λ w. w.parts) (sym vw) ∙ pass.whole in
    let live : 0 < v.parts = omega (arith, one) in
    let free : v.hand ≡ false = ap (λ w. w.hand) (sym vw) ∙ c.requires.free in
    (table, search rules, rw lock.sized.1 (take_keeps root list r key.passes seat.id v seat.me bare free live known))

pub exchange-value-requires : goal.exchange-value-requires
exchange-value-requires g c = let lock = c.args.self.now in let key = lock.table.shared.key in let root = g.T.Standing.root in let list = g.T.Standing.list in let r = root key.value.value in
    let pass = c.args.pass.now in let seat = c.into_seat-seat.result in let e = c.into_seat-seat.ensures in let v = seat.me.0 in
    let vw : view_in pass.badge.views ≡ v = ap view_in (sym (ap (λ b. b.views) c.replace.ensures.value) ∙ e.2) in
    let table : seat.table_id ≡ lock.table.shared.table_id = e.0 ∙ ap (λ b. b.table_id) c.replace.ensures.value ∙ c.requires.own.0 in
    let bare : seat.me ≡ (v, []) = ap (λ l. (v, l)) e.3 in
    let known : v.root ≡ Some r = ap (λ w. w.root) (sym vw) ∙ c.requires.own.1 in
    let one : v.parts ≡ 1 = ap (λ w. w.parts) (sym vw) ∙ pass.whole in
    let live : 0 < v.parts = omega (arith, one) in
    let t = c.swap.ensures.2.at_home c.if-swap-ne0.false in
    (c.swap.ensures.0 ∙ table, (Some t.value, t.slots ∙ ap (λ l. (0, Some t.value) ∷ rest l) (sym t.slots)))

pub store-requires : goal.store-requires
store-requires g c = let lock = c.args.self.now in let key = lock.table.shared.key in let root = g.T.Standing.root in let list = g.T.Standing.list in let r = root key.value.value in
    let pass = c.args.pass.now in let seat = c.into_seat-seat.result in let e = c.into_seat-seat.ensures in let v = seat.me.0 in
    let vw : view_in pass.badge.views ≡ v = ap view_in (sym (ap (λ b. b.views) c.replace.ensures.value) ∙ e.2) in
    let table : seat.table_id ≡ lock.table.shared.table_id = e.0 ∙ ap (λ b. b.table_id) c.replace.ensures.value ∙ c.requires.own.0 in
    let bare : seat.me ≡ (v, []) = ap (λ l. (v, l)) e.3 in
    let known : v.root ≡ Some r = ap (λ w. w.root) (sym vw) ∙ c.requires.own.1 in
    let one : v.parts ≡ 1 = ap (λ w. w.parts) (sym vw) ∙ pass.whole in
    let live : 0 < v.parts = omega (arith, one) in
    let t = c.swap.ensures.2.at_home c.if-swap-ne0.false in let now = c.exchange-value.new.seat in
    let is : now.me ≡ (took v (list t.value), (0, None) ∷ []) = c.exchange-value.ensures.3 ∙ ap (λ w. (w, (0, None) ∷ rest c.swap.new.seat.me.1)) t.view ∙ ap (λ l. (took v (list t.value), (0, None) ∷ rest l)) t.slots ∙ ap (λ l. (took v (list t.value), (0, None) ∷ l)) e.3 in
    (c.exchange-value.ensures.0 ∙ c.swap.ensures.0 ∙ table, search rules, rw lock.sized.1 (lay_keeps root list r key.passes now.id (took v (list t.value)) now.me is refl known live))
