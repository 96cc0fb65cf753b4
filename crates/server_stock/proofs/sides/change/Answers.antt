use Rattle.std.proofs.Common.{◌≡◌, ◌<◌, length, set, sym, ap, subst, ◌∙◌, arith}
use Rattle.std.proofs.lemmas.List.{length-set}
use Rattle.server_stock.specs.Held.{row_at, with, without}
use Rattle.server_stock.specs.Sides.{IsDue}
use Rattle.server_stock.proofs.Counts.{set-again}
use Rattle.server_stock.proofs.Turns.{due, sides-turned}
use Rattle.server_stock.proofs.sides.change.Goals as goal

pub take_all-requires-clause-out : goal.take_all-requires-clause-out
take_all-requires-clause-out g c i h =
    let r = c.requires in
    let w = r.sides.width in
    omega (arith, r.out i h, w)

pub put_all-requires-clause-add : goal.put_all-requires-clause-add
put_all-requires-clause-add g c i h =
    let r = c.requires in
    let w = r.sides.width in
    let t = c.take_all.ensures.width in
    omega (arith, r.add i h, w, t)

pub turn_all-requires-clause-out : goal.turn_all-requires-clause-out
turn_all-requires-clause-out g c i h =
    let r = c.requires in
    let w = r.sides.width in
    let t = c.take_all.ensures in
    let u = c.put_all.ensures in
    omega (arith, r.out i h, w, t.width, u.width)

pub turn_all-requires-clause-add : goal.turn_all-requires-clause-add
turn_all-requires-clause-add g c i h =
    let r = c.requires in
    let w = r.sides.width in
    let t = c.take_all.ensures in
    let u = c.put_all.ensures in
    omega (arith, r.add i h, w, t.width, u.width)

pub returns-clause-rows : goal.returns-clause-rows
returns-clause-rows g c =
    let rows = c.args.held.now.rows in
    let p = c.args.place in
    c.put_all.ensures.rows
    ∙ set-again rows c.take_all.new.self.rows p (without (row_at rows p) c.args.out.now) (λ z. with z c.args.add.now) c.requires.place c.take_all.ensures.rows

pub turn_all-requires-clause-due : goal.turn_all-requires-clause-due
turn_all-requires-clause-due g c q s e =
    let rows = c.args.held.now.rows in
    let p = c.args.place in
    let out = c.args.out.now in
    let add = c.args.add.now in
    let are : c.put_all.new.self.rows ≡ set rows p (with (without (row_at rows p) out) add) =
    c.put_all.ensures.rows ∙ set-again rows c.take_all.new.self.rows p (without (row_at rows p) out) (λ z. with z add) c.requires.place c.take_all.ensures.rows in
    let w = c.requires.sides.width in
    subst (λ z. IsDue g.T.Cover.covering c.args.order.now z out add q s) (sym are)
    (due g.T.Cover.covering c.args.order.now rows p out add c.requires.place q s (c.requires.sides.each q s e) (λ k h. subst (λ z. k < z) w (c.lemma_bounded.ensures q k h)))

pub returns-clause-sides : goal.returns-clause-sides
returns-clause-sides g c =
    let rows = c.args.held.now.rows in
    let p = c.args.place in
    let t = c.take_all.new.self.rows in
    sides-turned g.T.Cover.covering c.args.order.now c.args.sides.now c.turn_all.new.sides c.args.held.now c.put_all.new.self c.requires.sides
    (c.put_all.ensures.width ∙ c.take_all.ensures.width)
    (ap length c.put_all.ensures.rows ∙ (length-set t p (with (row_at t p) c.args.add.now) ∙ (ap length c.take_all.ensures.rows ∙ length-set rows p (without (row_at rows p) c.args.out.now))))
    c.turn_all.ensures.length c.turn_all.ensures.each
