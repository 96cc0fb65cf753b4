use Rattle.std.proofs.Common.{◌≡◌, ◌↔◌, true, false, slice_get, Some, ap, sym, subst, ◌∙◌, arith}
use Rattle.base.specs.Sets.{Has}
use Rattle.base_bits.specs.Rows.{Numbers, is_in}
use Rattle.server_stock.specs.Stock.{Stocked, held_from, pairs_of}
use Rattle.server_stock.proofs.Shown.{holds-shown, holds-none}
use Rattle.server_stock.proofs.stock.Stock.holds.Goals as goal

pub returns-in-Some : goal.returns-in-Some
returns-in-Some g c =
    let t = c.self.inside in
    let i = c.args.interface in
    let k = c.args.i in
    let p = c.in-Some.p in
    let is = t.interfaces.items in
    subst (λ (z : Stocked g.row.T.Denot). (x : _) → slice_get z.items k ≡ Some x → (c.has.result ≡ true) ↔ Has x (held_from g.T.Cover.order i z.holdings)) c.self.view_is
    (λ x f. subst (λ b. (b ≡ true) ↔ Has x (held_from g.T.Cover.order i (pairs_of t.order.now is t.held.rows)))
    (sym (c.has.ensures ∙ ap (λ (r : Numbers). is_in k r.members) c.row.ensures.value))
    (holds-shown g.met.T.Cover.laws t.order.now c.lemma_sorted.ensures.rising is c.self.invariant.rising t.held.rows p i k x
    (sym (ap (λ z. slice_get z p) c.deref.ensures.value) ∙ c.in-Some.ensures.some) f))

pub returns-in-None : goal.returns-in-None
returns-in-None g c =
    let t = c.self.inside in
    let i = c.args.interface in
    let is = t.interfaces.items in
    let none : Has i is → ⊥ = subst (λ z. Has i z → ⊥) c.deref.ensures.value c.in-None.ensures.none in
    subst (λ (z : Stocked g.row.T.Denot). (x : _) → slice_get z.items c.args.i ≡ Some x → (false ≡ true) ↔ Has x (held_from g.T.Cover.order i z.holdings)) c.self.view_is
    (λ x f. (λ e. absurd (grind (arith, e)), λ h. absurd (holds-none g.met.T.Cover.laws t.order.now c.lemma_sorted.ensures.rising is c.self.invariant.rising t.held.rows i x none h)))
