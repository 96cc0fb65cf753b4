use Rattle.std.proofs.Common.{◌≡◌, ◌<◌, ℕ, List, length, map, take, drop, ◌++◌, slice_get, Some, refl, ap, sym, subst, ◌∙◌, arith}
use Rattle.std.proofs.lemmas.List.{with_items_is, length-set}
use Rattle.base.specs.Sets.{union, minus}
use Rattle.base_bits.specs.Rows.{Numbers}
use Rattle.base_order.specs.Order.{picked}
use Rattle.server_stock.specs.Held.{row_at, with, without}
use Rattle.server_stock.specs.Sides.{Announced, AreSides, announced_of, offered_at, turned}
use Rattle.server_stock.specs.Stock.{Stocked, held_from, sent, pairs_of, IsAnnounced}
use Rattle.server_stock.proofs.Turns.{get-within, same-offered}
use Rattle.server_stock.proofs.Shown.{held-changed, others-kept, turned-shown}
use Rattle.server_stock.proofs.stock.Stock.change.Goals as goal
use Rattle.base.proofs.Lists.{get-map, map-get-from}

pub change-requires-clause-place : goal.change-requires-clause-place
change-requires-clause-place g c =
    let is = c.self.inside.interfaces.items in
    let p = c.in-Some.p in
    let e : slice_get is p ≡ Some c.args.interface = sym (ap (λ z. slice_get z p) c.deref.ensures.value) ∙ c.in-Some.ensures.some in
    omega (arith, get-within is p c.args.interface e, c.self.invariant.long)

pub change-requires-clause-out : goal.change-requires-clause-out
change-requires-clause-out g c i h = let r = c.requires in omega (arith, r.out i h, ap (λ (z : Stocked g.row.T.Denot). length z.items) c.self.view_is)

pub change-requires-clause-add : goal.change-requires-clause-add
change-requires-clause-add g c i h = let r = c.requires in omega (arith, r.add i h, ap (λ (z : Stocked g.row.T.Denot). length z.items) c.self.view_is)

pub change-requires-clause-sides : goal.change-requires-clause-sides
change-requires-clause-sides g c = subst (AreSides g.T.Cover.covering c.self.inside.order.now c.self.inside.held) (sym c.deref_mut.ensures.value) c.self.invariant.links

pub returns-in-Some-clause-held : goal.returns-in-Some-clause-held
returns-in-Some-clause-held g c =
    let t = c.self.inside in
    let items = t.order.now in
    let is = t.interfaces.items in
    let rows = t.held.rows in
    let i = c.args.interface in
    let p = c.in-Some.p in
    let out = c.args.out.now in
    let add = c.args.add.now in
    let ord = g.T.Cover.order in
    let e : slice_get is p ≡ Some i = sym (ap (λ z. slice_get z p) c.deref.ensures.value) ∙ c.in-Some.ensures.some in
    let there : p < length rows = omega (arith, get-within is p i e, c.self.invariant.long) in
    subst (λ (z : Stocked g.row.T.Denot). held_from ord i (pairs_of items is c.change.new.held.rows) ≡ union ord (picked z.items add) (minus ord (held_from ord i z.holdings) (picked z.items out))) c.self.view_is
    (ap (λ (b : List Numbers). held_from ord i (pairs_of items is b)) c.change.ensures.rows
    ∙ held-changed g.met.T.Cover.laws items c.lemma_sorted.ensures.rising is c.self.invariant.rising rows p i e there out add)

pub returns-in-Some-clause-others : goal.returns-in-Some-clause-others
returns-in-Some-clause-others g c j n =
    let t = c.self.inside in
    let items = t.order.now in
    let is = t.interfaces.items in
    let rows = t.held.rows in
    let i = c.args.interface in
    let p = c.in-Some.p in
    let ord = g.T.Cover.order in
    let e : slice_get is p ≡ Some i = sym (ap (λ z. slice_get z p) c.deref.ensures.value) ∙ c.in-Some.ensures.some in
    let there : p < length rows = omega (arith, get-within is p i e, c.self.invariant.long) in
    subst (λ (z : Stocked g.row.T.Denot). held_from ord j (pairs_of items is c.change.new.held.rows) ≡ held_from ord j z.holdings) c.self.view_is
    (ap (λ (b : List Numbers). held_from ord j (pairs_of items is b)) c.change.ensures.rows
    ∙ others-kept g.met.T.Cover.laws items c.lemma_sorted.ensures.rising is c.self.invariant.rising rows p i e there c.args.out.now c.args.add.now j n)

pub returns-in-Some-clause-offered : goal.returns-in-Some-clause-offered
returns-in-Some-clause-offered g c =
    let t = c.self.inside in
    let items = t.order.now in
    let m = c.deref_mut.ensures in
    let new = c.change.new.sides in
    let long : length new ≡ length t.sides.items = c.change.ensures.links ∙ ap length m.value in
    ap (map (offered_at items)) (with_items_is t.sides new (omega (arith, long)))
    ∙ (same-offered items new t.sides.items long
    (λ q s e. (turned g.T.Cover.covering items s.offered c.change.new.held.rows q s, c.change.ensures.each q s (ap (λ z. slice_get z q) m.value ∙ e), refl))
    ∙ ap (λ (z : Stocked g.row.T.Denot). z.offered) c.self.view_is)

pub returns-in-Some-clause-announced : goal.returns-in-Some-clause-announced
returns-in-Some-clause-announced g c =
    let t = c.self.inside in
    let v = c.self.invariant in
    let items = t.order.now in
    let is = t.interfaces.items in
    let old = t.held.rows in
    let rows = c.change.new.held.rows in
    let p = c.in-Some.p in
    let cov = g.T.Cover.covering in
    let ord = g.T.Cover.order in
    let m = c.deref_mut.ensures in
    let new = c.change.new.sides in
    let long : length new ≡ length t.sides.items = c.change.ensures.links ∙ ap length m.value in
    let now = with_items_is t.sides new (omega (arith, long)) in
    let places : length is ≡ length rows =
    v.long ∙ sym (ap length c.change.ensures.rows ∙ length-set old p (with (without (row_at old p) c.args.out.now) c.args.add.now)) in
    subst (λ (z : Stocked g.row.T.Denot). (q link : ℕ) (offered : List g.row.T.Denot) → slice_get z.interfaces q ≡ Some link → slice_get z.offered q ≡ Some offered
    → (x : Announced) × (slice_get (map announced_of (take t.sides.len (new ++ drop (length new) t.sides.items))) q ≡ Some x) × IsAnnounced ord z.items (sent cov ord offered link z.holdings) (sent cov ord offered link (pairs_of items is rows)) x) c.self.view_is
    (λ q link offered e f.
    let there = map-get-from (offered_at items) t.sides.items q offered f in
    let s = there.0 in
    let turns = turned cov items s.offered rows q s in (
      announced_of turns,
      ap (λ z. slice_get (map announced_of z) q) now ∙ get-map announced_of new q turns (c.change.ensures.each q s (ap (λ z. slice_get z q) m.value ∙ there.1)),
      subst (λ o. IsAnnounced ord items (sent cov ord o link (pairs_of items is old)) (sent cov ord o link (pairs_of items is rows)) (announced_of turns)) (sym there.2)
          (turned-shown g.met.T.Cover.laws items c.lemma_sorted.ensures.rising is v.rising old rows s.offered q link s e v.long places (v.links.each q s there.1)),
    ))
