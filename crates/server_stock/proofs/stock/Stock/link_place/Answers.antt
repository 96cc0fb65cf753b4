use Rattle.std.proofs.Common.{◌≡◌, ◌≢◌, ◌<◌, ℕ, List, length, map, take, slice_get, Option, Some, None, IfNone, subst, arith}
use Rattle.std.proofs.lemmas.List.{length-map}
use Rattle.base.specs.Sets.{Has}
use Rattle.server_stock.specs.Sides.{announced_of}
use Rattle.server_stock.specs.Stock.{Stocked}
use Rattle.server_stock.proofs.Turns.{get-take}
use Rattle.server_stock.proofs.stock.Stock.link_place.Goals as goal

none-first : (o : Option ℕ) (is : List ℕ) (n m i : ℕ) → m ≡ n → IfNone o (Has i (take n is) → ⊥) → IfNone o ((p : ℕ) → p < m → slice_get is p ≢ Some i)
none-first None is n m i l f = λ p h e. absurd (f (get-take n is p i (omega (arith, h, l)) e))
none-first (Some q) is n m i l f = tt

pub returns-clause-none : goal.returns-clause-none
returns-clause-none g c =
    let t = c.self.inside in
    let i = c.args.interface in
    subst (λ (z : Stocked g.row.T.Denot). IfNone c.place.result ((p : ℕ) → p < length z.announced → slice_get z.interfaces p ≢ Some i)) c.self.view_is
    (none-first c.place.result t.interfaces.items c.len.result (length (map announced_of t.sides.items)) i (omega (arith, c.len.ensures, length-map t.sides.items announced_of))
    (subst (λ z. IfNone c.place.result (Has i (take c.len.result z) → ⊥)) c.deref.ensures.value c.place.ensures.none))
