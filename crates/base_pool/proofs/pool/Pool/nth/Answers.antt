use Rattle.std.proofs.Common.{◌≡◌, ◌<◌, length, IsSome, sym, subst, ◌∙◌, arith}
use Rattle.std.proofs.lemmas.List.{get_or_default}
use Rattle.base_pool.specs.Pool.{slot}
use Rattle.base_pool.specs.Sorted.{place_of}
use Rattle.base_pool.proofs.Listed.{items-length, nth-item}
use Rattle.base_pool.proofs.pool.Pool.nth.Goals as goal

pub index-requires : goal.index-requires
index-requires g c =
    let within = rw (← c.self.view_is) at c.requires in
    omega (arith, within, items-length c.self.inside.slab.slots c.self.inside.sorted.items c.self.invariant.live)

pub index-requires-2 : goal.index-requires-2
index-requires-2 g c =
    let within = rw (← c.self.view_is) at c.requires in
    let there : c.args.number < length c.self.inside.sorted.items = omega (arith, within, items-length c.self.inside.slab.slots c.self.inside.sorted.items c.self.invariant.live) in
    let key : c.index.result.now ≡ place_of c.self.inside.sorted.items c.args.number = c.index.ensures ∙ get_or_default c.self.inside.sorted.items c.args.number c.index.result.now 0 there in
    subst (λ z. IsSome (slot c.self.inside.slab.slots z)) (sym key) (c.self.invariant.live c.args.number there)

pub returns : goal.returns
returns g c =
    let within = rw (← c.self.view_is) at c.requires in
    let there : c.args.number < length c.self.inside.sorted.items = omega (arith, within, items-length c.self.inside.slab.slots c.self.inside.sorted.items c.self.invariant.live) in
    let key : c.index.result.now ≡ place_of c.self.inside.sorted.items c.args.number = c.index.ensures ∙ get_or_default c.self.inside.sorted.items c.args.number c.index.result.now 0 there in
    rw (← c.self.view_is) (nth-item g.T.Cover.covering g.T.Cover.order g.met.T.Cover.laws _ _ c.self.invariant c.args.number c.index.result.now c.index-2.result.now there key c.index-2.ensures)
