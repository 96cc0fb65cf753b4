use Rattle.std.proofs.Common.{◌≡◌, get_or, slice_get, Some, ap, ◌∙◌, arith}
use Rattle.std.proofs.lemmas.Option.{slice_get-get_or}
use Rattle.std.proofs.lemmas.List.{get_or_default}
use Rattle.base.proofs.Sets.{get-has}
use Rattle.base_pool.specs.Pool.{item_at, items_of}
use Rattle.base_pool.proofs.Keys.{number-at, mapped-next}
use Rattle.base_pool.proofs.Listed.{items-length}
use Rattle.base_pool.proofs.pool.Pool.numbers.Goals as goal

pub places-requires-clause-few : goal.places-requires-clause-few
places-requires-clause-few g c =
    let few = rw (← c.self.view_is) at c.requires.few in
    rw c.deref.ensures.value (omega (arith, few, items-length c.self.inside.slab.slots c.self.inside.sorted.items c.self.invariant.live))

pub index-requires : goal.index-requires
index-requires g c =
    let keys = c.args.keys.now in
    let i = c.loop-key.key-index in
    let at : slice_get keys i ≡ Some (get_or keys i 0) = slice_get-get_or keys i 0 c.loop-key-test.true in
    let live = rw (← c.self.view_is) at (c.requires.live (get_or keys i 0) (get-has keys i (get_or keys i 0) at)) in
    let within = (number-at g.T.Cover.covering g.T.Cover.order g.met.T.Cover.laws c.self.inside.slab.slots c.self.inside.sorted.items c.self.invariant c.in_ok-places.places.items
    (rw c.deref.ensures.value at c.in_ok-places.ensures) (get_or keys i 0) live).0 in
    omega (arith, within, c.in_ok-places.places.ok)

pub loop-key-preserved : goal.loop-key-preserved
loop-key-preserved g c =
    let keys = c.args.keys.now in
    let i = c.loop-key.key-index in
    let at : slice_get keys i ≡ Some (get_or keys i 0) = slice_get-get_or keys i 0 c.loop-key-test.true in
    let live = rw (← c.self.view_is) at (c.requires.live (get_or keys i 0) (get-has keys i (get_or keys i 0) at)) in
    let places = c.in_ok-places.places.items in
    let number = number-at g.T.Cover.covering g.T.Cover.order g.met.T.Cover.laws c.self.inside.slab.slots c.self.inside.sorted.items c.self.invariant places
    (rw c.deref.ensures.value at c.in_ok-places.ensures) (get_or keys i 0) live in
    let is : c.index.result.now ≡ get_or places (get_or keys i 0) 0 = c.index.ensures ∙ get_or_default places (get_or keys i 0) c.index.result.now 0 number.0 in
    rw (c.in_ok-push.ensures.items, ← c.self.view_is) (mapped-next (slice_get (items_of c.self.inside.slab.slots c.self.inside.sorted.items)) (item_at c.self.inside.slab.slots) c.loop-key.numbers.items keys i
    c.index.result.now (get_or keys i 0) at (ap (slice_get (items_of c.self.inside.slab.slots c.self.inside.sorted.items)) is ∙ number.1) (rw (← c.self.view_is) at c.loop-key.invariant))
