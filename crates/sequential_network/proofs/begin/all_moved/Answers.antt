use Rattle.std.proofs.Common.{◌≡◌, ℕ, ◌<◌, length, slice_get, Some, Vec, Global, refl, sym, subst, arith}
use Rattle.std.proofs.lemmas.Option.{slice_get_read}
use Rattle.server_control.specs.Held.{NetHeld, held_in, AreHeldIn}
use Rattle.server_core.specs.Core.{CoreParts}
use Rattle.server_core.specs.Linked.{AreHeldLinks}
use Rattle.sequential_network.specs.declared.relinking.Standing.{Standing}
use Rattle.sequential_network.specs.Begin.{IsOnOtherLinks}
use Rattle.sequential_network.proofs.begin.all_moved.Goals as goal
use Rattle.base.proofs.Lists.{get-one, each-get-push-is, length-push-is}

pub moved-requires-clause-held : goal.moved-requires-clause-held
moved-requires-clause-held c =
    let within : c.loop-i.i < length c.args.held.now = omega (arith, c.loop-i-test.true, c.requires.long) in
    let at = slice_get_read c.args.held.now (length c.args.held.now) c.loop-i.i c.index-held-i.result refl within c.index-held-i.is in
    subst (λ z. AreHeldLinks (held_in z)) (sym c.deref.ensures.value) (c.requires.held c.loop-i.i c.index-held-i.result at)

pub moved-requires-clause-net : goal.moved-requires-clause-net
moved-requires-clause-net c =
    let within : c.loop-i.i < length c.args.held.now = omega (arith, c.loop-i-test.true, c.requires.long) in
    let held = slice_get_read c.args.held.now (length c.args.held.now) c.loop-i.i c.index-held-i.result refl within c.index-held-i.is in
    let at = slice_get_read c.args.places.now (length c.args.places.now) c.loop-i.i c.index-places-i.result refl c.loop-i-test.true c.index-places-i.is in
    subst (AreHeldIn c.index-places-i.result.net) (sym c.deref.ensures.value) (c.requires.net c.loop-i.i c.index-held-i.result c.index-places-i.result held at)

pub loop-i-preserved : goal.loop-i-preserved
loop-i-preserved c =
    let within : c.loop-i.i < length c.args.held.now = omega (arith, c.loop-i-test.true, c.requires.long) in
    let held = slice_get_read c.args.held.now (length c.args.held.now) c.loop-i.i c.index-held-i.result refl within c.index-held-i.is in
    let at = slice_get_read c.args.places.now (length c.args.places.now) c.loop-i.i c.index-places-i.result refl c.loop-i-test.true c.index-places-i.is in
    let moved = subst (λ z. IsOnOtherLinks (held_in z) c.index-places-i.result c.in_ok-moved.field-0) c.deref.ensures.value c.in_ok-moved.ensures.links in
    let P : ℕ → Standing → Type 0 = λ place standing. (links : Vec NetHeld Global) (core : CoreParts) → slice_get c.args.held.now place ≡ Some links → slice_get c.args.places.now place ≡ Some core → IsOnOtherLinks (held_in links.items) core standing in
    let here : P (length c.loop-i.standings.items) c.in_ok-moved.field-0 = λ links core a b.
    subst (λ (z : Vec NetHeld Global). IsOnOtherLinks (held_in z.items) core c.in_ok-moved.field-0) (get-one c.args.held.now c.loop-i.i c.index-held-i.result links held (subst (λ z. slice_get c.args.held.now z ≡ Some links) c.loop-i.invariant.long a))
    (subst (λ z. IsOnOtherLinks (held_in c.index-held-i.result.items) z c.in_ok-moved.field-0) (get-one c.args.places.now c.loop-i.i c.index-places-i.result core at (subst (λ z. slice_get c.args.places.now z ≡ Some core) c.loop-i.invariant.long b)) moved) in
    record {
      long = length-push-is c.loop-i.standings.items c.push.new.self.items c.in_ok-moved.field-0 c.loop-i.i c.in_ok-push.ensures.items c.loop-i.invariant.long;
      clock = each-get-push-is (λ place (standing : Standing). standing.clock ≡ c.args.clock) c.loop-i.standings.items c.push.new.self.items c.in_ok-moved.field-0 c.in_ok-push.ensures.items c.in_ok-moved.ensures.clock c.loop-i.invariant.clock;
      links = λ place links core standing a b d. each-get-push-is P c.loop-i.standings.items c.push.new.self.items c.in_ok-moved.field-0 c.in_ok-push.ensures.items here (λ place standing d links core a b. c.loop-i.invariant.links place links core standing a b d) place standing d links core a b;
    }
