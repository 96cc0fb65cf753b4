use Rattle.std.proofs.Common.{◌≡◌, ℕ, length, slice_get, Some, refl, subst}
use Rattle.std.proofs.lemmas.Option.{slice_get_read}
use Rattle.server_flow.specs.Homes.{NetHome}
use Rattle.server_core.specs.Core.{CoreParts}
use Rattle.sequential_network.specs.Begin.{RepresentsHome}
use Rattle.sequential_network.proofs.begin.homes.Goals as goal
use Rattle.base.proofs.Lists.{get-one, each-get-push-is, length-push-is}

pub loop-place-preserved : goal.loop-place-preserved
loop-place-preserved c =
    let at = slice_get_read c.args.places.now (length c.args.places.now) c.loop-place.place-index c.place-item.result refl c.loop-place-test.true c.place-item.is in
    let P : ℕ → NetHome → Type 0 = λ place home. (core : CoreParts) → slice_get c.args.places.now place ≡ Some core → RepresentsHome core home in
    let here : P (length c.loop-place.homes.items) c.in_ok-home.field-0 = λ core e.
    subst (λ (z : CoreParts). RepresentsHome z c.in_ok-home.field-0) (get-one c.args.places.now c.loop-place.place-index c.place-item.result core at (subst (λ z. slice_get c.args.places.now z ≡ Some core) c.loop-place.invariant.long e)) c.in_ok-home.ensures in
    record {
      long = length-push-is c.loop-place.homes.items c.push.new.self.items c.in_ok-home.field-0 c.loop-place.place-index c.in_ok-push.ensures.items c.loop-place.invariant.long;
      homes = λ place core home a b. each-get-push-is P c.loop-place.homes.items c.push.new.self.items c.in_ok-home.field-0 c.in_ok-push.ensures.items here (λ place home b core a. c.loop-place.invariant.homes place core home a b) place home b core a;
    }
