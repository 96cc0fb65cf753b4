use Rattle.std.proofs.Common.{◌≡◌, ◌<◌, ℕ, length, get_or, IfSome, sym, subst}
use Rattle.std.specs.Option.{IsSome}
use Rattle.std.proofs.lemmas.List.Sorted.{searched}
use Rattle.base_bits.proofs.Rising.{climbs}
use Rattle.match_routes.proofs.Searching.{IsFound, found-some, there-some}
use Rattle.match_routes.proofs.places.place.Goals as goal

found : (c : goal.After-ok) → IsFound c.args.interfaces.now c.args.interface c.binary_search.result
found c = searched c.args.interfaces.now c.args.interface c.binary_search.result c.binary_search.ensures.position (climbs c.args.interfaces.now c.requires.rising)

pub unwrap-requires : goal.unwrap-requires
unwrap-requires c = subst IsSome (sym c.ok.ensures.value) (there-some c.args.interfaces.now c.args.interface c.binary_search.result (found c) c.requires.there)

pub returns : goal.returns
returns c =
    let place = λ (i : ℕ). (i < length c.args.interfaces.now) × (get_or c.args.interfaces.now i 0 ≡ c.args.interface) in
    let a : IfSome c.ok.result place = subst (λ o. IfSome o place) (sym c.ok.ensures.value) (found-some c.args.interfaces.now c.args.interface c.binary_search.result (searched c.args.interfaces.now c.args.interface c.binary_search.result c.binary_search.ensures.position (climbs c.args.interfaces.now c.requires.rising))) in
    let b = subst (λ o. IfSome o place) c.unwrap.ensures a in
    record { within = b.0; here = b.1 }
