use Rattle.std.proofs.Common.{◌≡◌, ◌<◌, ◌≤◌, ◌-◌, length, Some, slice_get, refl, sym, subst, rules, arith}
use Rattle.net_model.specs.Nets.{first_tree}
use Rattle.sequential_network.specs.Seen.{seen}
use Rattle.sequential_network.proofs.Commanding.{home_low}
use Rattle.sequential_network.proofs.ByLaws.{lives_home}
use Rattle.sequential_network.proofs.making.session.Goals as goal
use Rattle.base.proofs.Lists.{get-index}

pub overflow_sub-home : goal.overflow_sub-home
overflow_sub-home g c =
    let stands = c.requires.laws.stands c.args.net.now c.requires.kept.0 (seen c.args.servers.now) c.requires.kept.1 in
    (subst (λ z. (1 ≤ z) × (z ≤ (first_tree c.args.net.now.trees).count)) (sym c.home-home.ensures) (home_low c.args.net.now stands.sound c.args.client)).0

pub index-requires : goal.index-requires
index-requires g c =
    let stands = c.requires.laws.stands c.args.net.now c.requires.kept.0 (seen c.args.servers.now) c.requires.kept.1 in
    let low = subst (λ z. (1 ≤ z) × (z ≤ (first_tree c.args.net.now.trees).count)) (sym c.home-home.ensures) (home_low c.args.net.now stands.sound c.args.client) in
    let all = stands.all in search (rules, low, all)

pub session-requires : goal.session-requires
session-requires g c =
    let stands = c.requires.laws.stands c.args.net.now c.requires.kept.0 (seen c.args.servers.now) c.requires.kept.1 in
    let low = subst (λ z. (1 ≤ z) × (z ≤ (first_tree c.args.net.now.trees).count)) (sym c.home-home.ensures) (home_low c.args.net.now stands.sound c.args.client) in
    let all = stands.all in
    let within : c.home-home.result - 1 < length c.args.servers.now.places.items = omega (arith, low.0, low.1, all) in
    let at = get-index c.args.servers.now.places.items (c.home-home.result - 1) c.index.result.now within c.index.ensures in
    λ k. (
      (refl, tt),
      lives_home g.P.Server.stepping g.P.Ruled.trying g.P.Ruled.telling g.P.Ruled.ruling c.requires.laws c.args.net.now c.requires.kept.0 (seen c.args.servers.now) c.requires.kept.1
          c.args.client c.requires.client c.index.result.now
          (subst (λ z. slice_get c.args.servers.now.places.items (z - 1) ≡ Some c.index.result.now) c.home-home.ensures at),
    )

pub returns : goal.returns
returns g c =
    let stands = c.requires.laws.stands c.args.net.now c.requires.kept.0 (seen c.args.servers.now) c.requires.kept.1 in
    let low = subst (λ z. (1 ≤ z) × (z ≤ (first_tree c.args.net.now.trees).count)) (sym c.home-home.ensures) (home_low c.args.net.now stands.sound c.args.client) in
    let all = stands.all in
    let within : c.home-home.result - 1 < length c.args.servers.now.places.items = omega (arith, low.0, low.1, all) in
    let at = get-index c.args.servers.now.places.items (c.home-home.result - 1) c.index.result.now within c.index.ensures in
    c.requires.laws.session c.args.net.now c.requires.kept.0 (seen c.args.servers.now) c.requires.kept.1 c.args.client c.index.result.now
    (subst (λ z. slice_get c.args.servers.now.places.items (z - 1) ≡ Some c.index.result.now) c.home-home.ensures at) c.session.result.now.session
    c.session.ensures.session c.session.ensures.client c.session.ensures.semantics
