-- What the rows are of, as what servers hold of their neighbours.
use Rattle.std.proofs.Common.{◌≡◌, inl, inr, ℕ, zero, suc, ◌+◌, ◌-◌, ◌≤◌, List, [], ◌∷◌, ◌++◌, Some, map, take, slice_get, refl, sym, ap, subst, ◌∙◌, arith, add-one}
use Rattle.std.proofs.lemmas.Option.{same_Some}
use Rattle.base.specs.Sets.{Has}
use Rattle.base_bits.specs.Rows.{Numbers}
use Rattle.server_spec.proofs.Places.{has-push}
use Rattle.base_tree.specs.Tree.{Topology, links_of}
use Rattle.net_model.specs.Parts.{NetParts}
use Rattle.server_spec.specs.declared.control.HeldLink.{HeldLink}
use Rattle.server_spec.specs.declared.home.Home.{Home}
use Rattle.server_spec.specs.Flow.{home_at, home_filters, home_adverts, filters_of, adverts_of, IsFlow}
use Rattle.server_control.specs.Held.{NetHeld, net_held, held_in, AreHeldIn}
use Rattle.server_flow.specs.Homes.{NetHome, homes_in}
use Rattle.server_flow.specs.Rows.{row_at, AreAdverts, AreFilters, RepresentsHeld}
use Rattle.base.proofs.Sets.{map-has, has-map}
use Rattle.base.proofs.Lists.{take-suc-some, map-push}

-- one more link
pub links-step : (xs new : List NetHeld) (h : NetHeld) (links : List ℕ) (n : ℕ) → new ≡ xs ++ h ∷ [] → slice_get links n ≡ Some h.held.link
    → map (λ (l : HeldLink). l.link) (held_in xs) ≡ take n links → map (λ (l : HeldLink). l.link) (held_in new) ≡ take (n + 1) links
links-step xs new h links n is at before =
    ap (λ z. map (λ (l : HeldLink). l.link) (held_in z)) is ∙ (ap (map (λ (l : HeldLink). l.link)) (map-push (λ (l : NetHeld). l.held) xs h)
    ∙ (map-push (λ (l : HeldLink). l.link) (held_in xs) h.held ∙ (ap (λ z. z ++ h.held.link ∷ []) before ∙ (sym (take-suc-some links n h.held.link at) ∙ ap (λ z. take z links) (sym (add-one n))))))

pub held-step : (P : NetHeld → Type 0) (xs new : List NetHeld) (h : NetHeld) → new ≡ xs ++ h ∷ [] → P h → ((l : NetHeld) → Has l xs → P l) → (l : NetHeld) → Has l new → P l
held-step P xs new h is here before l m = elim ((has-push xs h l).0 (subst (Has l) is m)) [ inl k ↦ before l k | inr q ↦ subst P (sym q) here ]

-- the home of a server
home-mapped : (homes : List NetHome) (n : ℕ) (home : NetHome) → slice_get homes n ≡ Some home → slice_get (homes_in homes) n ≡ Some home.home
home-mapped [] n home e = cc
home-mapped (x ∷ homes) zero home e = ap (λ (z : NetHome). Some z.home) (same_Some x home e)
home-mapped (x ∷ homes) (suc n) home e = home-mapped homes n home e

home-here : (homes : List NetHome) (server : ℕ) (home : NetHome) → 1 ≤ server → slice_get homes (server - 1) ≡ Some home → home_at (homes_in homes) server ≡ Some home.home
home-here homes server home low e =
    let next : server ≡ suc (server - 1) = omega (arith, low) in
    ap (home_at (homes_in homes)) next ∙ home-mapped homes (server - 1) home e

pub filters-here : (homes : List NetHome) (server : ℕ) (home : NetHome) → 1 ≤ server → slice_get homes (server - 1) ≡ Some home → filters_of (homes_in homes) server ≡ home.home.filters
filters-here homes server home low e = ap home_filters (home-here homes server home low e)

pub adverts-here : (homes : List NetHome) (server : ℕ) (home : NetHome) → 1 ≤ server → slice_get homes (server - 1) ≡ Some home → adverts_of (homes_in homes) server ≡ home.home.adverts
adverts-here homes server home low e = ap home_adverts (home-here homes server home low e)

-- what is held is of the net
pub held-net : (known : NetParts) (table offers : List Numbers) (at : ℕ) (links : List NetHeld) → ((link : NetHeld) → Has link links → RepresentsHeld known table offers at link) → AreHeldIn known links
held-net known table offers at links held h m = ap (λ (z : NetHeld). z.net) (held h m)

-- and it is what flows
pub flow-is : (known : NetParts) (tree : Topology) (homes : List Home) (table offers : List Numbers) → AreFilters known tree homes table → AreAdverts known tree homes offers
    → (server : ℕ) (links : List NetHeld) → map (λ (l : HeldLink). l.link) (held_in links) ≡ links_of tree server → ((link : NetHeld) → Has link links → RepresentsHeld known table offers server link)
    → (link : HeldLink) → Has link (held_in links) → IsFlow known.semantics tree homes server link
flow-is known tree homes table offers subs advs server links is held link m = subst (IsFlow known.semantics tree homes server) (sym r.2) (record {
  filters = λ net sets ad_sets on union ad_union. ap (λ (z : NetHeld). z.held.filters) here ∙ subs.flows net sets ad_sets on union ad_union server r.0.held.link near;
  adverts = λ net ad_sets on ad_union. ap (λ (z : NetHeld). z.held.adverts) here ∙ advs.flows net ad_sets on ad_union server r.0.held.link near;
})
  where
    r : (h : NetHeld) × Has h links × (link ≡ h.held)
    r = has-map (λ (h : NetHeld). h.held) links link m

    here : r.0 ≡ net_held known r.0.held.link (row_at table server r.0.held.link).members (row_at offers server r.0.held.link).members
    here = held r.0 r.1

    near : Has r.0.held.link (links_of tree server)
    near = subst (Has r.0.held.link) is (map-has (λ (l : HeldLink). l.link) (held_in links) r.0.held (map-has (λ (h : NetHeld). h.held) links r.0 r.1))
