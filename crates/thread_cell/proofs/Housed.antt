-- The clients of a server by their places in a net.
use Rattle.std.proofs.Common.{◌≡◌, ◌↔◌, IsTrue, ◌⊎◌, inl, inr, ℕ, zero, suc, ◌-◌, ◌<◌, ◌≤◌, ◌==◌, false, List, [], ◌∷◌, length, Some, slice_get, slice_index_or, refl, sym, ap, subst, ◌∙◌, arith, eqb-true, eq-eqb}
use Rattle.std.specs.List.{range_with_len}
use Rattle.std.proofs.lemmas.Option.{same_Some}
use Rattle.base.specs.Sets.{Has}
use Rattle.base.proofs.Roots.{Has-filter, filter-Has}
use Rattle.base_tree.proofs.Servers.{server-in, in-server}
use Rattle.net_model.specs.Parts.{ClientParts, NetParts}
use Rattle.net_model.specs.Nets.{home_in, home_of, clients_of}
use Rattle.server_spec.specs.Session.{SessionParts}
use Rattle.server_core.specs.Clients.{client_numbers}
use Rattle.thread_cell.specs.Cell.{HasNoneBelow, IsPast}
use Rattle.thread_cell.proofs.Places.{below-found}
use Rattle.base.proofs.Sets.{map-has}
use Rattle.base.proofs.Lists.{get-below}

-- who is at home at a server is one of its clients
pub at-home : (net : NetParts) (server place : ℕ) (client : ClientParts) → slice_get net.clients place ≡ Some client → client.home ≡ server → Has (suc place) (clients_of net server)
at-home net server place client e h =
    Has-filter (λ c. home_of net c == server) (suc place) (range_with_len 1 (length net.clients)) (in-server (length net.clients) (suc place) (omega arith, (let lt = below-found place net.clients client e in omega (arith, lt))))
    (eq-eqb (home_of net (suc place)) server (ap home_in e ∙ h))

-- and each of its clients is
pub home-at : (net : NetParts) (server c : ℕ) → Has c (clients_of net server) → (place : ℕ) × (client : ClientParts) × (c ≡ suc place) × (slice_get net.clients place ≡ Some client) × (client.home ≡ server)
home-at net server c h =
    let f = filter-Has (λ c. home_of net c == server) c (range_with_len 1 (length net.clients)) h in
    let r = server-in (length net.clients) c f.0 in
    let up : c ≡ suc (c - 1) = omega (arith, r.0) in
    let w = get-below net.clients (c - 1) (omega (arith, r.0, r.1)) in
    (c - 1, w.0, up, w.1, sym (ap home_in w.1) ∙ ap (home_of net) (sym up) ∙ eqb-true (home_of net c) server f.1)

-- a client's number is one of a net's
pub client-within : (net : NetParts) (server c : ℕ) → Has c (clients_of net server) → (1 ≤ c) × (c ≤ length net.clients)
client-within net server c h =
    let a = home-at net server c h in
    let lt = below-found a.0 net.clients a.1 a.3 in
    (omega (arith, a.2), omega (arith, a.2, lt))

-- where each client of a server is past, none has a lower command left
pub all-past : (net : NetParts) (server phase n : ℕ) (sessions : List SessionParts) → clients_of net server ≡ client_numbers sessions → length net.clients ≤ n
    → ((place : ℕ) (client : ClientParts) → place < n → slice_get net.clients place ≡ Some client → client.home ≡ server → IsPast phase (suc place) sessions) → HasNoneBelow phase sessions
all-past net server phase n sessions same all past s c h e =
    let a = home-at net server s.client (subst (Has s.client) (sym same) (map-has (λ (s : SessionParts). s.client) sessions s h)) in
    let lt = below-found a.0 net.clients a.1 a.3 in
    past a.0 a.1 (omega (arith, lt, all)) a.3 a.4 s c h a.2 e

-- at home is exactly to be a client
pub home-iff : (net : NetParts) (server n : ℕ) (client : ClientParts) → 1 ≤ n → slice_get net.clients (n - 1) ≡ Some client → IsTrue (client.home == server) ↔ Has n (clients_of net server)
home-iff net server n client low e =
    let up : suc (n - 1) ≡ n = omega (arith, low) in (
      (λ t. subst (λ k. Has k (clients_of net server)) up (at-home net server (n - 1) client e (eqb-true client.home server t))),
      (λ h. (
          let a = home-at net server n h in
          let same : a.0 ≡ n - 1 = omega (arith, a.2, low) in
          eq-eqb client.home server (ap (λ (c : ClientParts). c.home) (same_Some client a.1 (sym e ∙ ap (slice_get net.clients) (sym same) ∙ a.3)) ∙ a.4))),
    )

-- no number beyond is
pub no-home : (net : NetParts) (server n : ℕ) → ((1 ≤ n) × (n ≤ length net.clients) → ⊥) → IsTrue false ↔ Has n (clients_of net server)
no-home net server n no-one = ((λ t. cc), (λ h. absurd (no-one (client-within net server n h))))

-- one place more: who is at home there is past, or nobody is
pub one-more : (net : NetParts) (server phase n : ℕ) (client : ClientParts) (sessions : List SessionParts) → slice_get net.clients n ≡ Some client
    → ((place : ℕ) (c : ClientParts) → place < n → slice_get net.clients place ≡ Some c → c.home ≡ server → IsPast phase (suc place) sessions) → (client.home ≡ server → IsPast phase (suc n) sessions)
    → (place : ℕ) (c : ClientParts) → place < suc n → slice_get net.clients place ≡ Some c → c.home ≡ server → IsPast phase (suc place) sessions
one-more net server phase n client sessions at before here place c lt e h = go (less-or place n lt)
  where
    less-or : (p n : ℕ) → p < suc n → (p < n) ⊎ (p ≡ n)
    less-or zero zero lt = inr refl
    less-or zero (suc n) lt = inl (omega arith)
    less-or (suc p) zero lt = absurd (omega (arith, lt))
    less-or (suc p) (suc n) lt = deep (less-or p n (omega (arith, lt)))
      where
        deep : (p < n) ⊎ (p ≡ n) → (suc p < suc n) ⊎ (suc p ≡ suc n)
        deep (inl l) = inl (omega (arith, l))
        deep (inr q) = inr (ap suc q)

    go : (place < n) ⊎ (place ≡ n) → IsPast phase (suc place) sessions
    go (inl l) = before place c l e h
    go (inr q) = subst (λ k. IsPast phase (suc k) sessions) (sym q)
        (here (ap (λ (w : ClientParts). w.home) (same_Some client c (sym at ∙ ap (slice_get net.clients) (sym q) ∙ e)) ∙ h))
