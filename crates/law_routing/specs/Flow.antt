-- What neighbours hold of each other at rest, from the clients' sets alone.
use Rattle.std.specs.Prelude.{◌≡◌, ℕ, zero, suc, false, cond, List, [], length}
use Rattle.base.specs.Sets.{Has}
use Rattle.law_routing.specs.Theory.{Theory}
use Rattle.law_routing.specs.Net.{Net}
use Rattle.law_routing.specs.Server.{ServerState, is_among, sent, sent_adverts}

-- what a server holds of a neighbour is made of what that holds of its own neighbours but the server
abbrev pub IsLocal : {A : Type 0} → (ℕ → List ℕ) → (ℕ → ℕ → (ℕ → A) → A) → Type 0
IsLocal {A} links make = (t u : ℕ) (f g : ℕ → A) → ((v : ℕ) → Has v (links u) → (v ≡ t → ⊥) → f v ≡ g v) → make t u f ≡ make t u g

-- held t u, for each link, is what u makes of what it holds
abbrev pub Solves : {A : Type 0} → (ℕ → List ℕ) → (ℕ → ℕ → (ℕ → A) → A) → (ℕ → ℕ → A) → Type 0
Solves links make held = (t u : ℕ) → Has u (links t) → held t u ≡ make t u (held u)

-- what t holds of u, after so many steps from the leaves of the tree
abbrev pub flowing : {A : Type 0} → (ℕ → ℕ → (ℕ → A) → A) → A → ℕ → ℕ → ℕ → A
flowing make start zero t u = start
flowing make start (suc n) t u = make t u (flowing make start n u)

module _ (theory : Theory) (net : Net theory) where
  -- a server that holds these sets of its neighbours, and of its clients their own
  abbrev pub holds : {T : Type 0} → (ℕ → ℕ → List T) → ℕ → (ℕ → List T) → ℕ → List T
  holds homes server of_links i = cond (is_among i (net.links server)) (of_links i) (homes server i)

  -- a server with these sets, all installed
  abbrev pub server_of : (ℕ → List theory.Filter) → (ℕ → List theory.Advert) → ServerState theory
  server_of subs advs = record { subs = subs; advs = advs; installed = subs; pending = false; done = λ c. 0; inbox = λ c. [] }

  -- what u sends to t of advertisements, with these sets of its neighbours
  abbrev pub make_ad : (ℕ → ℕ → List theory.Advert) → ℕ → ℕ → (ℕ → List theory.Advert) → List theory.Advert
  make_ad homes t u of_links = sent_adverts theory net (server_of (λ i. []) (holds homes u of_links)) u t

  -- with what u holds of t of advertisements
  abbrev pub make_sub : (ℕ → ℕ → List theory.Filter) → (ℕ → ℕ → List theory.Advert) → ℕ → ℕ → (ℕ → List theory.Filter) → List theory.Filter
  make_sub homes adverts t u of_links = sent theory net (server_of (holds homes u of_links) (λ i. adverts u t)) u t

  -- the advertisements that a server holds of a neighbour, by the clients' sets
  abbrev pub flow_ad : (ℕ → ℕ → List theory.Advert) → ℕ → ℕ → List theory.Advert
  flow_ad homes = flowing (make_ad homes) [] (length net.servers)

  -- and the filters
  abbrev pub flow : (ℕ → ℕ → List theory.Filter) → (ℕ → ℕ → List theory.Advert) → ℕ → ℕ → List theory.Filter
  flow homes ad_homes = flowing (make_sub homes (flow_ad ad_homes)) [] (length net.servers)

  -- what each server holds of its neighbours is what they send
  pub record AgreesOnLinks (state : ℕ → ServerState theory) : Type 0 where
    pub subs : (t u : ℕ) → Has u (net.links t) → (state t).subs u ≡ sent theory net (state u) u t
    pub advs : (t u : ℕ) → Has u (net.links t) → (state t).advs u ≡ sent_adverts theory net (state u) u t

  -- the servers on this tree, by the clients' sets
  abbrev pub relinked : (ℕ → ℕ → List theory.Filter) → (ℕ → ℕ → List theory.Advert) → ℕ → ServerState theory
  relinked homes ad_homes t = server_of (holds homes t (flow homes ad_homes t)) (holds ad_homes t (flow_ad ad_homes t))
