-- A server set on the tree of another phase, by what flows over it.
use Rattle.std.proofs.Common.{◌≡◌, ◌≢◌, ◌⊎◌, inl, inr, ℕ, ◌+◌, ◌<◌, ◌≤◌, nat_lt, ◌==◌, eqb-true, Bool, true, false, cond, List, [], ◌∷◌, map, refl, sym, ap, subst, ◌∙◌, arith, ◌||◌}
use Rattle.std.proofs.lemmas.Bool.Decides.{nat_tests}
use Rattle.base.specs.Sets.{Has}
use Rattle.filter_constraints.specs.Constraint.{ConstraintParts}
use Rattle.filter_text.specs.declared.semantics.Semantics.{Semantics}
use Rattle.filter_text.specs.declared.semantics.Semantics.TheVariants.{Advertisement, Subscription}
use Rattle.base_tree.specs.Tree.{links_of}
use Rattle.law_routing.specs.Net.{Net}
use Rattle.law_routing.specs.Server.{ServerState, is_among, interfaces}
use Rattle.law_routing.specs.Change.{client_sets}
use Rattle.law_routing.specs.Flow.{flow, flow_ad}
use Rattle.law_routing.proofs.Listing.{has-one}
use Rattle.law_phases.specs.Trees.{State, net_at, tree_at}
use Rattle.law_phases.specs.Moments.{with_tree_changed}
use Rattle.net_model.specs.Real.{real}
use Rattle.net_model.specs.Parts.{NetParts}
use Rattle.net_model.specs.Nets.{phased_net, topology_at, clients_of}
use Rattle.net_model.specs.Sound.{IsSound}
use Rattle.net_model.proofs.SoundNets.{net-laws}
use Rattle.law_phases.proofs.Nets.{net-laws as each-net}
use Rattle.server_spec.specs.declared.control.HeldLink.{HeldLink}
use Rattle.server_spec.specs.Control.{subs, advs, by_adverts}
use Rattle.server_spec.specs.Routing.{RepresentsControl}
use Rattle.server_spec.specs.declared.home.Home.{Home}
use Rattle.server_spec.specs.Flow.{filters_of, adverts_of, IsNetOn, IsUnionOfClients, IsFlow}
use Rattle.server_core.specs.Ledger.{LedgerParts}
use Rattle.server_core.specs.Core.{CoreParts, RepresentsServer, installed_from}
use Rattle.server_core.specs.Linked.{SuitsCore, IsLinked, IsOnLinks}
use Rattle.base.proofs.Sets.{has-append-left, has-append-right, has-append, map-has, has-map}
use Rattle.std.proofs.lemmas.Bool.{false≢true}
use Rattle.law_routing.proofs.Laws.{one-has}
use Rattle.base.proofs.Numbers.{le-or-gt}

-- lists of filters by interface
abbrev pub Sets : Type 0
Sets = ℕ → ℕ → List (List ConstraintParts)

-- the sets of the clients, which the homes are the unions of
pub record AreUnions (n : Net real) (sets ad_sets : Sets) (homes : List Home) : Type 0 where
  pub filters : IsUnionOfClients n sets (filters_of homes)
  pub adverts : IsUnionOfClients n ad_sets (adverts_of homes)

-- then what is given of a link is what flows
pub flows : (semantics : Semantics) (n : Net real) (tree : _) (sets ad_sets : Sets) (homes : List Home) (server : ℕ) (h : HeldLink) → IsNetOn semantics tree n → AreUnions n sets ad_sets homes
    → IsFlow semantics tree homes server h → (h.filters ≡ flow real n sets ad_sets server h.link) × (h.adverts ≡ flow_ad real n ad_sets server h.link)
flows semantics n tree sets ad_sets homes server h on unions is = (is.filters n sets ad_sets on unions.filters unions.adverts, is.adverts n ad_sets on unions.adverts)

above : (c i : ℕ) → 1 ≤ c → i ≡ 64 + c → nat_lt 64 i ≡ true
above c i one e = let more : 64 < i = omega (arith, one, e) in grind (arith, nat_tests, more)

module _ (net : NetParts) (sound : IsSound net) (last phase : ℕ) (state : State real) (homes : List Home) where
  abbrev old : Net real
  old = net_at real (phased_net net) last

  abbrev new : Net real
  new = net_at real (phased_net net) phase

  abbrev pub client_filters : Sets
  client_filters server = client_sets real old (tree_at real (phased_net net) phase).links (tree_at real (phased_net net) phase).hop (state.state server).subs

  abbrev pub client_adverts : Sets
  client_adverts server = client_sets real old (tree_at real (phased_net net) phase).links (tree_at real (phased_net net) phase).hop (state.state server).advs

  abbrev moved : ℕ → ServerState real
  moved server = (with_tree_changed real (phased_net net) last phase state).state server

  -- one server, with what is given of its links
  module _ (on : IsNetOn net.semantics (topology_at net phase) new) (unions : AreUnions new client_filters client_adverts homes)
      (core : CoreParts) (held : List HeldLink) (ledger : LedgerParts)
      (is : RepresentsServer old core (state.state core.server))
      (links : map (λ h. h.link) held ≡ links_of (topology_at net phase) core.server)
      (flow-is : (h : HeldLink) → Has h held → IsFlow net.semantics (topology_at net phase) homes core.server h)
      (linked : IsLinked held core.control ledger.control) (suits : SuitsCore core ledger) where
    -- a link of the new tree is given
    given : (i : ℕ) → Has i (new.links core.server) → (h : HeldLink) × Has h held × (i ≡ h.link)
    given i m = has-map (λ h. h.link) held i (subst (Has i) (ap (λ f. f core.server) on.links ∙ sym links) m)

    small : (i : ℕ) → Has i (new.links core.server) → i ≤ 64
    small i m = (each-net real (phased_net net) (net-laws net sound) phase).small core.server i m

    old-small : (i : ℕ) → Has i (old.links core.server) → i ≤ 64
    old-small i m = (each-net real (phased_net net) (net-laws net sound) last).small core.server i m

    -- an interface of a client is above the links
    high : (i : ℕ) → Has i (map (λ c. 64 + c) (clients_of net core.server)) → 64 < i
    high i m =
        let r = has-map (λ c. 64 + c) (clients_of net core.server) i m in
        let one : 1 ≤ r.0 = on.counted core.server r.0 r.1 in
        omega (arith, one, r.2)

    here : (h : HeldLink) → Has h held → (h.filters ≡ flow real new client_filters client_adverts core.server h.link) × (h.adverts ≡ flow_ad real new client_adverts core.server h.link)
    here h m = flows net.semantics new (topology_at net phase) client_filters client_adverts homes core.server h on unions (flow-is h m)

    -- what is held of an interface
    held-by : (i : ℕ) → Has i (interfaces real new core.server) → (b : Bool) → is_among i (new.links core.server) ≡ b
        → (cond b (flow real new client_filters client_adverts core.server i) (client_filters core.server i) ≡ subs ledger.control i)
        × (cond b (flow_ad real new client_adverts core.server i) (client_adverts core.server i) ≡ advs ledger.control i)
    held-by i m true e =
        let r = given i (one-has i (new.links core.server) e) in
        let f : flow real new client_filters client_adverts core.server i ≡ subs ledger.control i = ap (flow real new client_filters client_adverts core.server) r.2 ∙ sym (here r.0 r.1).0 ∙ sym (linked.filters.links r.0 r.1) ∙ ap (subs ledger.control) (sym r.2) in
        let a : flow_ad real new client_adverts core.server i ≡ advs ledger.control i = ap (flow_ad real new client_adverts core.server) r.2 ∙ sym (here r.0 r.1).1 ∙ sym (linked.adverts.links r.0 r.1) ∙ ap (advs ledger.control) (sym r.2) in
        (f, a)
    held-by i m false e = elim (has-append i (new.links core.server) (map (λ c. 64 + c) (clients_of net core.server)) m) [
      | inl k ↦ absurd (let there : is_among i (new.links core.server) ≡ true = has-one i (new.links core.server) k in false≢true (sym e ∙ there))
      | inr k ↦
          let more : 64 < i = high i k in
          let up : nat_lt 64 i ≡ true = grind (arith, nat_tests, more) in
          let f : client_filters core.server i ≡ subs ledger.control i = ap (λ b. cond b ((state.state core.server).subs i) []) up ∙ is.control.subs_held i (has-append-right i (old.links core.server) (map (λ c. 64 + c) (clients_of net core.server)) k) ∙ sym (linked.filters.clients i more) in
          let a : client_adverts core.server i ≡ advs ledger.control i = ap (λ b. cond b ((state.state core.server).advs i) []) up ∙ is.control.advs_held i (has-append-right i (old.links core.server) (map (λ c. 64 + c) (clients_of net core.server)) k) ∙ sym (linked.adverts.clients i more) in
          (f, a)
    ]

    -- of what is no interface nothing is held
    not-old : (i : ℕ) → 64 < i → (Has i (interfaces real new core.server) → ⊥) → Has i (interfaces real old core.server) → ⊥
    not-old i more none m = elim (has-append i (old.links core.server) (map (λ c. 64 + c) (clients_of net core.server)) m) [
      | inl k ↦ (let low : i ≤ 64 = old-small i k in omega (arith, low, more))
      | inr k ↦ none (has-append-right i (new.links core.server) (map (λ c. 64 + c) (clients_of net core.server)) k)
    ]

    not-given : (i : ℕ) → (Has i (interfaces real new core.server) → ⊥) → (h : HeldLink) → Has h held → h.link ≢ i
    not-given i none h m e = none (has-append-left i (new.links core.server) (map (λ c. 64 + c) (clients_of net core.server)) (subst (λ z. Has z (new.links core.server)) e (subst (Has h.link) (links ∙ sym (ap (λ f. f core.server) on.links)) (map-has (λ (h : HeldLink). h.link) held h m))))

    apart : (i : ℕ) → (Has i (interfaces real new core.server) → ⊥) → (subs ledger.control i ≡ []) × (advs ledger.control i ≡ [])
    apart i none = elim (le-or-gt i 64) [
      | inl low ↦ (linked.filters.others i low (not-given i none), linked.adverts.others i low (not-given i none))
      | inr more ↦ (linked.filters.clients i more ∙ is.control.subs_apart i (not-old i more none), linked.adverts.clients i more ∙ is.control.advs_apart i (not-old i more none))
    ]

    stands : RepresentsControl new core.server ledger.control (moved core.server)
    stands = record {
      adverts = on.adverts ∙ ap by_adverts (sym-semantics ∙ sym suits.semantics);
      links = ap (λ f. f core.server) on.links ∙ sym links ∙ sym linked.links;
      subs_held = λ i m. (held-by i m (is_among i (new.links core.server)) refl).0;
      advs_held = λ i m. (held-by i m (is_among i (new.links core.server)) refl).1;
      subs_apart = λ i none. (apart i none).0;
      advs_apart = λ i none. (apart i none).1;
    }
      where
        one : (a b : Semantics) → by_adverts a ≡ by_adverts b → a ≡ b
        one Subscription Subscription e = refl
        one Advertisement Advertisement e = refl
        one Subscription Advertisement e = absurd (false≢true e)
        one Advertisement Subscription e = absurd (false≢true (sym e))

        sym-semantics : net.semantics ≡ core.control.semantics
        sym-semantics = one net.semantics core.control.semantics (sym on.adverts ∙ is.control.adverts)

    abbrev with-control : CoreParts → CoreParts
    with-control c = record { net = core.net; server = core.server; interfaces = ledger.interfaces; control = ledger.control; installed = c.installed; pending = []; clients = core.clients; clock = c.clock }

    fresh-moved : (c : CoreParts) → ((i : ℕ) → installed_from c i ≡ subs ledger.control i) → RepresentsServer new (with-control c) (moved core.server)
    fresh-moved c all = record {
      among = is.among;
      control = stands;
      installed = λ i m. (held-by i m (is_among i (new.links core.server)) refl).0 ∙ sym (all i);
      installed_apart = λ i none. all i ∙ (apart i none).0;
      pending = refl;
      clients = is.clients;
      scripts = is.scripts;
      taken = is.taken;
      inboxes = is.inboxes;
    }

    pub server-moved : (c : CoreParts) → IsOnLinks ledger core c → RepresentsServer new c (moved core.server)
    server-moved c o = subst (λ z. RepresentsServer new z (moved core.server)) (sym same) (fresh-moved c o.installed)
      where
        same : c ≡ with-control c
        same = λ i. record { net = o.net i; server = o.server i; interfaces = o.interfaces i; control = o.control_is i; installed = c.installed; pending = o.pending i; clients = o.clients i; clock = c.clock }
