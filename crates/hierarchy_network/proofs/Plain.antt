-- Lemmas on sessions as they would be under subscription semantics.
use Rattle.std.proofs.Common.{◌≡◌, ℕ, ◌==◌, Bool, true, false, cond, List, [], ◌∷◌, map, inl, inr, refl, sym, ap, subst, ◌∙◌}
use Rattle.base.specs.Sets.{Has}
use Rattle.law_routing.specs.Net.{Net}
use Rattle.law_routing.specs.Server.{Noticed, ServerState, is_among}
use Rattle.filter_types.specs.Notice.{Attribute}
use Rattle.net_model.specs.Parts.{NetParts}
use Rattle.server_message.specs.Parts.{SendingParts}
use Rattle.net_model.specs.Real.{real}
use Rattle.filter_text.specs.Deliveries.{Delivery}
use Rattle.filter_text.specs.declared.semantics.Semantics.{Semantics}
use Rattle.net_model.specs.Meaning.{phased_command, deliveries_of}
use Rattle.server_spec.specs.Session.{SessionParts}
use Rattle.server_core.specs.Clients.{bare, client_numbers, at_client, handed, stepped, emptied}
use Rattle.server_core.specs.Acting.{IsSpread, delivered, clients_on, delivery_under, links_on, sent_on}
use Rattle.server_core.specs.Core.{CoreParts, RepresentsServer}
use Rattle.server_core.proofs.Made.{IsOwn}
use Rattle.hierarchy_network.specs.Acting.{IsSpreadUp}
use Rattle.hierarchy_network.specs.CoreKept.{plain, plain_core}
use Rattle.base.proofs.Sets.{has-map, map-has}

pub plain-bare : (ss : List SessionParts) → map bare (map plain ss) ≡ map plain (map bare ss)
plain-bare [] = refl
plain-bare (s ∷ ss) = ap (λ z. plain (bare s) ∷ z) (plain-bare ss)

pub plain-numbers : (ss : List SessionParts) → client_numbers (map plain ss) ≡ client_numbers ss
plain-numbers [] = refl
plain-numbers (s ∷ ss) = ap (λ z. s.client ∷ z) (plain-numbers ss)

pub plain-delivered : (to : List ℕ) (d : Delivery) (ss : List SessionParts) → delivered to d (map plain ss) ≡ map plain (delivered to d ss)
plain-delivered to d [] = refl
plain-delivered to d (s ∷ ss) = go (is_among s.client to) (plain-delivered to d ss)
  where
    go : (b : Bool) → delivered to d (map plain ss) ≡ map plain (delivered to d ss) → cond b (handed d (plain s)) (plain s) ∷ delivered to d (map plain ss) ≡ plain (cond b (handed d s) s) ∷ map plain (delivered to d ss)
    go true ih = ap (λ z. plain (handed d s) ∷ z) ih
    go false ih = ap (λ z. plain s ∷ z) ih

pub plain-stepped : (client : ℕ) (ss : List SessionParts) → at_client client stepped (map plain ss) ≡ map plain (at_client client stepped ss)
plain-stepped client [] = refl
plain-stepped client (s ∷ ss) = go (s.client == client) (plain-stepped client ss)
  where
    go : (b : Bool) → at_client client stepped (map plain ss) ≡ map plain (at_client client stepped ss) → cond b (stepped (plain s)) (plain s) ∷ at_client client stepped (map plain ss) ≡ plain (cond b (stepped s) s) ∷ map plain (at_client client stepped ss)
    go true ih = ap (λ z. plain (stepped s) ∷ z) ih
    go false ih = ap (λ z. plain s ∷ z) ih

pub plain-emptied : (client : ℕ) (ss : List SessionParts) → at_client client emptied (map plain ss) ≡ map plain (at_client client emptied ss)
plain-emptied client [] = refl
plain-emptied client (s ∷ ss) = go (s.client == client) (plain-emptied client ss)
  where
    go : (b : Bool) → at_client client emptied (map plain ss) ≡ map plain (at_client client emptied ss) → cond b (emptied (plain s)) (plain s) ∷ at_client client emptied (map plain ss) ≡ plain (cond b (emptied s) s) ∷ map plain (at_client client emptied ss)
    go true ih = ap (λ z. plain (emptied s) ∷ z) ih
    go false ih = ap (λ z. plain s ∷ z) ih

-- what a core represents does not turn on the semantics of its sessions
pub plain-state : (net : Net real) (core : CoreParts) (state : ServerState real) → RepresentsServer net core state → RepresentsServer net (plain_core core) state
plain-state net core state stands = record {
  among = stands.among;
  control = stands.control;
  installed = stands.installed;
  installed_apart = stands.installed_apart;
  pending = stands.pending;
  clients = stands.clients ∙ sym (plain-numbers core.clients);
  scripts = λ s m. let r = has-map plain core.clients s m in subst (λ (z : SessionParts). net.script z.client ≡ map phased_command z.script) (sym r.2) (stands.scripts r.0 r.1);
  taken = λ s m. let r = has-map plain core.clients s m in subst (λ (z : SessionParts). state.done z.client ≡ z.taken) (sym r.2) (stands.taken r.0 r.1);
  inboxes = λ s m. let r = has-map plain core.clients s m in subst (λ (z : SessionParts). z.inbox ≡ deliveries_of (state.inbox z.client)) (sym r.2) (stands.inboxes r.0 r.1);
}

pub unplain-state : (net : Net real) (core : CoreParts) (state : ServerState real) → RepresentsServer net (plain_core core) state → RepresentsServer net core state
unplain-state net core state stands = record {
  among = stands.among;
  control = stands.control;
  installed = stands.installed;
  installed_apart = stands.installed_apart;
  pending = stands.pending;
  clients = stands.clients ∙ plain-numbers core.clients;
  scripts = λ s m. stands.scripts (plain s) (map-has plain core.clients s m);
  taken = λ s m. stands.taken (plain s) (map-has plain core.clients s m);
  inboxes = λ s m. stands.inboxes (plain s) (map-has plain core.clients s m);
}

-- what a session says of its client's own lists stays through deliveries
pub own-delivered : (to : List ℕ) (d : Delivery) (ss : List SessionParts) (s : SessionParts) → Has s (map bare (delivered to d ss)) → (t : SessionParts) × Has t (map bare ss) × IsOwn s t
own-delivered to d [] s m = absurd m
own-delivered to d (u ∷ ss) s m = go (is_among u.client to) (own-delivered to d ss s) m
  where
    go : (b : Bool) → (Has s (map bare (delivered to d ss)) → (t : SessionParts) × Has t (map bare ss) × IsOwn s t) → Has s (bare (cond b (handed d u) u) ∷ map bare (delivered to d ss)) → (t : SessionParts) × Has t (map bare (u ∷ ss)) × IsOwn s t
    go true rest (inl q) = (bare u, inl refl, record { client = ap (λ (z : SessionParts). z.client) q; semantics = ap (λ (z : SessionParts). z.semantics) q; script = ap (λ (z : SessionParts). z.script) q; taken = ap (λ (z : SessionParts). z.taken) q })
    go false rest (inl q) = (bare u, inl refl, record { client = ap (λ (z : SessionParts). z.client) q; semantics = ap (λ (z : SessionParts). z.semantics) q; script = ap (λ (z : SessionParts). z.script) q; taken = ap (λ (z : SessionParts). z.taken) q })
    go b rest (inr h) = let r = rest h in (r.0, inr r.1, r.2)

-- a notice that went on and was delivered, by plain sessions among peers
pub spread-plainly : (net : NetParts) (master from publisher ordinal : ℕ) (n : List Attribute) (route links : List ℕ) (before after : List SessionParts) (sent : List SendingParts)
    → IsSpreadUp net master from publisher ordinal n route links before after sent
    → IsSpread net from publisher ordinal n route links (map plain before) (map plain after) (sent_on net (Noticed publisher ordinal n) (links_on links from route))
spread-plainly net master from publisher ordinal n route links before after sent s = record {
  inboxes = plain-bare after ∙ (ap (map plain) s.inboxes ∙ (sym (plain-bare (delivered (clients_on route) (delivery_under publisher ordinal n) before))
      ∙ ap (map bare) (sym (plain-delivered (clients_on route) (delivery_under publisher ordinal n) before))));
  sent_are = refl;
}

-- sessions that are all of one semantics
abbrev pub AllOf : Semantics → List SessionParts → Type 0
AllOf semantics ss = (s : SessionParts) → Has s ss → s.semantics ≡ semantics

pub all-delivered : (semantics : Semantics) (to : List ℕ) (d : Delivery) (ss : List SessionParts) → AllOf semantics (map bare ss) → AllOf semantics (map bare (delivered to d ss))
all-delivered semantics to d [] all = λ s m. absurd m
all-delivered semantics to d (t ∷ ss) all = go (is_among t.client to) (all-delivered semantics to d ss (λ u h. all u (inr h)))
  where
    go : (b : Bool) → AllOf semantics (map bare (delivered to d ss)) → (s : SessionParts) → Has s (bare (cond b (handed d t) t) ∷ map bare (delivered to d ss)) → s.semantics ≡ semantics
    go true rest s (inl q) = ap (λ (z : SessionParts). z.semantics) q ∙ all (bare t) (inl refl)
    go false rest s (inl q) = ap (λ (z : SessionParts). z.semantics) q ∙ all (bare t) (inl refl)
    go b rest s (inr h) = rest s h

pub all-stepped : (semantics : Semantics) (client : ℕ) (ss : List SessionParts) → AllOf semantics ss → AllOf semantics (at_client client stepped ss)
all-stepped semantics client [] all = λ s m. absurd m
all-stepped semantics client (t ∷ ss) all = go (t.client == client) (all-stepped semantics client ss (λ u h. all u (inr h)))
  where
    go : (b : Bool) → AllOf semantics (at_client client stepped ss) → (s : SessionParts) → Has s (cond b (stepped t) t ∷ at_client client stepped ss) → s.semantics ≡ semantics
    go true rest s (inl q) = ap (λ (z : SessionParts). z.semantics) q ∙ all t (inl refl)
    go false rest s (inl q) = ap (λ (z : SessionParts). z.semantics) q ∙ all t (inl refl)
    go b rest s (inr h) = rest s h

pub all-emptied : (semantics : Semantics) (client : ℕ) (ss : List SessionParts) → AllOf semantics ss → AllOf semantics (at_client client emptied ss)
all-emptied semantics client [] all = λ s m. absurd m
all-emptied semantics client (t ∷ ss) all = go (t.client == client) (all-emptied semantics client ss (λ u h. all u (inr h)))
  where
    go : (b : Bool) → AllOf semantics (at_client client emptied ss) → (s : SessionParts) → Has s (cond b (emptied t) t ∷ at_client client emptied ss) → s.semantics ≡ semantics
    go true rest s (inl q) = ap (λ (z : SessionParts). z.semantics) q ∙ all t (inl refl)
    go false rest s (inl q) = ap (λ (z : SessionParts). z.semantics) q ∙ all t (inl refl)
    go b rest s (inr h) = rest s h
