-- Lemmas on sessions of which one handed on its inbox.
use Rattle.std.proofs.Common.{◌≡◌, ℕ, ◌==◌, Bool, true, false, cond, List, [], ◌∷◌, map, refl, sym, ap, subst, ◌∙◌}
use Rattle.std.specs.Int.{IsInRange}
use Rattle.base.specs.Sets.{Has}
use Rattle.law_routing.specs.Server.{client_interface}
use Rattle.server_spec.specs.Control.{subs, advs}
use Rattle.server_spec.specs.Session.{SessionParts, session_parts}
use Rattle.server_spec.specs.Turn.{filter_set_at, advert_set_at}
use Rattle.server_core.specs.Clients.{bare, client_numbers, at_client, emptied}
use Rattle.server_core.specs.Ledger.{LedgerParts}
use Rattle.server_core.specs.Core.{core_parts}
use Rattle.server_core.specs.Kept.{IsCore}
use Rattle.base.proofs.Sets.{has-map}

-- one of them is one of before but for its inbox
abbrev IsBut : SessionParts → SessionParts → Type 0
IsBut s t = s ≡ session_parts t.client t.semantics t.script t.taken s.inbox s.room t.planned

but-one : (b : Bool) (s t : SessionParts) → s ≡ cond b (emptied t) t → IsBut s t
but-one true s t e = subst (λ z. IsBut z t) (sym e) refl
but-one false s t e = subst (λ z. IsBut z t) (sym e) refl

of-before : (client : ℕ) (sessions : List SessionParts) (s : SessionParts) → Has s (at_client client emptied sessions) → (t : SessionParts) × Has t sessions × IsBut s t
of-before client sessions s m =
    let r = has-map (λ t. cond (t.client == client) (emptied t) t) sessions s m in
    (r.0, r.1, but-one (r.0.client == client) s r.0 r.2)

-- the core is one still
pub emptied-kept : (server clock client : ℕ) (ledger : LedgerParts) (sessions : List SessionParts) → IsCore (core_parts server ledger sessions clock)
    → IsCore (core_parts server ledger (at_client client emptied sessions) clock)
emptied-kept server clock client ledger sessions kept = record {
  clock_low = kept.clock_low;
  links_rise = kept.links_rise;
  links_small = kept.links_small;
  one_semantics = λ s m. (let r = of-before client sessions s m in ap (λ (z : SessionParts). z.semantics) r.2 ∙ kept.one_semantics r.0 r.1);
  ids = λ s m. (let r = of-before client sessions s m in subst (λ (z : SessionParts). IsInRange 1 1024 z.client) (sym r.2) (kept.ids r.0 r.1));
  own_filters = λ s m. (let r = of-before client sessions s m in
      subst (λ (z : SessionParts). subs ledger.control (client_interface z.client) ≡ filter_set_at z z.taken) (sym r.2) (kept.own_filters r.0 r.1));
  own_adverts = λ s m b. (let r = of-before client sessions s m in
      subst (λ (z : SessionParts). advs ledger.control (client_interface z.client) ≡ advert_set_at z z.taken) (sym r.2) (kept.own_adverts r.0 r.1 b));
}

-- the rest of what they are is told alike
pub emptied-bare : (client : ℕ) (sessions : List SessionParts) → map bare (at_client client emptied sessions) ≡ at_client client emptied (map bare sessions)
emptied-bare client [] = refl
emptied-bare client (s ∷ sessions) = go (s.client == client) (emptied-bare client sessions)
  where
    go : (b : Bool) → map bare (at_client client emptied sessions) ≡ at_client client emptied (map bare sessions)
        → bare (cond b (emptied s) s) ∷ map bare (at_client client emptied sessions) ≡ cond b (emptied (bare s)) (bare s) ∷ at_client client emptied (map bare sessions)
    go true e = ap (λ z. bare (emptied s) ∷ z) e
    go false e = ap (λ z. bare s ∷ z) e

-- nobody came or went
pub numbers-emptied : (client : ℕ) (sessions : List SessionParts) → client_numbers (at_client client emptied sessions) ≡ client_numbers sessions
numbers-emptied client [] = refl
numbers-emptied client (s ∷ sessions) = go (s.client == client) (numbers-emptied client sessions)
  where
    go : (b : Bool) → client_numbers (at_client client emptied sessions) ≡ client_numbers sessions
        → (cond b (emptied s) s).client ∷ client_numbers (at_client client emptied sessions) ≡ s.client ∷ client_numbers sessions
    go true e = ap (λ z. s.client ∷ z) e
    go false e = ap (λ z. s.client ∷ z) e
