-- The inboxes of a network's clients, handed on one by one.
use Rattle.std.proofs.Common.{◌≡◌, ℕ, suc, ◌+◌, ◌-◌, ◌<◌, ◌≤◌, ◌==◌, cond, List, [], ◌∷◌, set, length, slice_get, slice_index_or, Some, inl, inr, sym, ap, subst, ◌∙◌, arith}
use Rattle.std.proofs.lemmas.Option.{same_Some}
use Rattle.base.specs.Sets.{Has}
use Rattle.base.proofs.Numbers.{Same, Is, Not, compare}
use Rattle.net_model.specs.Parts.{NetParts}
use Rattle.net_model.specs.Meaning.{deliveries_of}
use Rattle.net_model.specs.Nets.{home_of}
use Rattle.net_model.specs.Sound.{IsSound}
use Rattle.filter_text.specs.Deliveries.{Delivery}
use Rattle.server_spec.specs.Session.{SessionParts}
use Rattle.server_core.specs.Clients.{client_numbers, at_client, emptied}
use Rattle.server_core.specs.Core.{CoreParts, without_inbox}
use Rattle.server_core.proofs.Emptied.{numbers-emptied}
use Rattle.net_turns.specs.Network.{moment_by, received_by}
use Rattle.sequential_network.specs.Kept.{IsNetwork}
use Rattle.sequential_network.specs.Acted.{Servers}
use Rattle.sequential_network.specs.Inboxes.{HaveInboxes}
use Rattle.sequential_network.specs.Stepping.{Stepping, peers}
use Rattle.sequential_network.proofs.Commanding.{home_low, lives_there, home_place}
use Rattle.sequential_network.proofs.Standing.{At, Found, get-at}
use Rattle.sequential_network.proofs.Turning.{set-same}
use Rattle.base.proofs.Sets.{has-map}
use Rattle.base.proofs.Lists.{get-index, get-set-other}
use Rattle.std.proofs.lemmas.List.{length-set}

-- nothing is handed on of a network
pub have_all : (net : NetParts) (phase : ℕ) (now : Servers CoreParts) → IsNetwork net phase now → HaveInboxes peers net (received_by net now.journal) 0 now.cores
have_all net phase now kept = record {
  all = kept.cores.all;
  nets = λ client core l m at. kept.cores.nets (home_of net client - 1) core at;
  lives = λ client core l m at. lives_there net kept.sound phase (moment_by net now.journal).state now.cores kept.cores client (omega (arith, l), m) core at;
  inbox = λ client core s l m at h e.
      (kept.cores.states (home_of net client - 1) core at).inboxes s h
      ∙ ap (λ z. deliveries_of (((moment_by net now.journal).state.state (suc (home_of net client - 1))).inbox z)) e
      ∙ ap (λ z. deliveries_of (((moment_by net now.journal).state.state z).inbox client)) (home_place net kept.sound phase (moment_by net now.journal).state now.cores kept.cores client);
}

-- another client's session is as it was
other-session : (client : ℕ) (sessions : List SessionParts) (s : SessionParts) → (s.client ≡ client → ⊥) → Has s (at_client client emptied sessions) → Has s sessions
other-session client [] s n h = absurd h
other-session client (t ∷ sessions) s n (inr h) = inr (other-session client sessions s n h)
other-session client (t ∷ sessions) s n (inl e) = inl (go (compare t.client client) e)
  where
    go : Same t.client client → s ≡ cond (t.client == client) (emptied t) t → s ≡ t
    go (Is q v) f = absurd (n (ap (λ (z : SessionParts). z.client) f ∙ (rw v q)))
    go (Not m v) f = rw v at f

module _ {P : Type 0} (kind : Stepping P) where
  -- at each place stands the server of before, or the one that handed on
  data Stands (before : List P) (place k client : ℕ) (core : P) : Type 0 where
    Here : (old : P) → slice_get before k ≡ Some old → kind.core core ≡ without_inbox client (kind.core old) → Stands before place k client core
    Elsewhere : slice_get before k ≡ Some core → Stands before place k client core

  stands : (before : List P) (place k client : ℕ) (old next core : P) → kind.core next ≡ without_inbox client (kind.core old) → place < length before
      → slice_get before place ≡ Some old → slice_get (set before place next) k ≡ Some core → Stands before place k client core
  stands before place k client old next core given l at e = go (compare k place)
    where
      go : Same k place → Stands before place k client core
      go (Is q v) = Here old (ap (slice_get before) q ∙ at)
          (ap kind.core (same_Some _ _ (sym e ∙ ap (slice_get (set before place next)) q ∙ set-same before place next l)) ∙ given)
      go (Not n v) = Elsewhere (sym (get-set-other before place k next n) ∙ e)

  -- one more client's is handed on
  pub have_rest : (net : NetParts) (delivered : ℕ → List Delivery) (done : ℕ) (before after : List P) (old next : P) → HaveInboxes kind net delivered done before
      → slice_get before (home_of net (done + 1) - 1) ≡ Some old → home_of net (done + 1) - 1 < length before
      → kind.core next ≡ without_inbox (done + 1) (kind.core old)
      → after ≡ set before (home_of net (done + 1) - 1) next → HaveInboxes kind net delivered (done + 1) after
  have_rest net delivered done before after old next have at within given is = subst (HaveInboxes kind net delivered (done + 1)) (sym is) (record {
    all = length-set before place next ∙ have.all;
    nets = λ client core l m e. nets client core l m (stands before place (home_of net client - 1) (done + 1) old next core given within at e);
    lives = λ client core l m e. lives client core l m (stands before place (home_of net client - 1) (done + 1) old next core given within at e);
    inbox = λ client core s l m e h c. inbox client core s l m h c (stands before place (home_of net client - 1) (done + 1) old next core given within at e);
  })
    where
      place : ℕ
      place = home_of net (done + 1) - 1

      nets : (client : ℕ) (core : P) → done + 1 < client → client ≤ length net.clients → Stands before place (home_of net client - 1) (done + 1) core → (kind.core core).net ≡ net
      nets client core l m (Elsewhere e) = have.nets client core (omega (arith, l)) m e
      nets client core l m (Here one e c) = ap (λ (z : CoreParts). z.net) c ∙ have.nets client one (omega (arith, l)) m e

      lives : (client : ℕ) (core : P) → done + 1 < client → client ≤ length net.clients → Stands before place (home_of net client - 1) (done + 1) core
          → Has client (client_numbers (kind.core core).clients)
      lives client core l m (Elsewhere e) = have.lives client core (omega (arith, l)) m e
      lives client core l m (Here one e c) =
          subst (λ (z : CoreParts). Has client (client_numbers z.clients)) (sym c)
          (subst (Has client) (sym (numbers-emptied (done + 1) (kind.core one).clients)) (have.lives client one (omega (arith, l)) m e))

      inbox : (client : ℕ) (core : P) (s : SessionParts) → done + 1 < client → client ≤ length net.clients → Has s (kind.core core).clients → s.client ≡ client
          → Stands before place (home_of net client - 1) (done + 1) core → s.inbox ≡ delivered client
      inbox client core s l m h c (Elsewhere e) = have.inbox client core s (omega (arith, l)) m e h c
      inbox client core s l m h c (Here one e is) =
          have.inbox client one s (omega (arith, l)) m e
          (other-session (done + 1) (kind.core one).clients s (λ q. omega (arith, l, q, c)) (subst (λ (z : CoreParts). Has s z.clients) is h)) c

  -- what stands at the place of a home
  pub found_core : (cores : List P) (home number : ℕ) (now core : P) → home ≡ number → (1 ≤ number) × (number ≤ length cores)
      → now ≡ slice_index_or cores (home - 1) now → slice_get cores (number - 1) ≡ Some core → now ≡ core
  found_core cores home number now core e low is at =
      same_Some _ _ (sym (get-index cores (home - 1) now (omega (arith, e, low.0, low.1)) is) ∙ ap (λ z. slice_get cores (z - 1)) e ∙ at)

  -- the next client's inbox is handed on
  pub next_inbox : (net : NetParts) (delivered : ℕ → List Delivery) (done : ℕ) (before after : List P) (given : List Delivery) → IsSound net
      → HaveInboxes kind net delivered done before → done < length net.clients
      → ((core : P) (s : SessionParts) → slice_get before (home_of net (done + 1) - 1) ≡ Some core → Has s (kind.core core).clients → s.client ≡ done + 1 → given ≡ s.inbox)
      → ((core : P) → slice_get before (home_of net (done + 1) - 1) ≡ Some core
      → (next : P) × (kind.core next ≡ without_inbox (done + 1) (kind.core core)) × (after ≡ set before (home_of net (done + 1) - 1) next))
      → (given ≡ delivered (done + 1)) × HaveInboxes kind net delivered (done + 1) after
  next_inbox net delivered done before after given sound have more gives leaves = go (get-at before (home_of net (done + 1) - 1) within)
    where
      within : home_of net (done + 1) - 1 < length before
      within =
          let low = home_low net sound (done + 1) in
          let all = have.all in
          omega (arith, low.0, low.1, all)

      go : At before (home_of net (done + 1) - 1) → (given ≡ delivered (done + 1)) × HaveInboxes kind net delivered (done + 1) after
      go (Found core at) =
          let r = has-map (λ (s : SessionParts). s.client) (kind.core core).clients (done + 1) (have.lives (done + 1) core (omega arith) (omega (arith, more)) at) in
          let left = leaves core at in (
            gives core r.0 at r.1 (sym r.2) ∙ have.inbox (done + 1) core r.0 (omega arith) (omega (arith, more)) at r.1 (sym r.2),
            have_rest net delivered done before after core left.0 have at within left.1 left.2,
          )
