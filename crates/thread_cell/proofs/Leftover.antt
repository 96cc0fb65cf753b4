-- What is left of commands at a server, by the places of a net's clients.
use Rattle.std.proofs.Common.{◌≡◌, ◌⊎◌, inl, inr, ℕ, zero, suc, ◌<◌, ◌≤◌, List, length, refl, sym, ap, subst, ◌∙◌, arith}
use Rattle.base.specs.Sets.{Has}
use Rattle.net_model.specs.Parts.{NetParts, EntryParts}
use Rattle.net_model.specs.Nets.{clients_of}
use Rattle.server_spec.specs.Session.{SessionParts}
use Rattle.server_core.specs.Clients.{client_numbers}
use Rattle.thread_cell.specs.declared.held.ServerInHand.{ServerInHand}
use Rattle.thread_cell.specs.declared.held.Root.{Root}
use Rattle.thread_cell.specs.Cell.{IsKept}
use Rattle.thread_cell.specs.Turns.{HasCommand}
use Rattle.thread_cell.specs.Together.{HasNoCommand}
use Rattle.thread_cell.proofs.Housed.{home-at}
use Rattle.thread_cell.proofs.Places.{below-found}
use Rattle.thread_cell.proofs.Keeping.{replayed}
use Rattle.base.proofs.Sets.{map-has}

-- where no client at a place of the net has a command left, none is left
pub none-left : (net : NetParts) (root : Root) (journal : List EntryParts) (held : ServerInHand) (n : ℕ) → IsKept net root journal held → length net.clients ≤ n
    → ((place : ℕ) → place < n → Has (suc place) (clients_of net root.server) → HasCommand held.core (suc place) root.phase → ⊥) → HasNoCommand held.core root.phase
none-left net root journal held n kept all none client h =
    let here : clients_of net root.server ≡ client_numbers held.core.clients = ap (clients_of net) (sym kept.number) ∙ (replayed net root journal held kept).stands.state.clients in
    let lives : Has client (clients_of net root.server) = subst (Has client) (sym here) (subst (λ k. Has k (client_numbers held.core.clients)) h.2 (map-has (λ (s : SessionParts). s.client) held.core.clients h.0 h.1)) in
    let a = home-at net root.server client lives in
    let lt = below-found a.0 net.clients a.1 a.3 in
    none a.0 (omega (arith, lt, all)) (subst (λ k. Has k (clients_of net root.server)) a.2 lives) (subst (λ k. HasCommand held.core k root.phase) a.2 h)

-- one place more
pub place-more : (P : ℕ → Type 0) (n : ℕ) → ((k : ℕ) → k < n → P k) → P n → (k : ℕ) → k < suc n → P k
place-more P n before here k lt = go (less-or k n lt)
  where
    less-or : (p n : ℕ) → p < suc n → (p < n) ⊎ (p ≡ n)
    less-or zero zero lt = inr refl
    less-or zero (suc n) lt = inl (omega arith)
    less-or (suc p) zero lt = absurd (omega (arith, lt))
    less-or (suc p) (suc n) lt = deep (less-or p n (omega (arith, lt)))
      where
        deep : (p < n) ⊎ (p ≡ n) → (suc p < suc n) ⊎ (suc p ≡ suc n)
        deep (inl l) = inl (omega (arith, l))
        deep (inr q) = inr (ap suc q)

    go : (k < n) ⊎ (k ≡ n) → P k
    go (inl l) = before k l
    go (inr q) = subst P (sym q) here
