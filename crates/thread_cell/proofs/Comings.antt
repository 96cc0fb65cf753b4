-- The earlier of two phases, and what is from it on.
use Rattle.std.specs.Prelude.{IfSome, IfNone}
use Rattle.std.proofs.Common.{◌≡◌, ◌⊎◌, inl, inr, ℕ, suc, ◌<◌, ◌≤◌, List, length, Option, Some, None, slice_get, sym, ap, subst, ◌∙◌, arith}
use Rattle.std.proofs.lemmas.Option.{same_Some}
use Rattle.net_model.specs.Parts.{ClientParts, NetParts}
use Rattle.net_model.specs.Nets.{clients_of}
use Rattle.server_spec.specs.Session.{SessionParts}
use Rattle.server_core.specs.Core.{CoreParts}
use Rattle.server_core.specs.Clients.{client_numbers}
use Rattle.thread_cell.specs.Cell.{CellParts, HasNoneBelow, IsPast}
use Rattle.thread_cell.specs.Entered.{AreThrough}
use Rattle.thread_cell.specs.Turns.{HasCommand}
use Rattle.thread_cell.specs.Coming.{IsNoLater, IsFrom, AreFrom, IsOfSome, HaveCommand}
use Rattle.thread_cell.proofs.Housed.{all-past}

past-less : (low high client : ℕ) (sessions : List SessionParts) → low ≤ high → IsPast high client sessions → IsPast low client sessions
past-less low high client sessions le past s c h is e = let x = past s c h is e in omega (arith, x, le)

none-less : (low high : ℕ) (sessions : List SessionParts) → low ≤ high → HasNoneBelow high sessions → HasNoneBelow low sessions
none-less low high sessions le none s c h e = let x = none s c h e in omega (arith, x, le)

-- what is from a phase on is from an earlier one on
pub from-earlier : (one other : Option ℕ) (client : ℕ) (sessions : List SessionParts) → IsNoLater one other → IsFrom other client sessions → IsFrom one client sessions
from-earlier None None client sessions later from = from
from-earlier (Some p) None client sessions later from = from p
from-earlier None (Some q) client sessions later from = absurd later
from-earlier (Some p) (Some q) client sessions later from = past-less p q client sessions later from

pub are-earlier : (one other : Option ℕ) (sessions : List SessionParts) → IsNoLater one other → AreFrom other sessions → AreFrom one sessions
are-earlier None None sessions later from = from
are-earlier (Some p) None sessions later from = from p
are-earlier None (Some q) sessions later from = absurd later
are-earlier (Some p) (Some q) sessions later from = none-less p q sessions later from

-- where each client of a server is from a phase on, all are
pub all-from : (net : NetParts) (server n : ℕ) (sessions : List SessionParts) (least : Option ℕ) → clients_of net server ≡ client_numbers sessions → length net.clients ≤ n
    → ((place : ℕ) (client : ClientParts) → place < n → slice_get net.clients place ≡ Some client → client.home ≡ server → IsFrom least (suc place) sessions) → AreFrom least sessions
all-from net server n sessions None same all from = λ phase. all-past net server phase n sessions same all (λ place client lt e h. from place client lt e h phase)
all-from net server n sessions (Some phase) same all from = all-past net server phase n sessions same all from

-- one place more: who is at home there is from a phase on, or nobody is
pub from-more : (P : ℕ → Type 0) (net : NetParts) (server n : ℕ) (client : ClientParts) → slice_get net.clients n ≡ Some client
    → ((place : ℕ) (c : ClientParts) → place < n → slice_get net.clients place ≡ Some c → c.home ≡ server → P place) → (client.home ≡ server → P n)
    → (place : ℕ) (c : ClientParts) → place < suc n → slice_get net.clients place ≡ Some c → c.home ≡ server → P place
from-more P net server n client at before here place c lt e h = go (less-or place n lt)
  where
    less-or : (p n : ℕ) → p < suc n → (p < n) ⊎ (p ≡ n)
    less-or p n lt = grind (arith, lt)

    go : (place < n) ⊎ (place ≡ n) → P place
    go (inl l) = before place c l e h
    go (inr q) = subst P (sym q) (here (ap (λ (w : ClientParts). w.home) (same_Some client c (sym at ∙ ap (slice_get net.clients) (sym q) ∙ e)) ∙ h))

pub some-either : (core : CoreParts) (r a b : Option ℕ) → (r ≡ a) ⊎ (r ≡ b) → IsOfSome a core → IsOfSome b core → IsOfSome r core
some-either core r a b (inl e) x y = subst (λ o. IsOfSome o core) (sym e) x
some-either core r a b (inr e) x y = subst (λ o. IsOfSome o core) (sym e) y

-- what is from a least phase on, of the clients at the first places
abbrev pub AreFromLeast : NetParts → ℕ → CoreParts → ℕ → Option ℕ → Type 0
AreFromLeast net server core n least =
    ((place : ℕ) (client : ClientParts) → place < n → slice_get net.clients place ≡ Some client → client.home ≡ server → IsFrom least (suc place) core.clients)
    × IsOfSome least core

own-some : (core : CoreParts) (client : ℕ) (next : Option ℕ) → IfSome next (λ phase. HasCommand core client phase) → IsOfSome next core
own-some core client None own = tt
own-some core client (Some phase) own = (client, own)

-- one client more
pub least-more : (net : NetParts) (server : ℕ) (core : CoreParts) (n : ℕ) (client : ClientParts) (old next new : Option ℕ) → slice_get net.clients n ≡ Some client
    → AreFromLeast net server core n old → IsNoLater new old → IsNoLater new next → (new ≡ old) ⊎ (new ≡ next) → IsFrom next (suc n) core.clients → IfSome next (λ phase. HasCommand core (suc n) phase)
    → AreFromLeast net server core (suc n) new
least-more net server core n client old next new at before one other either from own = (
  from-more (λ k. IsFrom new (suc k) core.clients) net server n client at
      (λ k c lt e h. from-earlier new old (suc k) core.clients one (before.0 k c lt e h)) (λ h. from-earlier new next (suc n) core.clients other from),
  some-either core new old next either before.1 (own-some core (suc n) next own),
)

-- one that lives elsewhere
pub least-same : (net : NetParts) (server : ℕ) (core : CoreParts) (n : ℕ) (client : ClientParts) (least : Option ℕ) → slice_get net.clients n ≡ Some client
    → AreFromLeast net server core n least → (client.home ≡ server → ⊥) → AreFromLeast net server core (suc n) least
least-same net server core n client least at before other =
    (from-more (λ k. IsFrom least (suc k) core.clients) net server n client at before.0 (λ h. absurd (other h)), before.1)

-- one server more
pub servers-more : (n : ℕ) (cells : List CellParts) (cell : CellParts) (old next new : Option ℕ) → slice_get cells n ≡ Some cell
    → ((k : ℕ) (c : CellParts) → k < n → slice_get cells k ≡ Some c → AreFrom old c.held.core.clients) → IfSome old (HaveCommand cells)
    → IsNoLater new old → IsNoLater new next → (new ≡ old) ⊎ (new ≡ next) → AreFrom next cell.held.core.clients → IsOfSome next cell.held.core
    → ((k : ℕ) (c : CellParts) → k < suc n → slice_get cells k ≡ Some c → AreFrom new c.held.core.clients) × IfSome new (HaveCommand cells)
servers-more n cells cell old next new at before some one other either from own = (
  λ k c lt e. go k c e (less-or k n lt),
  some-of either,
)
  where
    less-or : (p n : ℕ) → p < suc n → (p < n) ⊎ (p ≡ n)
    less-or p n lt = grind (arith, lt)

    go : (k : ℕ) (c : CellParts) → slice_get cells k ≡ Some c → (k < n) ⊎ (k ≡ n) → AreFrom new c.held.core.clients
    go k c e (inl l) = are-earlier new old c.held.core.clients one (before k c l e)
    go k c e (inr q) = subst (λ (x : CellParts). AreFrom new x.held.core.clients) (same_Some cell c (sym at ∙ ap (slice_get cells) (sym q) ∙ e)) (are-earlier new next cell.held.core.clients other from)

    have : (o : Option ℕ) → IsOfSome o cell.held.core → IfSome o (HaveCommand cells)
    have None h = tt
    have (Some phase) h = record { place = n; cell = cell; at = at; client = h.0; command = h.1 }

    some-of : (new ≡ old) ⊎ (new ≡ next) → IfSome new (HaveCommand cells)
    some-of (inl e) = subst (λ o. IfSome o (HaveCommand cells)) (sym e) some
    some-of (inr e) = subst (λ o. IfSome o (HaveCommand cells)) (sym e) (have next own)

pub none-all : (cells : List CellParts) (least : Option ℕ) → ((k : ℕ) (c : CellParts) → slice_get cells k ≡ Some c → AreFrom least c.held.core.clients)
    → IfNone least ((phase : ℕ) → AreThrough phase cells) × IfSome least (λ phase. AreThrough phase cells)
none-all cells None from = (λ phase k c e. from k c e phase, tt)
none-all cells (Some phase) from = (tt, λ k c e. from k c e)
