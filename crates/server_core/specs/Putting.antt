-- How the code fills a ledger with what is given of interfaces; no promise to a caller speaks of it.
use Rattle.std.specs.Prelude.{◌≡◌, ◌≢◌, ◌⊎◌, ◌↔◌, ◌+◌, ℕ, List, map}
use Rattle.base.specs.Sets.{Has, union}
use Rattle.filter_types.specs.Before.{list_before}
use Rattle.filter_constraints.specs.Constraint.{ConstraintParts}
use Rattle.server_spec.specs.declared.control.HeldLink.{HeldLink}
use Rattle.server_spec.specs.Control.{Controlled, subs, advs}
use Rattle.server_core.specs.Ledger.{LedgerParts}

-- an item is given of an interface
abbrev pub IsGiven : (HeldLink → List (List ConstraintParts)) → List HeldLink → ℕ → List ConstraintParts → Type 0
IsGiven of held interface x = (h : HeldLink) × Has h held × (h.link ≡ interface) × Has x (of h)

-- the ledger holds what it held and what is given, and nothing more is installed
pub record ArePut (held : List HeldLink) (old new : LedgerParts) : Type 0 where
  pub net : new.net ≡ old.net
  pub interfaces : new.interfaces ≡ old.interfaces
  pub semantics : new.control.semantics ≡ old.control.semantics
  pub links : new.control.links ≡ old.control.links
  pub installed : new.installed ≡ old.installed
  pub filters : (i : ℕ) (x : List ConstraintParts) → Has x (subs new.control i) ↔ (Has x (subs old.control i) ⊎ IsGiven (λ h. h.filters) held i x)
  pub adverts : (i : ℕ) (x : List ConstraintParts) → Has x (advs new.control i) ↔ (Has x (advs old.control i) ⊎ IsGiven (λ h. h.adverts) held i x)

-- what a control holds from an interface
abbrev pub held_by : Controlled → ℕ → HeldLink
held_by control interface = record { link = interface; filters = subs control interface; adverts = advs control interface }

-- what it holds from clients
abbrev pub held_by_clients : Controlled → List ℕ → List HeldLink
held_by_clients control clients = map (λ n. held_by control (64 + n)) clients

-- an interface gained these filters, which nobody was announced
pub record FiltersPut (interface : ℕ) (add : List (List ConstraintParts)) (old new : LedgerParts) : Type 0 where
  pub net : new.net ≡ old.net
  pub interfaces : new.interfaces ≡ old.interfaces
  pub held : subs new.control interface ≡ union list_before add (subs old.control interface)
  pub others : (i : ℕ) → i ≢ interface → subs new.control i ≡ subs old.control i
  pub offered : new.control.adverts ≡ old.control.adverts
  pub semantics : new.control.semantics ≡ old.control.semantics
  pub links : new.control.links ≡ old.control.links
  pub installed : new.installed ≡ old.installed

-- an interface gained these advertisements, which nobody was announced
pub record AdvertsPut (interface : ℕ) (add : List (List ConstraintParts)) (old new : LedgerParts) : Type 0 where
  pub net : new.net ≡ old.net
  pub interfaces : new.interfaces ≡ old.interfaces
  pub held : advs new.control interface ≡ union list_before add (advs old.control interface)
  pub others : (i : ℕ) → i ≢ interface → advs new.control i ≡ advs old.control i
  pub filters : new.control.filters ≡ old.control.filters
  pub semantics : new.control.semantics ≡ old.control.semantics
  pub links : new.control.links ≡ old.control.links
  pub installed : new.installed ≡ old.installed
