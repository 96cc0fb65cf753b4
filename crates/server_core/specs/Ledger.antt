-- What is held, installed and pending at a server, and what a change of it is.
use Rattle.std.specs.Prelude.{◌≡◌, ◌≢◌, ℕ, ◌||◌, not, true, false, List, []}
use Rattle.filter_constraints.specs.Constraint.{ConstraintParts}
use Rattle.filter_types.specs.Before.{list_before}
use Rattle.base.specs.Sets.{minus, union, same_list}
use Rattle.server_spec.specs.Holdings.{Holding}
use Rattle.server_spec.specs.Control.{Controlled, by_adverts, subs, advs, changes_to}
use Rattle.net_model.specs.Parts.{NetParts}
use Rattle.match_routes.specs.declared.table_change.TableChange.{TableChange}
use Rattle.server_message.specs.Parts.{SendingParts, sent_by}
use Rattle.server_core.specs.Pending.{is_some_there}

-- the net whose run it is in, the server's interfaces, what is held from them, what of it was installed, and what changed since
pub record LedgerParts : Type 0 where
  pub net : NetParts
  pub interfaces : List ℕ
  pub control : Controlled
  pub installed : List (Holding (List ConstraintParts))
  pub pending : List TableChange

-- an interface lost these filters and gained those: what it and the others hold then, whether something is pending, and the messages sent
pub record FiltersSet (interface : ℕ) (out add : List (List ConstraintParts)) (old new : LedgerParts) (sent : List SendingParts) : Type 0 where
  pub net : new.net ≡ old.net
  pub held : subs new.control interface ≡ union list_before add (minus list_before (subs old.control interface) out)
  pub others : (i : ℕ) → i ≢ interface → subs new.control i ≡ subs old.control i
  pub offered : new.control.adverts ≡ old.control.adverts
  pub semantics : new.control.semantics ≡ old.control.semantics
  pub links : new.control.links ≡ old.control.links
  pub installed : new.installed ≡ old.installed
  pub pending : is_some_there new.pending ≡ is_some_there old.pending || not (same_list list_before (subs old.control interface) (subs new.control interface))
  pub sent_are : sent ≡ sent_by old.net (changes_to old.control new.control) old.control.links

-- an interface lost these advertisements and gained those
pub record AdvertsSet (interface : ℕ) (out add : List (List ConstraintParts)) (old new : LedgerParts) (sent : List SendingParts) : Type 0 where
  pub net : new.net ≡ old.net
  pub held : advs new.control interface ≡ union list_before add (minus list_before (advs old.control interface) out)
  pub others : (i : ℕ) → i ≢ interface → advs new.control i ≡ advs old.control i
  pub filters : new.control.filters ≡ old.control.filters
  pub semantics : new.control.semantics ≡ old.control.semantics
  pub links : new.control.links ≡ old.control.links
  pub installed : new.installed ≡ old.installed
  pub pending : new.pending ≡ old.pending
  pub silent : by_adverts old.control.semantics ≡ false → sent ≡ []
  pub sent_are : by_adverts old.control.semantics ≡ true → sent ≡ sent_by old.net (changes_to old.control new.control) old.control.links
