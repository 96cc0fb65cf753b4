-- Defines what the type of a ledger keeps.
use Rattle.std.specs.Prelude.{◌≡◌, ◌<◌, ◌^◌, ℕ, true, List, length, take}
use Rattle.filter_types.specs.Before.{list_before}
use Rattle.server_spec.specs.Control.{by_adverts}
use Rattle.server_spec.specs.Holdings.{held_from}
use Rattle.net_model.specs.Parts.{NetParts}
use Rattle.net_tables.specs.Known.{known_filters, known_adverts}
use Rattle.match_routes.specs.declared.table_change.TableChange.{TableChange}
use Rattle.server_control.specs.Control.{Controlled as Numbered}
use Rattle.server_core.specs.Pending.{IsPending}
use Rattle.server_core.specs.Showing.{shown}

-- the control is of the net's items and has these links, it is steered by advertisements where the net is or by none, and the changes turn what was
-- installed into what is held
pub record IsLedger (net : NetParts) (links : List ℕ) (control installed : Numbered) (pending : List TableChange) : Type 0 where
  pub links_are : links ≡ take (length control.filters.announced) control.filters.interfaces
  pub semantics : by_adverts control.semantics ≡ true → control.semantics ≡ net.semantics
  pub filter_items : control.filters.items ≡ known_filters net.clients
  pub advert_items : control.adverts.items ≡ known_adverts net.clients
  pub few : length control.filters.interfaces < 2 ^ 32
  pub same_interfaces : control.adverts.interfaces ≡ control.filters.interfaces
  pub same_links : length control.adverts.announced ≡ length control.filters.announced
  pub changes : IsPending (known_filters net.clients) control.filters.interfaces (λ i. held_from list_before i (shown installed).filters)
      (λ i. held_from list_before i (shown control).filters) pending
