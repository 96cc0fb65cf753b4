-- What contracts inside this crate see: rows of numbers by link, and what they are to represent.
use Rattle.std.specs.Prelude.{◌≡◌, ℕ, ◌+◌, ◌*◌, ◌⊎◌, ◌↔◌, Bool, true, List, [], length}
use Rattle.std.proofs.Math.ListN.{get_or}
use Rattle.base.specs.Sets.{Has, IsRising, roots}
use Rattle.base_bits.specs.Rows.{Numbers}
use Rattle.filter_constraints.specs.Constraint.{ConstraintParts}
use Rattle.base_order.specs.Order.{picked}
use Rattle.filter_text.specs.Messages.{Lists}
use Rattle.base_tree.specs.Tree.{Topology, links_of}
use Rattle.law_routing.specs.Net.{Net}
use Rattle.law_routing.specs.Flow.{flow, flow_ad}
use Rattle.net_model.specs.Real.{real}
use Rattle.net_model.specs.Parts.{NetParts}
use Rattle.net_tables.specs.Known.{known_filters, known_adverts}
use Rattle.server_spec.specs.declared.home.Home.{Home}
use Rattle.server_spec.specs.Flow.{IsNetOn, IsUnionOfClients, filters_of, adverts_of}
use Rattle.server_spec.specs.Rows.{IsOrder}
use Rattle.server_control.specs.Held.{NetHeld, net_held}
use Rattle.server_flow.specs.Homes.{NetHome, AreHomesIn}

-- WHAT ROWS ARE MADE OVER: one home for each server, all in a run of the net, and all links of the tree, each behind those that its row is made of
pub record IsFlowing (known : NetParts) (tree : Topology) (homes : List NetHome) (order : List (ℕ × ℕ)) : Type 0 where
  pub one_each : length homes ≡ tree.count
  pub of_net : AreHomesIn known homes
  pub ordered : IsOrder tree order
  pub whole : (a b : ℕ) → Has b (links_of tree a) → Has (a, b) order

-- no numbers
abbrev pub no_numbers : Numbers
no_numbers = record { width = 0; members = [] }

-- the row of a table for two servers
abbrev pub row_at : List Numbers → ℕ → ℕ → Numbers
row_at table at of = get_or table (at * 65 + of) no_numbers

-- the row of each link has the width
abbrev pub AreWideOn : Topology → ℕ → List Numbers → Type 0
AreWideOn tree width table = (a b : ℕ) → Has b (links_of tree a) → (row_at table a b).width ≡ width

-- a number of b's own, or of what b holds of a neighbour but a
abbrev pub IsNeeded : Topology → List ℕ → List Numbers → ℕ → ℕ → ℕ → Type 0
IsNeeded tree own table a b k = Has k own ⊎ ((c : ℕ) × Has c (links_of tree b) × (c ≡ a → ⊥) × Has k (row_at table b c).members)

module _ {T : Type 0} where
  -- an item of b's own, or of what b holds of a neighbour but a
  abbrev pub IsNeededItem : Topology → List T → List T → List Numbers → ℕ → ℕ → T → Type 0
  IsNeededItem tree items own table a b x =
      Has x own ⊎ ((c : ℕ) × Has c (links_of tree b) × (c ≡ a → ⊥) × Has x (picked items (row_at table b c).members))

  -- the numbers are those of the roots of the set of what is due
  abbrev pub PicksRootsOf : (T → T → Bool) → (T → T → Bool) → List T → List ℕ → (T → Type 0) → Type 0
  PicksRootsOf covers before items numbers IsDue =
      (xs : List T) → IsRising before xs → ((x : T) → Has x xs ↔ IsDue x) → picked items numbers ≡ roots covers before xs

-- an item that is due, and wanted
abbrev pub IsWantedToo : (List ConstraintParts → Type 0) → (List ConstraintParts → Bool) → List ConstraintParts → Type 0
IsWantedToo IsDue wanted x = IsDue x × (wanted x ≡ true)

-- for some links, the row is of the advertisements that flow, whatever the net
pub record AdvertsFor (known : NetParts) (tree : Topology) (homes : List Home) (linked : ℕ → ℕ → Type 0) (table : List Numbers) : Type 0 where
  pub wide : (a b : ℕ) → linked a b → (row_at table a b).width ≡ length (known_adverts known.clients)
  pub flows : (net : Net real) (sets : ℕ → ℕ → Lists) → IsNetOn known.semantics tree net → IsUnionOfClients net sets (adverts_of homes)
      → (a b : ℕ) → linked a b → picked (known_adverts known.clients) (row_at table a b).members ≡ flow_ad real net sets a b

-- for all links
abbrev pub AreAdverts : NetParts → Topology → List Home → List Numbers → Type 0
AreAdverts known tree homes table = AdvertsFor known tree homes (λ a b. Has b (links_of tree a)) table

-- for some links, the row is of the filters that flow, whatever the net
pub record FiltersFor (known : NetParts) (tree : Topology) (homes : List Home) (linked : ℕ → ℕ → Type 0) (table : List Numbers) : Type 0 where
  pub wide : (a b : ℕ) → linked a b → (row_at table a b).width ≡ length (known_filters known.clients)
  pub flows : (net : Net real) (sets ad_sets : ℕ → ℕ → Lists) → IsNetOn known.semantics tree net
      → IsUnionOfClients net sets (filters_of homes) → IsUnionOfClients net ad_sets (adverts_of homes)
      → (a b : ℕ) → linked a b → picked (known_filters known.clients) (row_at table a b).members ≡ flow real net sets ad_sets a b

-- for all links
abbrev pub AreFilters : NetParts → Topology → List Home → List Numbers → Type 0
AreFilters known tree homes table = FiltersFor known tree homes (λ a b. Has b (links_of tree a)) table

-- a link with the numbers of its rows
abbrev pub RepresentsHeld : NetParts → List Numbers → List Numbers → ℕ → NetHeld → Type 0
RepresentsHeld known table offers at held =
    held ≡ net_held known held.held.link (row_at table at held.held.link).members (row_at offers at held.held.link).members
