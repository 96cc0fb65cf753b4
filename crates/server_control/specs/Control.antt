-- What contracts see of a control by numbers: its semantics, and what its interfaces hold of the filters and of the advertisements; and what
-- it sends on a link.
use Rattle.std.specs.Prelude.{◌≡◌, ℕ, Bool, true, List, length, filter, slice_get, Some}
use Rattle.std.specs.List.{list_any}
use Rattle.base.specs.Sets.{Has, member, roots}
use Rattle.base_bits.specs.Rows.{Numbers}
use Rattle.filter_constraints.specs.Constraint.{ConstraintParts}
use Rattle.filter_types.specs.Cover.{filter_covers, advert_covers, overlaps}
use Rattle.filter_types.specs.Before.{list_before}
use Rattle.filter_text.specs.declared.semantics.Semantics.{Semantics}
use Rattle.filter_text.specs.declared.semantics.Semantics.TheVariants.{Subscription, Advertisement}
use Rattle.filter_text.specs.Messages.{Lists}
use Rattle.server_stock.specs.Stock.{Stocked, held_from, held_elsewhere}
use Rattle.net_tables.specs.Related.{overlap_rows}

pub record Controlled : Type 0 where
  pub semantics : Semantics
  pub filters : Stocked (List ConstraintParts)
  pub adverts : Stocked (List ConstraintParts)

-- the filters held from an interface, and the advertisements
abbrev pub subs : Controlled → ℕ → Lists
subs control interface = held_from list_before interface control.filters.holdings

abbrev pub advs : Controlled → ℕ → Lists
advs control interface = held_from list_before interface control.adverts.holdings

-- whether a filter is wanted on a link from which these advertisements are held: under advertisement semantics where it overlaps one of them
abbrev pub is_wanted : Semantics → Lists → List ConstraintParts → Bool
is_wanted Subscription adverts f = true
is_wanted Advertisement adverts f = list_any (overlaps f) adverts

-- the filters sent on a link: the covering roots of those that are held from the other interfaces and wanted there
abbrev pub sent_filters : Controlled → ℕ → Lists
sent_filters control link =
    roots filter_covers list_before (filter (is_wanted control.semantics (advs control link)) (held_elsewhere list_before link control.filters.holdings))

-- the advertisements sent on a link: the covering roots of those that are held from the other interfaces
abbrev pub sent_adverts : Controlled → ℕ → Lists
sent_adverts control link = roots advert_covers list_before (held_elsewhere list_before link control.adverts.holdings)

-- what is offered of the filters is what is wanted
abbrev pub Offers : Semantics → Lists → Lists → Lists → Type 0
Offers semantics adverts filters offered = (f : List ConstraintParts) → Has f filters → member list_before f offered ≡ is_wanted semantics adverts f

-- both have the same interfaces and links, the overlaps are known by numbers, and on each link those filters are offered that are wanted there, and all
-- advertisements
pub record IsControl (semantics : Semantics) (overlaps : List Numbers) (filters adverts : Stocked (List ConstraintParts)) (scratch : Numbers) : Type 0 where
  pub interfaces : adverts.interfaces ≡ filters.interfaces
  pub links : length adverts.announced ≡ length filters.announced
  pub rows : overlaps ≡ overlap_rows filters.items adverts.items
  pub width : scratch.width ≡ length filters.items
  pub wanted : (p link : ℕ) (offered : Lists) → slice_get filters.interfaces p ≡ Some link → slice_get filters.offered p ≡ Some offered
      → Offers semantics (held_from list_before link adverts.holdings) filters.items offered
  pub all : (p : ℕ) (offered : Lists) → slice_get adverts.offered p ≡ Some offered → offered ≡ adverts.items
