-- What the tables of a run keep of its net.
use Rattle.std.specs.Prelude.{◌≡◌, List}
use Rattle.base_bits.specs.Rows.{Numbers}
use Rattle.filter_text.specs.Messages.{Lists}
use Rattle.net_model.specs.Parts.{NetParts}
use Rattle.net_tables.specs.Known.{known_filters, known_adverts}
use Rattle.net_tables.specs.Related.{overlap_rows}

-- the filters and the advertisements of the net by their numbers, and which overlap
pub record AreTables (net : NetParts) (filters adverts : Lists) (overlaps : List Numbers) : Type 0 where
  pub filters_are : filters ≡ known_filters net.clients
  pub adverts_are : adverts ≡ known_adverts net.clients
  pub overlaps_are : overlaps ≡ overlap_rows (known_filters net.clients) (known_adverts net.clients)
