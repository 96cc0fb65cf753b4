-- What the tables of a run have of its publications.
use Rattle.std.specs.Prelude.{◌≡◌, ℕ, List, [], length, map, slice_index_or}
use Rattle.filter_types.specs.Notice.{AreValues}
use Rattle.base_bits.specs.Rows.{Numbers}
use Rattle.filter_text.specs.Deliveries.{Delivery}
use Rattle.filter_text.specs.Messages.{Lists}
use Rattle.filter_text.specs.NoticeText.{notice_text}
use Rattle.net_inbox.specs.Inbox.{delivery}
use Rattle.net_model.specs.Parts.{ClientParts, NetParts}
use Rattle.match_filters.specs.Matching.{matched}
use Rattle.net_tables.specs.Known.{PublicationParts, publication, known_filters, known_publications}

-- the publication of a net with a number, which is its place among all
abbrev pub publication_at : NetParts → ℕ → PublicationParts
publication_at net number = slice_index_or (known_publications 1 net.clients) number (publication 0 0 0 [])

-- what a publication is to those who receive it: its id, and the text of its notice
abbrev pub delivery_of : PublicationParts → Delivery
delivery_of known = delivery known.id (notice_text known.notice)

-- THE DELIVERIES OF A NET, by the numbers of its publications
abbrev pub known_deliveries : List ClientParts → List Delivery
known_deliveries clients = map delivery_of (known_publications 1 clients)

-- which of these filters a publication matches, by their numbers
abbrev pub matched_row : Lists → PublicationParts → Numbers
matched_row filters known = record { width = length filters; members = matched known.notice filters }

-- what is found of a publication of the net: its values are in range, and these are the filters that it matches
pub record IsFound (net : NetParts) (known : PublicationParts) (row : Numbers) : Type 0 where
  pub values : AreValues known.notice
  pub matched : row ≡ matched_row (known_filters net.clients) known

-- what is found of all publications of the net, in the order of their numbers
pub record AreFound (net : NetParts) (deliveries : List Delivery) (rows : List Numbers) : Type 0 where
  pub deliveries_are : deliveries ≡ known_deliveries net.clients
  pub rows_are : rows ≡ map (matched_row (known_filters net.clients)) (known_publications 1 net.clients)
