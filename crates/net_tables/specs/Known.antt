-- What the scripts of a net name: its filters and its advertisements, and what its clients publish.
use Rattle.std.specs.Prelude.{ℕ, suc, List, [], ◌∷◌, ◌++◌}
use Rattle.std.specs.List.{flat_map}
use Rattle.base.specs.Sets.{set_of}
use Rattle.filter_types.specs.Before.{list_before}
use Rattle.filter_types.specs.Notice.{Attribute}
use Rattle.filter_text.specs.declared.command.Command.{Command}
use Rattle.filter_text.specs.declared.command.Command.TheVariants as commands
use Rattle.filter_text.specs.declared.id.Id.{Id}
use Rattle.filter_text.specs.Messages.{Lists}
use Rattle.net_model.specs.Parts.{ClientParts}

-- the filter of a command: one that it adds or withdraws by
abbrev pub filters_in : Command → Lists
filters_in (commands.Subscribe f) = f ∷ []
filters_in (commands.Unsubscribe f) = f ∷ []
filters_in (commands.Advertise a) = []
filters_in (commands.Unadvertise a) = []
filters_in (commands.Publish n) = []

-- its advertisement
abbrev pub adverts_in : Command → Lists
adverts_in (commands.Subscribe f) = []
adverts_in (commands.Unsubscribe f) = []
adverts_in (commands.Advertise a) = a ∷ []
adverts_in (commands.Unadvertise a) = a ∷ []
adverts_in (commands.Publish n) = []

-- what a script names
abbrev pub script_filters : List (ℕ × Command) → Lists
script_filters script = flat_map (λ step. filters_in step.1) script

abbrev pub script_adverts : List (ℕ × Command) → Lists
script_adverts script = flat_map (λ step. adverts_in step.1) script

-- THE FILTERS OF A NET: all that its scripts name, each once in canonical order; a filter's place is its number
unfoldable pub known_filters : List ClientParts → Lists
known_filters clients = set_of list_before (flat_map (λ client. script_filters client.script) clients)

-- THE ADVERTISEMENTS OF A NET, likewise
unfoldable pub known_adverts : List ClientParts → Lists
known_adverts clients = set_of list_before (flat_map (λ client. script_adverts client.script) clients)

-- a publication: its publisher with its ordinal among the publisher's publishes, its phase and its notice
pub record PublicationParts : Type 0 where
  pub id : Id
  pub phase : ℕ
  pub notice : List Attribute

abbrev pub publication : ℕ → ℕ → ℕ → List Attribute → PublicationParts
publication publisher ordinal phase notice = record { id = record { publisher = publisher; ordinal = ordinal }; phase = phase; notice = notice }

-- so many publishes are behind after a command
abbrev pub publishes_after : ℕ → Command → ℕ
publishes_after count (commands.Subscribe f) = count
publishes_after count (commands.Unsubscribe f) = count
publishes_after count (commands.Advertise a) = count
publishes_after count (commands.Unadvertise a) = count
publishes_after count (commands.Publish n) = suc count

-- what a command publishes, with so many publishes of the client before it
abbrev pub published_by : ℕ → ℕ → ℕ → Command → List PublicationParts
published_by client count phase (commands.Subscribe f) = []
published_by client count phase (commands.Unsubscribe f) = []
published_by client count phase (commands.Advertise a) = []
published_by client count phase (commands.Unadvertise a) = []
published_by client count phase (commands.Publish n) = publication client (suc count) phase n ∷ []

abbrev pub script_publications : ℕ → ℕ → List (ℕ × Command) → List PublicationParts
script_publications client count [] = []
script_publications client count (step ∷ steps) = published_by client count step.0 step.1 ++ script_publications client (publishes_after count step.1) steps

-- THE PUBLICATIONS OF A NET, refused ones too, by publisher and ordinal; clients are numbered on from the first number
abbrev pub known_publications : ℕ → List ClientParts → List PublicationParts
known_publications number [] = []
known_publications number (client ∷ clients) = script_publications number 0 client.script ++ known_publications (suc number) clients
