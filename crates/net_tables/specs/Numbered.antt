-- Defines commands by numbers, and what they represent.
use Rattle.std.specs.Prelude.{◌≡◌, ℕ, suc, List, [], ◌∷◌, slice_get, Some}
use Rattle.filter_constraints.specs.Constraint.{ConstraintParts}
use Rattle.filter_types.specs.Notice.{Attribute}
use Rattle.filter_text.specs.declared.command.Command.{Command}
use Rattle.filter_text.specs.declared.command.Command.TheVariants as commands
use Rattle.filter_text.specs.Messages.{Lists}
use Rattle.net_model.specs.Parts.{ClientParts, NetParts}
use Rattle.net_model.specs.Sound.{IsSound}
use Rattle.net_tables.specs.declared.numbered.NumberedCommand.{NumberedCommand}
use Rattle.net_tables.specs.declared.numbered.NumberedCommand.TheVariants as numbers
use Rattle.net_tables.specs.Known.{PublicationParts, publication, publishes_after, known_filters, known_adverts, known_publications}

-- filters, advertisements and publications with their places as numbers
pub record Catalogued : Type 0 where
  pub filters : Lists
  pub adverts : Lists
  pub publications : List PublicationParts

-- those of the clients of a net
abbrev pub catalogued : List ClientParts → Catalogued
catalogued clients = record { filters = known_filters clients; adverts = known_adverts clients; publications = known_publications 1 clients }

-- WHAT A NUMBERED COMMAND REPRESENTS, of a client with so many publishes before it, in a phase: the command whose filter, advertisement or publication has
-- the number
abbrev pub RepresentsCommand : Catalogued → ℕ → ℕ → ℕ → NumberedCommand → Command → Type 0
RepresentsCommand known client count phase (numbers.Subscribe i) command =
    (f : List ConstraintParts) × (slice_get known.filters i ≡ Some f) × (command ≡ commands.Subscribe f)
RepresentsCommand known client count phase (numbers.Unsubscribe i) command =
    (f : List ConstraintParts) × (slice_get known.filters i ≡ Some f) × (command ≡ commands.Unsubscribe f)
RepresentsCommand known client count phase (numbers.Advertise i) command =
    (a : List ConstraintParts) × (slice_get known.adverts i ≡ Some a) × (command ≡ commands.Advertise a)
RepresentsCommand known client count phase (numbers.Unadvertise i) command =
    (a : List ConstraintParts) × (slice_get known.adverts i ≡ Some a) × (command ≡ commands.Unadvertise a)
RepresentsCommand known client count phase (numbers.Publish i) command =
    (n : List Attribute) × (slice_get known.publications i ≡ Some (publication client (suc count) phase n)) × (command ≡ commands.Publish n)

-- the steps of a client by numbers, each with its phase as in the script, represent the script
abbrev pub AreNumbered : Catalogued → ℕ → ℕ → List (ℕ × NumberedCommand) → List (ℕ × Command) → Type 0
AreNumbered known client count [] [] = Unit {0}
AreNumbered known client count [] (step ∷ steps) = ⊥
AreNumbered known client count (n ∷ ns) [] = ⊥
AreNumbered known client count (n ∷ ns) (step ∷ steps) =
    (n.0 ≡ step.0) × RepresentsCommand known client count step.0 n.1 step.1 × AreNumbered known client (publishes_after count step.1) ns steps

-- so do those of clients that are numbered on from one
abbrev pub AllNumbered : Catalogued → ℕ → List (List (ℕ × NumberedCommand)) → List ClientParts → Type 0
AllNumbered known number [] [] = Unit {0}
AllNumbered known number [] (client ∷ clients) = ⊥
AllNumbered known number (ns ∷ rest) [] = ⊥
AllNumbered known number (ns ∷ rest) (client ∷ clients) = AreNumbered known number 0 ns client.script × AllNumbered known (suc number) rest clients

-- what a catalogue keeps of a net
pub record IsCatalogue (net : NetParts) (known : Catalogued) (numbered : List (List (ℕ × NumberedCommand))) : Type 0 where
  pub sound : IsSound net
  pub catalogued : known ≡ catalogued net.clients
  pub scripts : AllNumbered known 1 numbered net.clients
