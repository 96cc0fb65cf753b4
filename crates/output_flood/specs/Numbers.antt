-- How the code follows a client's filters by their numbers; no promise to a caller speaks of it.
use Rattle.std.specs.Prelude.{◌≡◌, ℕ, ◌<◌, ◌≤◌, not, nat_lt, List, [], ◌∷◌, length, filter, take, slice_get, Some}
use Rattle.base.specs.Sets.{Has, put_in}
use Rattle.filter_constraints.specs.Constraint.{ConstraintParts}
use Rattle.filter_types.specs.Cover.{filter_covers}
use Rattle.base_order.specs.Order.{covers_at}
use Rattle.filter_text.specs.Messages.{Lists}
use Rattle.net_tables.specs.declared.numbered.NumberedCommand.{NumberedCommand}
use Rattle.net_tables.specs.declared.numbered.NumberedCommand.TheVariants as numbers
use Rattle.output_flood.specs.Held.{before, within}
use Rattle.output_flood.specs.declared.filters.ClientFilters.{ClientFilters}

-- a script by numbers
abbrev pub Steps : Type 0
Steps = List (ℕ × NumberedCommand)

-- the numbers have exactly the filters of a list
pub record Shows (known : Lists) (members : List ℕ) (filters : Lists) : Type 0 where
  pub sound : (i : ℕ) → Has i members → (f : List ConstraintParts) × (slice_get known i ≡ Some f) × Has f filters
  pub whole : (f : List ConstraintParts) → Has f filters → (i : ℕ) × (slice_get known i ≡ Some f) × Has i members

-- the number of a filter is there
abbrev pub IsNumber : ℕ → NumberedCommand → Type 0
IsNumber count (numbers.Subscribe i) = i < count
IsNumber count (numbers.Unsubscribe i) = i < count
IsNumber count (numbers.Advertise i) = Unit {0}
IsNumber count (numbers.Unadvertise i) = Unit {0}
IsNumber count (numbers.Publish i) = Unit {0}

abbrev pub AreNumbers : ℕ → Steps → Type 0
AreNumbers count steps = (step : ℕ × NumberedCommand) → Has step steps → IsNumber count step.1

-- with those that commands add
abbrev pub adding_step : List ℕ → NumberedCommand → List ℕ
adding_step xs (numbers.Subscribe i) = put_in nat_lt i xs
adding_step xs (numbers.Unsubscribe i) = xs
adding_step xs (numbers.Advertise i) = xs
adding_step xs (numbers.Unadvertise i) = xs
adding_step xs (numbers.Publish i) = xs

abbrev pub numbers_added : List ℕ → Steps → List ℕ
numbers_added xs [] = xs
numbers_added xs (step ∷ steps) = numbers_added (adding_step xs step.1) steps

module _ (known : Lists) where
  -- those that a filter does not cover
  abbrev pub uncovered : ℕ → List ℕ → List ℕ
  uncovered i xs = filter (λ k. not (covers_at filter_covers known i k)) xs

  -- a client's filters after one command
  abbrev pub number_step : List ℕ → NumberedCommand → List ℕ
  number_step xs (numbers.Subscribe i) = put_in nat_lt i xs
  number_step xs (numbers.Unsubscribe i) = uncovered i xs
  number_step xs (numbers.Advertise i) = xs
  number_step xs (numbers.Unadvertise i) = xs
  number_step xs (numbers.Publish i) = xs

  abbrev pub numbers_held : List ℕ → Steps → List ℕ
  numbers_held xs [] = xs
  numbers_held xs (step ∷ steps) = numbers_held (number_step xs step.1) steps

  -- those of them that no command takes away
  abbrev pub lasting_step : List ℕ → NumberedCommand → List ℕ
  lasting_step xs (numbers.Subscribe i) = xs
  lasting_step xs (numbers.Unsubscribe i) = uncovered i xs
  lasting_step xs (numbers.Advertise i) = xs
  lasting_step xs (numbers.Unadvertise i) = xs
  lasting_step xs (numbers.Publish i) = xs

  abbrev pub numbers_lasting : List ℕ → Steps → List ℕ
  numbers_lasting xs [] = xs
  numbers_lasting xs (step ∷ steps) = numbers_lasting (lasting_step xs step.1) steps

  -- a client's filters at every moment of a phase, and those at some moment of it
  abbrev pub every_number : ℕ → Steps → List ℕ
  every_number phase steps = numbers_lasting (numbers_held [] (before phase steps)) (within phase steps)

  abbrev pub ever_number : ℕ → Steps → List ℕ
  ever_number phase steps = numbers_added (numbers_held [] (before phase steps)) (within phase steps)

  -- how far a client's script is gone through
  pub record IsAt (steps : Steps) (client : ClientFilters) : Type 0 where
    pub within : client.done ≤ length steps
    pub held : client.now.members ≡ numbers_held [] (take client.done steps)

-- the rows are as wide as there are filters
pub record IsSized (count : ℕ) (client : ClientFilters) : Type 0 where
  pub now : client.now.width ≡ count
  pub every : client.every.width ≡ count
  pub ever : client.ever.width ≡ count
