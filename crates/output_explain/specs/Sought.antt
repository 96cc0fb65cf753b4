-- How the code lists the prospects of a client; no promise to a caller speaks of it.
use Rattle.std.specs.Prelude.{ℕ, suc, Bool, true, false, ◌&&◌, ◌==◌, cond, List, [], ◌∷◌, ◌++◌, Option, Some, None}
use Rattle.std.specs.declared.cmp.Ordering.{Ordering}
use Rattle.std.specs.declared.cmp.Ordering.TheVariants as orders
use Rattle.filter_types.specs.Notice.{Attribute}
use Rattle.filter_text.specs.Messages.{Lists}
use Rattle.filter_text.specs.declared.id.Id.{Id}
use Rattle.filter_text.specs.declared.command.Command.{Command}
use Rattle.filter_text.specs.declared.command.Command.TheVariants as commands
use Rattle.net_model.specs.Parts.{ClientParts}
use Rattle.output_flood.specs.declared.owed.OwedRow.{OwedRow}
use Rattle.output_flood.specs.Flooding.{id_before}
use Rattle.output_flood.specs.Held.{Script}
use Rattle.output_flood.specs.Publications.{is_met}
use Rattle.output_explain.specs.declared.prospect.Chance.{Chance}
use Rattle.output_explain.specs.declared.prospect.Chance.TheVariants as chances
use Rattle.output_explain.specs.declared.prospect.Prospect.{Prospect}
use Rattle.output_explain.specs.Asked.{publishes_after}

-- the same publication
abbrev pub same_id : Id → Id → Bool
same_id a b = (a.publisher == b.publisher) && (a.ordinal == b.ordinal)

-- the order of ids
abbrev pub id_cmp : Id → Id → Ordering
id_cmp a b = cond (id_before a b) orders.Less (cond (same_id a b) orders.Equal orders.Greater)

-- what the rows of flooding tell of a publication: whether it is owed, or nothing where it isn't allowed
abbrev pub told_of : List OwedRow → Id → Option Bool
told_of [] id = None
told_of (row ∷ rows) id = cond (same_id row.id id) (Some row.must) (told_of rows id)

-- the chance of a publication, by that and by whether a filter matches that the client ever has
abbrev pub chance_by : Option Bool → Bool → Option Chance
chance_by (Some true) matched = Some chances.Owed
chance_by (Some false) matched = Some chances.May
chance_by None true = Some chances.Near
chance_by None false = None

abbrev pub chance_of : List OwedRow → Lists → Id → List Attribute → Option Chance
chance_of rows filters id notice = chance_by (told_of rows id) (is_met filters notice)

-- the prospect, where there is a chance
abbrev pub prospect_by : Id → List Attribute → Option Chance → List Prospect
prospect_by id notice None = []
prospect_by id notice (Some chance) = record { id = id; notice = notice; chance = chance } ∷ []

module _ (chance : Id → List Attribute → Option Chance) where
  -- what a command of a client adds, behind so many publishes
  abbrev pub prospect_of : ℕ → ℕ → Command → List Prospect
  prospect_of publisher count (commands.Subscribe f) = []
  prospect_of publisher count (commands.Unsubscribe f) = []
  prospect_of publisher count (commands.Advertise a) = []
  prospect_of publisher count (commands.Unadvertise a) = []
  prospect_of publisher count (commands.Publish n) =
      prospect_by (record { publisher = publisher; ordinal = suc count }) n (chance (record { publisher = publisher; ordinal = suc count }) n)

  -- what its commands add
  abbrev pub prospects_from : ℕ → ℕ → Script → List Prospect
  prospects_from publisher count [] = []
  prospects_from publisher count (step ∷ steps) =
      prospect_of publisher count step.1 ++ prospects_from publisher (publishes_after count step.1) steps

  -- what the clients add that stand behind so many others
  abbrev pub prospects_of : ℕ → List ClientParts → List Prospect
  prospects_of place [] = []
  prospects_of place (client ∷ clients) = prospects_from (suc place) 0 client.script ++ prospects_of (suc place) clients
