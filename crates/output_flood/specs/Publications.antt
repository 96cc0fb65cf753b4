-- How the code lists publications and a client's rows; no promise to a caller speaks of it.
use Rattle.std.specs.Prelude.{ℕ, ◌+◌, Bool, cond, not, ◌||◌, ◌&&◌, List, [], ◌∷◌, ◌++◌, map}
use Rattle.filter_types.specs.Notice.{Attribute}
use Rattle.law_routing.specs.Clients.{is_publish, some_pass}
use Rattle.base.specs.Numbers.{sum_over, count}
use Rattle.net_model.specs.Meaning.{command_of}
use Rattle.net_model.specs.Real.{real}
use Rattle.filter_text.specs.declared.semantics.Semantics.{Semantics}
use Rattle.filter_text.specs.declared.command.Command.{Command}
use Rattle.filter_text.specs.declared.command.Command.TheVariants as commands
use Rattle.net_model.specs.Parts.{ClientParts}
use Rattle.net_model.specs.Nets.{with_adverts}
use Rattle.output_flood.specs.declared.owed.OwedRow.{OwedRow}
use Rattle.output_flood.specs.declared.publication.Publication.{Publication}
use Rattle.filter_text.specs.Messages.{Lists}
use Rattle.output_flood.specs.Held.{Script, advert_step, some_filters, every_filters, every_adverts}

-- some advertisement allows the notice, where one must
abbrev pub is_free : Semantics → Lists → List Attribute → Bool
is_free semantics adverts notice = not (with_adverts semantics) || some_pass (λ a. real.allows a notice) adverts

-- some filter matches the notice
abbrev pub is_met : Lists → List Attribute → Bool
is_met filters notice = some_pass (λ f. real.matches notice f) filters

-- a publication of a client by this ordinal
abbrev pub publication_of : Semantics → ℕ → Script → ℕ → ℕ → List Attribute → Publication
publication_of semantics client script ordinal phase notice = record {
  id = record { publisher = client; ordinal = ordinal };
  phase = phase;
  notice = notice;
  advertised = is_free semantics (every_adverts phase script) notice;
}

-- how many publishes there are
abbrev pub publishes_in : Script → ℕ
publishes_in script = sum_over (λ step. count (is_publish real (command_of step.1))) script

-- what one step adds to the accepted publications behind it
abbrev pub add_accepted : Semantics → ℕ → Script → Lists → ℕ → ℕ → Command → List Publication → List Publication
add_accepted semantics client script adverts ordinal phase (commands.Subscribe f) rest = rest
add_accepted semantics client script adverts ordinal phase (commands.Unsubscribe f) rest = rest
add_accepted semantics client script adverts ordinal phase (commands.Advertise a) rest = rest
add_accepted semantics client script adverts ordinal phase (commands.Unadvertise a) rest = rest
add_accepted semantics client script adverts ordinal phase (commands.Publish n) rest =
    cond (is_free semantics adverts n) (publication_of semantics client script (ordinal + 1) phase n ∷ rest) rest

-- what one step adds to the refused ordinals behind it
abbrev pub add_refusal : Semantics → Lists → ℕ → Command → List ℕ → List ℕ
add_refusal semantics adverts ordinal (commands.Subscribe f) rest = rest
add_refusal semantics adverts ordinal (commands.Unsubscribe f) rest = rest
add_refusal semantics adverts ordinal (commands.Advertise a) rest = rest
add_refusal semantics adverts ordinal (commands.Unadvertise a) rest = rest
add_refusal semantics adverts ordinal (commands.Publish n) rest = cond (is_free semantics adverts n) rest ((ordinal + 1) ∷ rest)

-- the ordinal after a step
abbrev pub ordinal_step : ℕ → Command → ℕ
ordinal_step ordinal (commands.Subscribe f) = ordinal
ordinal_step ordinal (commands.Unsubscribe f) = ordinal
ordinal_step ordinal (commands.Advertise a) = ordinal
ordinal_step ordinal (commands.Unadvertise a) = ordinal
ordinal_step ordinal (commands.Publish n) = ordinal + 1

-- the accepted publications of a client's steps, with these advertisements and so many publishes before them
abbrev pub accepted_from : Semantics → ℕ → Script → Lists → ℕ → Script → List Publication
accepted_from semantics client script adverts ordinal [] = []
accepted_from semantics client script adverts ordinal (step ∷ steps) =
    add_accepted semantics client script adverts ordinal step.0 step.1
    (accepted_from semantics client script (advert_step adverts step.1) (ordinal_step ordinal step.1) steps)

-- the ordinals of the refused ones
abbrev pub refusals_from : Semantics → Lists → ℕ → Script → List ℕ
refusals_from semantics adverts ordinal [] = []
refusals_from semantics adverts ordinal (step ∷ steps) =
    add_refusal semantics adverts ordinal step.1 (refusals_from semantics (advert_step adverts step.1) (ordinal_step ordinal step.1) steps)

-- the accepted publications of clients numbered on from one
abbrev pub accepted_of : Semantics → ℕ → List ClientParts → List Publication
accepted_of semantics number [] = []
accepted_of semantics number (client ∷ clients) =
    accepted_from semantics number client.script [] 0 client.script ++ accepted_of semantics (number + 1) clients

-- the row of a publication for a client, where it is allowed to it
abbrev pub with_row : Script → Publication → List OwedRow → List OwedRow
with_row script p rest =
    cond (is_met (some_filters p.phase script) p.notice)
    (record { id = p.id; must = p.advertised && is_met (every_filters p.phase script) p.notice } ∷ rest)
    rest

abbrev pub rows_of : Script → List Publication → List OwedRow
rows_of script [] = []
rows_of script (p ∷ ps) = with_row script p (rows_of script ps)

-- the rows and the refused ordinals of all clients
abbrev pub all_rows_of : List ClientParts → List Publication → List (List OwedRow)
all_rows_of clients publications = map (λ client. rows_of client.script publications) clients

abbrev pub all_refusals_of : Semantics → List ClientParts → List (List ℕ)
all_refusals_of semantics clients = map (λ client. refusals_from semantics [] 0 client.script) clients
