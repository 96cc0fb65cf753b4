-- How the code follows a client's lists through its script; no promise to a caller speaks of it.
use Rattle.std.specs.Prelude.{ℕ, suc, ◌+◌, ◌-◌, Bool, false, cond, not, ◌||◌, nat_lt, List, [], ◌∷◌, ◌++◌, filter, take, drop}
use Rattle.filter_constraints.specs.Constraint.{ConstraintParts}
use Rattle.filter_types.specs.Cover.{filter_covers, advert_covers}
use Rattle.filter_text.specs.Messages.{Lists}
use Rattle.filter_text.specs.declared.command.Command.{Command}
use Rattle.filter_text.specs.declared.command.Command.TheVariants as commands

-- a script: commands with their phases
abbrev pub Script : Type 0
Script = List (ℕ × Command)

-- a client's filters after one command, in any order, some of them perhaps twice
abbrev pub filter_step : Lists → Command → Lists
filter_step filters (commands.Subscribe f) = filters ++ f ∷ []
filter_step filters (commands.Unsubscribe f) = filter (λ g. not (filter_covers f g)) filters
filter_step filters (commands.Advertise a) = filters
filter_step filters (commands.Unadvertise a) = filters
filter_step filters (commands.Publish n) = filters

abbrev pub filters_held : Lists → Script → Lists
filters_held filters [] = filters
filters_held filters (step ∷ steps) = filters_held (filter_step filters step.1) steps

-- its advertisements
abbrev pub advert_step : Lists → Command → Lists
advert_step adverts (commands.Subscribe f) = adverts
advert_step adverts (commands.Unsubscribe f) = adverts
advert_step adverts (commands.Advertise a) = adverts ++ a ∷ []
advert_step adverts (commands.Unadvertise a) = filter (λ b. not (advert_covers a b)) adverts
advert_step adverts (commands.Publish n) = adverts

abbrev pub held_adverts : Lists → Script → Lists
held_adverts adverts [] = adverts
held_adverts adverts (step ∷ steps) = held_adverts (advert_step adverts step.1) steps

-- the filters that commands add
abbrev pub with_filter : Command → Lists → Lists
with_filter (commands.Subscribe f) filters = f ∷ filters
with_filter (commands.Unsubscribe f) filters = filters
with_filter (commands.Advertise a) filters = filters
with_filter (commands.Unadvertise a) filters = filters
with_filter (commands.Publish n) filters = filters

abbrev pub subscribed : Script → Lists
subscribed [] = []
subscribed (step ∷ steps) = with_filter step.1 (subscribed steps)

-- whether some command takes a filter away
abbrev pub withdraws : Command → List ConstraintParts → Bool
withdraws (commands.Subscribe g) f = false
withdraws (commands.Unsubscribe g) f = filter_covers g f
withdraws (commands.Advertise a) f = false
withdraws (commands.Unadvertise a) f = false
withdraws (commands.Publish n) f = false

abbrev pub withdrawn : List ConstraintParts → Script → Bool
withdrawn f [] = false
withdrawn f (step ∷ steps) = withdraws step.1 f || withdrawn f steps

-- whether some command takes an advertisement away
abbrev pub unadvertises : Command → List ConstraintParts → Bool
unadvertises (commands.Subscribe g) a = false
unadvertises (commands.Unsubscribe g) a = false
unadvertises (commands.Advertise b) a = false
unadvertises (commands.Unadvertise b) a = advert_covers b a
unadvertises (commands.Publish n) a = false

abbrev pub unadvertised : List ConstraintParts → Script → Bool
unadvertised a [] = false
unadvertised a (step ∷ steps) = unadvertises step.1 a || unadvertised a steps

-- how many commands are of phases below one
abbrev pub below : {A : Type 0} → ℕ → List (ℕ × A) → ℕ
below phase [] = 0
below phase (step ∷ steps) = cond (nat_lt step.0 phase) (suc (below phase steps)) (below phase steps)

-- the commands before a phase, and those of the phase
abbrev pub before : {A : Type 0} → ℕ → List (ℕ × A) → List (ℕ × A)
before phase script = take (below phase script) script

abbrev pub within : {A : Type 0} → ℕ → List (ℕ × A) → List (ℕ × A)
within phase script = take (below (phase + 1) script - below phase script) (drop (below phase script) script)

-- a client's filters at some moment of a phase, and at each
unfoldable pub some_filters : ℕ → Script → Lists
some_filters phase script = filters_held [] (before phase script) ++ subscribed (within phase script)

unfoldable pub every_filters : ℕ → Script → Lists
every_filters phase script = filter (λ f. not (withdrawn f (within phase script))) (filters_held [] (before phase script))

-- its advertisements at each moment of a phase
unfoldable pub every_adverts : ℕ → Script → Lists
every_adverts phase script = filter (λ a. not (unadvertised a (within phase script))) (held_adverts [] (before phase script))
