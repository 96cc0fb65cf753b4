-- How the code of a session is followed on lists; no promise to a caller speaks of it.
use Rattle.std.specs.Prelude.{ℕ, suc, List, [], ◌∷◌, ◌++◌}
use Rattle.filter_types.specs.Before.{list_before}
use Rattle.base.specs.Sets.{minus}
use Rattle.filter_text.specs.declared.command.Command.{Command}
use Rattle.filter_text.specs.declared.command.Command.TheVariants as commands
use Rattle.filter_text.specs.declared.semantics.Semantics.{Semantics}
use Rattle.net_model.specs.Real.{real}
use Rattle.net_model.specs.Meaning.{command_of}
use Rattle.net_model.specs.Adding.{own_filters_step, own_adverts_step}
use Rattle.server_spec.specs.declared.planned.Planned.{Planned}
use Rattle.server_spec.specs.declared.planned.Planned.TheVariants as plans
use Rattle.filter_text.specs.Messages.{Lists}
use Rattle.server_spec.specs.Plan.{filters_plan, adverts_plan, publish_plan}

-- what a command does with these lists
abbrev pub own_plan : ℕ → Semantics → Lists → Lists → ℕ → Command → Planned
own_plan client semantics filters adverts publishes (commands.Subscribe f) =
    filters_plan filters (own_filters_step real filters (command_of (commands.Subscribe f)))
own_plan client semantics filters adverts publishes (commands.Unsubscribe f) =
    filters_plan filters (own_filters_step real filters (command_of (commands.Unsubscribe f)))
own_plan client semantics filters adverts publishes (commands.Advertise a) =
    adverts_plan adverts (own_adverts_step real adverts (command_of (commands.Advertise a)))
own_plan client semantics filters adverts publishes (commands.Unadvertise a) =
    adverts_plan adverts (own_adverts_step real adverts (command_of (commands.Unadvertise a)))
own_plan client semantics filters adverts publishes (commands.Publish n) = publish_plan client semantics adverts (suc publishes) n

-- the lists, the refused ordinals and the number of publishes after what is planned
abbrev pub filters_by : Planned → Lists → Lists
filters_by (plans.Subs out add) filters = minus list_before filters out ++ add
filters_by (plans.Advs out add) filters = filters
filters_by (plans.Publish id n) filters = filters
filters_by (plans.Refused ordinal) filters = filters

abbrev pub adverts_by : Planned → Lists → Lists
adverts_by (plans.Subs out add) adverts = adverts
adverts_by (plans.Advs out add) adverts = minus list_before adverts out ++ add
adverts_by (plans.Publish id n) adverts = adverts
adverts_by (plans.Refused ordinal) adverts = adverts

abbrev pub refusals_by : Planned → List ℕ → List ℕ
refusals_by (plans.Subs out add) refused = refused
refusals_by (plans.Advs out add) refused = refused
refusals_by (plans.Publish id n) refused = refused
refusals_by (plans.Refused ordinal) refused = refused ++ ordinal ∷ []

abbrev pub publishes_by : Planned → ℕ → ℕ
publishes_by (plans.Subs out add) publishes = publishes
publishes_by (plans.Advs out add) publishes = publishes
publishes_by (plans.Publish id n) publishes = suc publishes
publishes_by (plans.Refused ordinal) publishes = suc publishes
