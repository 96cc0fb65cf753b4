-- What a client's next command does: the difference from its lists to the next ones, or its publication.
use Rattle.std.specs.Prelude.{ℕ, suc, cond, List, slice_get, Option, Some, None}
use Rattle.filter_constraints.specs.Constraint.{ConstraintParts}
use Rattle.filter_types.specs.Before.{list_before}
use Rattle.filter_types.specs.Notice.{Attribute}
use Rattle.base.specs.Sets.{minus}
use Rattle.filter_text.specs.declared.command.Command.{Command}
use Rattle.filter_text.specs.declared.command.Command.TheVariants as commands
use Rattle.filter_text.specs.declared.semantics.Semantics.{Semantics}
use Rattle.law_routing.specs.Clients.{accepts}
use Rattle.net_model.specs.Real.{real}
use Rattle.server_spec.specs.declared.planned.Planned.{Planned}
use Rattle.server_spec.specs.declared.planned.Planned.TheVariants as plans
use Rattle.server_spec.specs.Session.{SessionParts, filters_at, adverts_at, publishes_at, net_under}

-- the change of a client's filters from one list to another
abbrev pub filters_plan : List (List ConstraintParts) → List (List ConstraintParts) → Planned
filters_plan now next = plans.Subs (minus list_before now next) (minus list_before next now)

-- the same of its advertisements
abbrev pub adverts_plan : List (List ConstraintParts) → List (List ConstraintParts) → Planned
adverts_plan now next = plans.Advs (minus list_before now next) (minus list_before next now)

-- a publish of a notice by a client with these advertisements, under this ordinal: under advertisement semantics it is refused where no
-- single one of them allows the notice
abbrev pub publish_plan : ℕ → Semantics → List (List ConstraintParts) → ℕ → List Attribute → Planned
publish_plan client semantics adverts ordinal notice =
    cond (accepts real (net_under semantics) adverts notice)
    (plans.Publish (record { publisher = client; ordinal = ordinal }) notice)
    (plans.Refused ordinal)

-- what a command does as the next one
abbrev pub plan_by : SessionParts → Command → Planned
plan_by session (commands.Subscribe f) = filters_plan (filters_at session session.taken) (filters_at session (suc session.taken))
plan_by session (commands.Unsubscribe f) = filters_plan (filters_at session session.taken) (filters_at session (suc session.taken))
plan_by session (commands.Advertise a) = adverts_plan (adverts_at session session.taken) (adverts_at session (suc session.taken))
plan_by session (commands.Unadvertise a) = adverts_plan (adverts_at session session.taken) (adverts_at session (suc session.taken))
plan_by session (commands.Publish n) =
    publish_plan session.client session.semantics (adverts_at session session.taken) (publishes_at session (suc session.taken)) n

-- what a step of a script does, where there is one
abbrev pub plan_in : SessionParts → Option (ℕ × Command) → Option Planned
plan_in session None = None
plan_in session (Some step) = Some (plan_by session step.1)

-- WHAT THE NEXT COMMAND DOES, where there is one
abbrev pub next_plan : SessionParts → Option Planned
next_plan session = plan_in session (slice_get session.script session.taken)
