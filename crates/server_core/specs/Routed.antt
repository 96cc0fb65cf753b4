-- What a caller knows of a route that it hands to a step.
use Rattle.std.specs.Prelude.{◌≡◌, ◌↔◌, ℕ, true, List, Some}
use Rattle.std.specs.List.Sorted.{IsStrictlyIncreasing}
use Rattle.filter_constraints.specs.Constraint.{ConstraintParts}
use Rattle.base.specs.Sets.{Has}
use Rattle.filter_types.specs.Notice.{Attribute}
use Rattle.law_routing.specs.Server.{Message, Subs, Advs, Noticed}
use Rattle.filter_text.specs.declared.id.Id.{Id}
use Rattle.law_routing.specs.Clients.{some_pass}
use Rattle.net_model.specs.Real.{real}
use Rattle.server_spec.specs.declared.planned.Planned.TheVariants.{Publish}
use Rattle.server_spec.specs.Session.{SessionParts}
use Rattle.server_spec.specs.Plan.{next_plan}
use Rattle.server_core.specs.Core.{CoreParts, installed_from}

-- the rising list of exactly the interfaces with a matching filter among those installed
pub record IsRoute (notice : List Attribute) (installed : ℕ → List (List ConstraintParts)) (route : List ℕ) : Type 0 where
  pub rising : IsStrictlyIncreasing route
  pub exact : (i : ℕ) → Has i route ↔ (some_pass (real.matches notice) (installed i) ≡ true)

-- where the next command of the client is a publish that will be accepted, the route is that of its notice by what was installed
abbrev pub RoutesNext : CoreParts → ℕ → List ℕ → Type 0
RoutesNext core client route = (s : SessionParts) (id : Id) (n : List Attribute) → Has s core.clients → s.client ≡ client
    → next_plan s ≡ Some (Publish id n) → IsRoute n (installed_from core) route

-- where the message is a notice, the route is that of the notice by what was installed
abbrev pub RoutesMessage : CoreParts → Message real → List ℕ → Type 0
RoutesMessage core (Noticed publisher ordinal n) route = IsRoute n (installed_from core) route
RoutesMessage core (Subs out add) route = Unit {0}
RoutesMessage core (Advs out add) route = Unit {0}
