-- What a planned change is to a server, which holds the sets of a client's members.
use Rattle.std.specs.Prelude.{ℕ, List, []}
use Rattle.filter_constraints.specs.Constraint.{ConstraintParts}
use Rattle.law_routing.specs.Clients.{filters_after, adverts_after}
use Rattle.net_model.specs.Real.{real}
use Rattle.server_spec.specs.Session.{SessionParts, first_commands}

-- the sets after so many commands
abbrev pub filter_set_at : SessionParts → ℕ → List (List ConstraintParts)
filter_set_at session count = filters_after real [] (first_commands session count)

abbrev pub advert_set_at : SessionParts → ℕ → List (List ConstraintParts)
advert_set_at session count = adverts_after real [] (first_commands session count)
