-- Defines the lists of a net's clients, after so many of their commands.
use Rattle.std.specs.Prelude.{ℕ, List, [], take}
use Rattle.filter_constraints.specs.Constraint.{ConstraintParts}
use Rattle.law_routing.specs.Clients.{refused_after}
use Rattle.law_phases.specs.Trees.{net_at}
use Rattle.net_model.specs.Real.{real}
use Rattle.net_model.specs.Parts.{NetParts}
use Rattle.net_model.specs.Nets.{phased_net, script_of}
use Rattle.net_model.specs.Adding.{own_filters, own_adverts}

-- a client's own filters after its first count commands, in the order of adding
abbrev pub filters_added : NetParts → ℕ → ℕ → List (List ConstraintParts)
filters_added net client count = own_filters real [] (take count (script_of net client))

-- its own advertisements
abbrev pub adverts_added : NetParts → ℕ → ℕ → List (List ConstraintParts)
adverts_added net client count = own_adverts real [] (take count (script_of net client))

-- the ordinals of its refused publishes by then
abbrev pub refused_ordinals : NetParts → ℕ → ℕ → List ℕ
refused_ordinals net client count = refused_after real (net_at real (phased_net net) 0) client count
