use Rattle.std.proofs.Common.{ℕ, List, subst}
use Rattle.filter_constraints.specs.Constraint.{ConstraintParts}
use Rattle.base.specs.Sets.{Has}
use Rattle.net_tables.specs.Known.{known_filters}
use Rattle.server_spec.specs.Control.{subs}
use Rattle.server_core.specs.Core.{CoreParts}
use Rattle.server_core.proofs.server.Core.lemma_sound.Goals as goal

pub returns : goal.returns
returns c = subst (λ (z : CoreParts). (i : ℕ) (f : List ConstraintParts) → Has f (subs z.control i) → Has f (known_filters z.net.clients)) c.self.view_is c.lemma_sound.ensures.known
