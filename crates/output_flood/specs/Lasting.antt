-- Defines which lists of a phase the code has at hand: those of every moment and those of some moment.
use Rattle.std.specs.Prelude.{◌≡◌}
use Rattle.output_flood.specs.declared.phase.PhaseAdverts.{PhaseAdverts}
use Rattle.output_flood.specs.Held.{Script, every_adverts}

-- a client's advertisements of the phase that they tell
pub record AreClientAdverts (script : Script) (lists : PhaseAdverts) : Type 0 where
  pub at_every : lists.every.items ≡ every_adverts lists.phase script
