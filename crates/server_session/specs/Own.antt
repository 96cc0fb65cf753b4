-- How the code follows what is planned; no promise to a caller speaks of it.
use Rattle.std.specs.Prelude.{ℕ, suc, ◌<◌, nat_lt, List, [], ◌∷◌, ◌++◌}
use Rattle.base.specs.Sets.{Has, union, minus}
use Rattle.base_bits.specs.Rows.{Numbers}
use Rattle.server_session.specs.declared.planned.Moved.{Moved}
use Rattle.server_session.specs.declared.planned.Moved.TheVariants.{Nothing}
use Rattle.server_session.specs.declared.planned.Planned.{Planned}
use Rattle.server_session.specs.declared.planned.Planned.TheVariants.{Filters, Adverts, Publish, Refused}
use Rattle.server_session.specs.Moved.{gone, come}

-- the change of filters, and that of advertisements
abbrev pub filters_moved : Planned → Moved
filters_moved (Filters moved) = moved
filters_moved (Adverts moved) = Nothing
filters_moved (Publish id number) = Nothing
filters_moved (Refused ordinal) = Nothing

abbrev pub adverts_moved : Planned → Moved
adverts_moved (Filters moved) = Nothing
adverts_moved (Adverts moved) = moved
adverts_moved (Publish id number) = Nothing
adverts_moved (Refused ordinal) = Nothing

-- the refused ordinals, and how many publishes there were
abbrev pub refusals_by : Planned → List ℕ → List ℕ
refusals_by (Filters moved) refused = refused
refusals_by (Adverts moved) refused = refused
refusals_by (Publish id number) refused = refused
refusals_by (Refused ordinal) refused = refused ++ ordinal ∷ []

abbrev pub publishes_by : Planned → ℕ → ℕ
publishes_by (Filters moved) publishes = publishes
publishes_by (Adverts moved) publishes = publishes
publishes_by (Publish id number) publishes = suc publishes
publishes_by (Refused ordinal) publishes = suc publishes

-- a change is by numbers below a bound
pub record IsWithin (bound : ℕ) (moved : Moved) : Type 0 where
  pub gone_within : (i : ℕ) → Has i (gone moved) → i < bound
  pub come_within : (i : ℕ) → Has i (come moved) → i < bound

-- a row after a change
abbrev pub moved_row : Moved → Numbers → Numbers
moved_row moved row = record { width = row.width; members = union nat_lt (come moved) (minus nat_lt row.members (gone moved)) }
