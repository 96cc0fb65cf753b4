-- Defines what a look at a neighbour's lane answers.
use Rattle.std.specs.Prelude.{◌≡◌, ◌<◌, ℕ, Bool, true, false, List, length, Option, Some, None}
use Rattle.net_model.specs.Parts.{NetParts}
use Rattle.net_tables.specs.Known.{known_publications}
use Rattle.server_message.specs.declared.load.Load.{Load}
use Rattle.server_message.specs.declared.load.Load.TheVariants as loads
use Rattle.server_message.specs.declared.stamped.StampedLoad.{StampedLoad}
use Rattle.thread_cell.specs.declared.link.Link.{Link}
use Rattle.thread_cell.specs.Links.{IsNeighbour}
use Rattle.thread_cell.specs.LaneReceiving.{IsLookedAt, IsNextAt}

-- the number of the publication of what comes next, if it is one of the net
abbrev pub IsPublicationIn : NetParts → Load → Option ℕ → Type 0
IsPublicationIn net load None = (number : ℕ) → load ≡ loads.Publication number → number < length (known_publications 1 net.clients) → ⊥
IsPublicationIn net load (Some number) = (load ≡ loads.Publication number) × (number < length (known_publications 1 net.clients))

-- what a look found, and the publication of it: none where nothing was found
abbrev pub IsPublicationOf : NetParts → ℕ → List Link → Bool → Option ℕ → Type 0
IsPublicationOf net place links false number = number ≡ None
IsPublicationOf net place links true number = (item : StampedLoad) × IsNextAt place item links × IsPublicationIn net item.load number

-- a look at the lane from a neighbour found the publication that the next reception takes; or none, since all is taken and the misses of that lane rose, or
-- since what comes next is no publication of the net
pub record IsLookedFor (net : NetParts) (from : ℕ) (xs ys : List Link) (number : Option ℕ) : Type 0 where
  pub place : ℕ
  pub neighbour : IsNeighbour place from xs
  pub seen : Bool
  pub looked : IsLookedAt place xs ys seen
  pub told : IsPublicationOf net place ys seen number
