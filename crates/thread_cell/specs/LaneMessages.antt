-- Defines what a step of a server puts on its lanes and takes from them, as messages of a net.
use Rattle.std.specs.Prelude.{◌≡◌, ◌⊎◌, ◌≤◌, ℕ, ◌==◌, cond, List, [], ◌∷◌, ◌++◌, length, map, filter}
use Rattle.thread_lane.specs.Lane.{put_list, taken_list}
use Rattle.base.specs.Sets.{Has}
use Rattle.thread_cell.specs.declared.link.Link.{Link}
use Rattle.server_message.specs.Parts.{SendingParts}
use Rattle.net_model.specs.Parts.{NetParts}
use Rattle.thread_cell.specs.Heard.{heard_stamped}
use Rattle.thread_cell.specs.Acted.{Represented}
use Rattle.thread_cell.specs.Links.{IsSameLink, IsFlushed}

-- some numbers out of a list, in its order
abbrev pub AreInOrder : List ℕ → List ℕ → Type 0
AreInOrder [] ys = Unit {0}
AreInOrder (x ∷ xs) [] = ⊥
AreInOrder (x ∷ xs) (y ∷ ys) = ((x ≡ y) × AreInOrder xs ys) ⊎ AreInOrder (x ∷ xs) ys

-- what was put on a lane, and what was taken from one, as it is said in a net
abbrev pub represented_put : NetParts → Link → List Represented
represented_put net link = map (heard_stamped net) (put_list link.enter)

abbrev pub represented_received : NetParts → Link → List Represented
represented_received net link = map (heard_stamped net) (taken_list link.leave)

-- what was put for a neighbour, and what was taken from it
abbrev pub put_for : NetParts → List Link → ℕ → List Represented
put_for net [] neighbour = []
put_for net (link ∷ links) neighbour = cond (link.neighbour == neighbour) (represented_put net link) (put_for net links neighbour)

abbrev pub taken_from : NetParts → List Link → ℕ → List Represented
taken_from net [] neighbour = []
taken_from net (link ∷ links) neighbour = cond (link.neighbour == neighbour) (represented_received net link) (taken_from net links neighbour)

-- the first of what is sent, if it is for this neighbour, and the others
abbrev pub first_for : ℕ → List SendingParts → List SendingParts
first_for neighbour [] = []
first_for neighbour (s ∷ sent) = cond (s.to == neighbour) (s ∷ []) []

abbrev pub rest_for : ℕ → List SendingParts → List SendingParts
rest_for neighbour [] = []
rest_for neighbour (s ∷ sent) = cond (s.to == neighbour) sent (s ∷ sent)

-- those for a neighbour
abbrev pub only_for : ℕ → List SendingParts → List SendingParts
only_for neighbour sent = filter (λ s. s.to == neighbour) sent

-- what is sent is of a net
abbrev pub AreOfNet : NetParts → List SendingParts → Type 0
AreOfNet net sent = (s : SendingParts) → Has s sent → s.sent.net ≡ net

-- what is sent says this under a stamp
abbrev pub sent_as : ℕ → SendingParts → Represented
sent_as stamp s = record { stamp = stamp; message = s.sent.message }

-- what these say
abbrev pub all_sent_as : ℕ → List SendingParts → List Represented
all_sent_as stamp sent = map (sent_as stamp) sent

-- these, at most one, were put
pub record IsPut (net : NetParts) (stamp : ℕ) (sent : List SendingParts) (x y : Link) : Type 0 where
  pub same : IsSameLink x y
  pub leave : y.leave ≡ x.leave
  pub one : length sent ≤ 1
  pub put : represented_put net y ≡ represented_put net x ++ all_sent_as stamp sent

-- and the lane was flushed
pub record IsHanded (net : NetParts) (stamp : ℕ) (sent : List SendingParts) (x y : Link) : Type 0 where
  pub put : IsPut net stamp sent x y
  pub flushed : IsFlushed y

abbrev pub IsGiven : NetParts → ℕ → List SendingParts → Link → Link → Type 0
IsGiven net stamp sent x y = IsHanded net stamp (only_for x.neighbour sent) x y

-- what is taken from one neighbour
abbrev pub only_from : ℕ → Represented → ℕ → List Represented
only_from from item neighbour = cond (neighbour == from) (item ∷ []) []

-- a step of the server: these messages were put, at most one on each lane, and these taken
pub record IsMoved (net : NetParts) (stamp : ℕ) (sent : List SendingParts) (taken : ℕ → List Represented) (x y : Link) : Type 0 where
  pub same : IsSameLink x y
  pub one : length (only_for x.neighbour sent) ≤ 1
  pub put : represented_put net y ≡ represented_put net x ++ all_sent_as stamp (only_for x.neighbour sent)
  pub took : represented_received net y ≡ represented_received net x ++ taken x.neighbour
