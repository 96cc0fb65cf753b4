-- Defines the moment at the end of a way that a server knows of, and when a notice is settled.
use Rattle.std.specs.Prelude.{◌≡◌, ℕ, suc, ◌<◌, nat_le, ◌==◌, ◌&&◌, cond, true, not, List, [], ◌∷◌, ◌++◌, length, slice_get, Some}
use Rattle.law_machine.specs.Links.{last_where}
use Rattle.base.specs.Sets.{Has}
use Rattle.law_machine.specs.Machine.{Stamped}
use Rattle.law_routing.specs.Theory.{Theory}
use Rattle.law_routing.specs.Net.{Net}
use Rattle.law_routing.specs.Server.{Message, Noticed, Publication}
use Rattle.law_routing.specs.Step.{Routes}
use Rattle.law_routing.specs.Routing.{Network, NetEntry}
use Rattle.law_routing.specs.Works.{work_at}
use Rattle.law_routing.specs.Rest.{filters_of, adverts_of, IsOnwardWay, end_of}

module _ (theory : Theory) (net : Net theory) where
  module _ (states : ℕ → Network theory net) where
    -- the last moment up to m at which nothing was pending at a server: that of its last table update
    abbrev pub calm : ℕ → ℕ → ℕ
    calm server m = last_where (λ x. not ((states x).state server).pending) m

    -- the last moment up to m at which a neighbour had put no more for a server than that has received at m
    abbrev pub back : ℕ → ℕ → ℕ → ℕ
    back server neighbour m = last_where (λ x. nat_le (length ((states x).put neighbour server)) ((states m).taken neighbour server)) m

    -- the moment at the end of a way that a server knows of at m
    abbrev pub as_of : ℕ → List ℕ → ℕ → ℕ
    as_of server [] m = m
    as_of server (next ∷ path) m = as_of next path (back server next m)

    -- at a moment an advertisement that allows the notice is in the publisher's list
    abbrev pub IsAdvertisedAt : ℕ → theory.Notice → ℕ → Type 0
    IsAdvertisedAt publisher notice m = (a : theory.Advert) × Has a (adverts_of theory net (states m) publisher) × (theory.allows a notice ≡ true)

    -- as each later server of the way knows, the publisher has an advertisement that allows the notice; behind is the way back to the publisher
    abbrev pub IsAdvertisedAlong : ℕ → theory.Notice → List ℕ → ℕ → List ℕ → ℕ → Type 0
    IsAdvertisedAlong publisher notice behind server [] m = Unit {0}
    IsAdvertisedAlong publisher notice behind server (next ∷ path) m =
        (net.adverts ≡ true → IsAdvertisedAt publisher notice (as_of next (server ∷ behind) (back server next m)))
        × IsAdvertisedAlong publisher notice (server ∷ behind) next path (back server next m)

    -- a server at m, by its last table update, knows of a filter of the client that matches, and each later server of the way of an advertisement of the
    -- publisher that allows
    pub record IsSettled (notice : theory.Notice) (publisher client : ℕ) (behind : List ℕ) (server : ℕ) (path : List ℕ) (m : ℕ) : Type 0 where
      pub filter : theory.Filter
      pub wanted : Has filter (filters_of theory net (states (as_of server path (calm server m))) client)
      pub matches : theory.matches notice filter ≡ true
      pub allowed : IsAdvertisedAlong publisher notice behind server path (calm server m)

    -- the entry at moment m routes a publication at a server, where it came in by this interface
    pub record IsRoutedAt (journal : List (NetEntry theory net)) (m place interface publisher ordinal : ℕ) (notice : theory.Notice) : Type 0 where
      pub entry : NetEntry theory net
      pub at : slice_get journal m ≡ Some entry
      pub server : entry.server ≡ place
      pub routes : work_at theory net (states m) place entry.act ≡ Some (Routes interface publisher ordinal notice)

    -- whenever an entry routes the publication at a server it is settled there, for the way that is left
    abbrev pub IsSettledHere : List (NetEntry theory net) → ℕ → ℕ → theory.Notice → ℕ → List ℕ → ℕ → List ℕ → Type 0
    IsSettledHere journal publisher ordinal notice client behind server path = (m interface : ℕ)
        → IsRoutedAt journal m server interface publisher ordinal notice
        → IsSettled notice publisher client behind server path m

    -- at each server of the way the publication is settled whenever an entry routes it there
    abbrev pub IsSettledAlong : List (NetEntry theory net) → ℕ → ℕ → theory.Notice → ℕ → List ℕ → ℕ → List ℕ → Type 0
    IsSettledAlong journal publisher ordinal notice client behind server [] = IsSettledHere journal publisher ordinal notice client behind server []
    IsSettledAlong journal publisher ordinal notice client behind server (next ∷ path) =
        IsSettledHere journal publisher ordinal notice client behind server (next ∷ path)
        × IsSettledAlong journal publisher ordinal notice client (server ∷ behind) next path

    -- each message of the publication on the link from a server to the next is received by the last moment
    abbrev pub IsReceivedOn : ℕ → ℕ → ℕ → theory.Notice → ℕ → ℕ → Type 0
    IsReceivedOn last publisher ordinal notice server next = (k : ℕ) (x : Stamped (Message theory))
        → slice_get ((states last).put server next) k ≡ Some x → x.message ≡ Noticed publisher ordinal notice
        → k < (states last).taken server next

    -- each message of the publication on a link of the way is received by the last moment
    abbrev pub IsReceivedAlong : ℕ → ℕ → ℕ → theory.Notice → ℕ → List ℕ → Type 0
    IsReceivedAlong last publisher ordinal notice server [] = Unit {0}
    IsReceivedAlong last publisher ordinal notice server (next ∷ path) =
        IsReceivedOn last publisher ordinal notice server next × IsReceivedAlong last publisher ordinal notice next path

    -- the entry at moment m delivers this publication to a client of the server
    abbrev pub IsDeliveredAt : ℕ → ℕ → ℕ → Publication theory → Type 0
    IsDeliveredAt m server client publication =
        ((states (suc m)).state server).inbox client ≡ ((states m).state server).inbox client ++ publication ∷ []

    -- a client beyond a neighbour had a filter that matches, at the moment that the server knows of at m by its last table update
    pub record IsWantedBeyond (notice : theory.Notice) (server neighbour m : ℕ) : Type 0 where
      pub path : List ℕ
      pub client : ℕ
      pub filter : theory.Filter
      pub way : IsOnwardWay theory net server neighbour path
      pub lives : Has client (net.clients (end_of theory net neighbour path))
      pub listed : Has filter (filters_of theory net (states (as_of server (neighbour ∷ path) (calm server m))) client)
      pub matches : theory.matches notice filter ≡ true

  -- how often an inbox has an id
  abbrev pub times_delivered : ℕ → ℕ → List (Publication theory) → ℕ
  times_delivered publisher ordinal [] = 0
  times_delivered publisher ordinal (x ∷ xs) = cond ((publisher == x.publisher) && (ordinal == x.ordinal))
      (suc (times_delivered publisher ordinal xs))
      (times_delivered publisher ordinal xs)
