-- One publisher's notices pass each server, each link and each inbox in the order of their ordinals, and only what was accepted does.
use Rattle.std.specs.Prelude.{◌≡◌, ℕ, zero, suc, ◌≤◌, ◌<◌, ◌==◌, true, false, cond, List, [], ◌∷◌, ◌++◌, ◌⊎◌, take, slice_get, Option, Some, None}
use Rattle.base.specs.Sets.{Has}
use Rattle.base_tree.specs.Hops.{side}
use Rattle.law_machine.specs.Machine.{Stamped}
use Rattle.law_routing.specs.Theory.{Theory}
use Rattle.law_routing.specs.Net.{Net, PhasedCommand, Publish}
use Rattle.law_routing.specs.Clients.{ordinal, adverts_after, accepts}
use Rattle.law_routing.specs.Server.{Message, Subs, Advs, Noticed, Publication}
use Rattle.law_routing.specs.Step.{Work, SetsFilters, SetsAdverts, Routes, InstallsTable, Nothing}
use Rattle.law_routing.specs.Routing.{Network, NetEntry}
use Rattle.law_routing.specs.Works.{work_at}

-- each is less than all later ones
abbrev pub IsStrictlyRising : List ℕ → Type 0
IsStrictlyRising [] = Unit {0}
IsStrictlyRising (x ∷ xs) = ((y : ℕ) → Has y xs → x < y) × IsStrictlyRising xs

module _ (theory : Theory) (net : Net theory) where
  -- the ordinals of a publisher's notices on a link
  abbrev pub add_ordinal : ℕ → Message theory → List ℕ → List ℕ
  add_ordinal publisher (Subs out add) ordinals = ordinals
  add_ordinal publisher (Advs out add) ordinals = ordinals
  add_ordinal publisher (Noticed p o n) ordinals = cond (publisher == p) (o ∷ ordinals) ordinals

  -- and of all messages put on a link
  abbrev pub ordinals_put : ℕ → List (Stamped (Message theory)) → List ℕ
  ordinals_put publisher [] = []
  ordinals_put publisher (x ∷ xs) = add_ordinal publisher x.message (ordinals_put publisher xs)

  -- and in an inbox
  abbrev pub ordinals_delivered : ℕ → List (Publication theory) → List ℕ
  ordinals_delivered publisher [] = []
  ordinals_delivered publisher (x ∷ xs) = cond (publisher == x.publisher) (x.ordinal ∷ ordinals_delivered publisher xs) (ordinals_delivered publisher xs)

  -- and of those that a work routes
  abbrev pub ordinals_in : ℕ → Work theory → List ℕ
  ordinals_in publisher (SetsFilters interface filters) = []
  ordinals_in publisher (SetsAdverts interface adverts) = []
  ordinals_in publisher (Routes interface p o n) = cond (publisher == p) (o ∷ []) []
  ordinals_in publisher InstallsTable = []
  ordinals_in publisher Nothing = []

  -- of a work, where there is one
  abbrev pub ordinals_maybe : ℕ → Option (Work theory) → List ℕ
  ordinals_maybe publisher None = []
  ordinals_maybe publisher (Some work) = ordinals_in publisher work

  -- of those that a server routes by an entry, where it is its own
  abbrev pub ordinals_of_entry : ℕ → ℕ → Network theory net → Option (NetEntry theory net) → List ℕ
  ordinals_of_entry publisher server network None = []
  ordinals_of_entry publisher server network (Some entry) =
      cond (server == entry.server) (ordinals_maybe publisher (work_at theory net network entry.server entry.act)) []

  -- and of those that a server routed in the first n entries
  abbrev pub ordinals_routed : (ℕ → Network theory net) → List (NetEntry theory net) → ℕ → ℕ → ℕ → List ℕ
  ordinals_routed states journal publisher zero server = []
  ordinals_routed states journal publisher (suc n) server =
      ordinals_routed states journal publisher n server ++ ordinals_of_entry publisher server (states n) (slice_get journal n)

  -- the ordinal of a publisher's last publish that is executed
  abbrev pub last_ordinal : Network theory net → ℕ → ℕ
  last_ordinal network publisher = ordinal theory (take ((network.state (net.home publisher)).done publisher) (net.script publisher))

  -- routed: the ordinals of a publisher's notices that each server has routed since a moment before which all were at most earlier
  pub record IsOrderly (publisher earlier : ℕ) (network : Network theory net) (routed : ℕ → List ℕ) : Type 0 where
    -- they rise at each server, on each link and in each inbox
    pub routed_up : (server : ℕ) → IsStrictlyRising (routed server)
    pub put_up : (a b : ℕ) → IsStrictlyRising (ordinals_put publisher (network.put a b))
    pub given_up : (server client : ℕ) → IsStrictlyRising (ordinals_delivered publisher ((network.state server).inbox client))
    -- what is put and delivered was routed there, or delivered earlier
    pub put_known : (a b o : ℕ) → Has o (ordinals_put publisher (network.put a b)) → Has o (routed a)
    pub given_known : (server client o : ℕ) → Has o (ordinals_delivered publisher ((network.state server).inbox client)) → Has o (routed server) ⊎ (o ≤ earlier)
    pub later : (server o : ℕ) → Has o (routed server) → earlier < o
    -- at home no ordinal is past those of the commands executed
    pub since : earlier ≤ last_ordinal network publisher
    pub here : (o : ℕ) → Has o (routed (net.home publisher)) → o ≤ last_ordinal network publisher
    -- elsewhere what was received from the neighbour on the way to the publisher is routed, and nothing comes from the others
    pub there : (t u : ℕ) → Has u (net.links t) → side net.hop t u (net.home publisher) ≡ true
        → routed t ≡ ordinals_put publisher (take (network.taken u t) (network.put u t))
    pub away : (a b : ℕ) → Has b (net.links a) → side net.hop b a (net.home publisher) ≡ false → ordinals_put publisher (network.put a b) ≡ []

  -- the publish was executed and accepted, and this is its notice
  pub record IsAccepted (network : Network theory net) (publisher number : ℕ) (notice : theory.Notice) : Type 0 where
    pub index : ℕ
    pub taken : index < (network.state (net.home publisher)).done publisher
    pub command : PhasedCommand theory
    pub at : slice_get (net.script publisher) index ≡ Some command
    pub publishes : command.command ≡ Publish notice
    pub ordinal : ordinal theory (take (suc index) (net.script publisher)) ≡ number
    pub allowed : accepts theory net (adverts_after theory [] (take index (net.script publisher))) notice ≡ true

  -- what is on a link or in an inbox is the notice of an accepted publication, under its id
  pub record IsAuthentic (network : Network theory net) : Type 0 where
    pub put : (a b : ℕ) (x : Stamped (Message theory)) (publisher ordinal : ℕ) (notice : theory.Notice)
        → Has x (network.put a b) → x.message ≡ Noticed publisher ordinal notice → IsAccepted network publisher ordinal notice
    pub given : (server client : ℕ) (x : Publication theory) → Has x ((network.state server).inbox client) → IsAccepted network x.publisher x.ordinal x.notice
