-- Defines masters: server 1 is at the top, and the master of each other server is the next one on the way to it.
use Rattle.std.specs.Prelude.{◌≡◌, ℕ, ◌==◌, Bool, false, not, ◌&&◌, List, [], ◌∷◌}
use Rattle.base.specs.Sets.{Has, roots, union}
use Rattle.law_routing.specs.Theory.{Theory}
use Rattle.law_routing.specs.Net.{Net, NetLaws}
use Rattle.law_routing.specs.Server.{ServerState, interfaces, union_except}
use Rattle.law_routing.specs.Rest.{IsOnwardWay, end_of}

-- the server at the top
abbrev pub top : ℕ
top = 1

-- the union of the sets of all interfaces
abbrev pub union_all : {T : Type 0} → (T → T → Bool) → (ℕ → List T) → List ℕ → List T
union_all before sets [] = []
union_all before sets (i ∷ is) = union before (sets i) (union_all before sets is)

module _ (theory : Theory) (net : Net theory) where
  -- the next server on the way to the top
  abbrev pub master : ℕ → ℕ
  master server = net.hop server top

  -- whether another server is the master of a server; the top has none
  abbrev pub is_master : ℕ → ℕ → Bool
  is_master server other = not (server == top) && (other == master server)

  -- a neighbour that is not the master is a lower one
  pub record IsLower (server neighbour : ℕ) : Type 0 where
    pub near : Has neighbour (net.links server)
    pub lower : is_master server neighbour ≡ false

  -- a server is the other one, or lies below it: a way leads there that does not begin with the other one's master
  pub record IsBelow (server other : ℕ) : Type 0 where
    pub path : List ℕ
    pub way : IsOnwardWay theory net (master other) other path
    pub end : end_of theory net other path ≡ server

  -- the filters that go up from a server: the covering roots of all that it holds but from its master. A law says that it holds none from there in
  -- any run (`held_from_below`), so these are the roots of all that it holds
  abbrev pub up : ServerState theory → ℕ → List theory.Filter
  up state server = roots theory.covers theory.before (union_except theory.before state.subs (master server) (interfaces theory net server))

-- what is asked of a net with a top: it is a net, and server 1 is one of its servers
pub record HierarchyLaws (theory : Theory) (net : Net theory) : Type 0 where
  pub lawful : NetLaws theory net
  pub topped : Has top net.servers
