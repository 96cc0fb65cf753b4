-- What servers know of each other, and what flows.
use Rattle.std.specs.Prelude.{◌≡◌, ℕ, ◌≤◌, true, List, length}
use Rattle.base.specs.Sets.{Has, roots}
use Rattle.law_routing.specs.Theory.{Theory}
use Rattle.law_routing.specs.Server.{sent, sent_adverts, interfaces}
use Rattle.law_routing.specs.Rest.{IsOnwardWay, IsAtRest}
use Rattle.law_routing.specs.Beyond.{filters_beyond}
use Rattle.law_routing.specs.AsOf.{calm, back, as_of}
use Rattle.law_routing.specs.Flow.{flow, flow_ad}
use Rattle.law_phases.specs.Trees.{State, on, net_at, tree_at, is_one_tree}
use Rattle.law_phases.specs.Moments.{begun}
use Rattle.law_phases.specs.Runs.{PhasedRun}
use Rattle.law_phases.specs.AtMoments.{states, seen, phase_seen, net_then, net_seen, states_on, IsQuietAt, EndsQuiet}

-- a server holds the same of an interface, and has the same published, in two states
pub record HoldsSame (theory : Theory) (state other : State theory) (server interface : ℕ) : Type 0 where
  pub subs : (state.state server).subs interface ≡ (other.state server).subs interface
  pub advs : (state.state server).advs interface ≡ (other.state server).advs interface
  pub installed : (state.state server).installed interface ≡ (other.state server).installed interface

module _ (theory : Theory) (run : PhasedRun theory) where
  -- a moment of the run, and a link of the tree there
  pub record IsLinkAt (m from to : ℕ) : Type 0 where
    pub within : m ≤ length run.journal
    pub near : Has to ((net_seen theory run m).links from)

  -- the moment that a server looks back to on a link from a neighbour
  abbrev pub back_at : ℕ → ℕ → ℕ → ℕ
  back_at server neighbour m = back theory (net_seen theory run m) (states_on theory run (net_seen theory run m)) server neighbour m

  -- the last moment up to m at which nothing was pending at a server
  abbrev pub calm_at : ℕ → ℕ → ℕ
  calm_at server m = calm theory (net_seen theory run m) (states_on theory run (net_seen theory run m)) server m

  -- the moment at the end of a way, on the tree at m, that a server knows of at an earlier moment
  abbrev pub as_of_at : ℕ → ℕ → List ℕ → ℕ → ℕ
  as_of_at m server path earlier = as_of theory (net_seen theory run m) (states_on theory run (net_seen theory run m)) server path earlier

  -- the filters that a server sent to a neighbour at an earlier moment, on the tree at m
  abbrev pub filters_sent : ℕ → ℕ → ℕ → ℕ → List theory.Filter
  filters_sent m earlier from to = sent theory (net_seen theory run m) ((seen theory run earlier).state from) from to

  -- the advertisements
  abbrev pub adverts_sent : ℕ → ℕ → ℕ → ℕ → List theory.Advert
  adverts_sent m earlier from to = sent_adverts theory (net_seen theory run m) ((seen theory run earlier).state from) from to

  -- a moment, a moment at rest before it on the same tree, and a way from a server
  pub record LooksBack : Type 0 where
    pub moment : ℕ
    pub within : moment ≤ length run.journal
    pub rest : ℕ
    pub earlier : rest ≤ moment
    pub one_tree : is_one_tree theory run.net (phase_seen theory run rest) (phase_seen theory run moment) ≡ true
    pub rests : IsAtRest theory (net_seen theory run moment) (states_on theory run (net_seen theory run moment) rest)
    pub before : ℕ
    pub server : ℕ
    pub path : List ℕ
    pub way : IsOnwardWay theory (net_seen theory run moment) before server path

  -- a quiet moment, and a link of the tree in force
  pub record IsQuietLink (n server neighbour : ℕ) : Type 0 where
    pub quiet : IsQuietAt theory run n
    pub near : Has neighbour ((net_then theory run n).links server)

  -- the filters that flow to a server from the clients beyond a neighbour, by what those hold after n entries
  abbrev pub filters_flowing : ℕ → ℕ → ℕ → List theory.Filter
  filters_flowing n server neighbour =
      flow theory (net_then theory run n) (λ v. ((states theory run n).state v).subs) (λ v. ((states theory run n).state v).advs) server neighbour

  -- the union of the lists of the clients that live at a neighbour or beyond it, after n entries, on the tree in force
  abbrev pub filters_listed_beyond : ℕ → ℕ → ℕ → List theory.Filter
  filters_listed_beyond n server neighbour =
      filters_beyond theory (net_then theory run n) (on theory (net_then theory run n) (states theory run n)) server neighbour

  -- COVERING: after n entries a server holds of a neighbour exactly the covering roots of that
  abbrev pub HoldsRoots : ℕ → ℕ → ℕ → Type 0
  HoldsRoots n server neighbour =
      ((states theory run n).state server).subs neighbour ≡ roots theory.covers theory.before (filters_listed_beyond n server neighbour)

  -- the advertisements
  abbrev pub adverts_flowing : ℕ → ℕ → ℕ → List theory.Advert
  adverts_flowing n server neighbour = flow_ad theory (net_then theory run n) (λ v. ((states theory run n).state v).advs) server neighbour

  -- the run ends quiet, and a later phase has the tree in force again
  pub record IsSameTree (phase : ℕ) : Type 0 where
    pub quiet : EndsQuiet theory run
    pub same : tree_at theory run.net phase ≡ tree_at theory run.net run.last

  -- what a server holds of an interface, and has installed, is the same after that phase has begun
  abbrev pub HoldsStill : ℕ → ℕ → ℕ → Type 0
  HoldsStill phase server interface = HoldsSame theory (begun theory run.net run.last phase run.end) run.end server interface

  -- an interface of a server on the tree in force at the end
  abbrev pub IsInterface : ℕ → ℕ → Type 0
  IsInterface server interface = Has interface (interfaces theory (net_at theory run.net run.last) server)
