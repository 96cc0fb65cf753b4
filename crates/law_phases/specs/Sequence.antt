-- In what order a client is given publications: by phase, and by what was known when they were published.
use Rattle.std.specs.Prelude.{◌≡◌, ℕ, ◌≤◌, ◌<◌, ◌⊎◌, List, [], ◌∷◌, slice_get, Some}
use Rattle.base.specs.Sets.{Has}
use Rattle.law_machine.specs.Machine.{Did}
use Rattle.law_routing.specs.Theory.{Theory}
use Rattle.law_routing.specs.Server.{Publication}
use Rattle.law_routing.specs.Step.{NextCommand}
use Rattle.law_phases.specs.Trees.{JournalEntry, PhasedNet}
use Rattle.law_phases.specs.Runs.{PhasedRun}
use Rattle.law_phases.specs.AtMoments.{states, net_seen, inbox_at}
use Rattle.law_phases.specs.Owing.{IsPublishedIn}
use Rattle.law_phases.specs.Routes.{Routed, IsRoutedOn}

-- in a list one thing stands before another
pub record StandsBefore {X : Type 0} (list : List X) (one other : X) : Type 0 where
  pub place : ℕ
  pub later : ℕ
  pub before : place < later
  pub here : slice_get list place ≡ Some one
  pub there : slice_get list later ≡ Some other

-- from one thing to another there is a chain by these between, each of which is related to the next
abbrev pub IsChain : {X : Type 0} → (X → X → Type 0) → X → List X → X → Type 0
IsChain related one [] other = related one other
IsChain related one (next ∷ between) other = related one next × IsChain related next between other

-- BARRIER ORDER: the phases of a list of publications never fall
abbrev pub AreByPhase : (theory : Theory) → PhasedNet theory → List (Publication theory) → Type 0
AreByPhase theory net publications = (one other : Publication theory) (phase next : ℕ) → StandsBefore publications one other
    → IsPublishedIn theory net phase one → IsPublishedIn theory net next other → phase ≤ next

module _ (theory : Theory) (run : PhasedRun theory) where
  -- the entry after n others publishes it: it is its publisher's next command, and accepted
  pub record IsMadeAt (n : ℕ) (publication : Publication theory) : Type 0 where
    pub entry : JournalEntry
    pub at : slice_get run.journal n ≡ Some entry
    pub server : entry.server ≡ run.net.home publication.publisher
    pub act : entry.act ≡ Did (NextCommand publication.publisher)
    pub phase : ℕ
    pub published : IsPublishedIn theory run.net phase publication
    pub next : published.index ≡ ((states theory run n).state (run.net.home publication.publisher)).done publication.publisher

  -- AT A SERVER: one publication passed the home of another's publisher before that was published there
  pub record IsMadeBehind (one other : Publication theory) : Type 0 where
    pub moment : ℕ
    pub interface : ℕ
    pub routed : IsRoutedOn theory run (net_seen theory run moment) moment (run.net.home other.publisher) interface one
    pub made : ℕ
    pub makes : IsMadeAt made other
    pub follows : moment < made

  -- AT A CLIENT: the publisher of another had been given it when it published
  pub record IsMadeKnowing (one other : Publication theory) : Type 0 where
    pub made : ℕ
    pub makes : IsMadeAt made other
    pub known : Has one (inbox_at theory run made (run.net.home other.publisher) other.publisher)

  -- or had published it itself
  pub record IsMadeAfter (one other : Publication theory) : Type 0 where
    pub one_publisher : one.publisher ≡ other.publisher
    pub moment : ℕ
    pub first : IsMadeAt moment one
    pub made : ℕ
    pub makes : IsMadeAt made other
    pub follows : moment < made

  -- HAPPENED BEFORE, as clients see it: a chain of publications, each of which was published by a client that had been given the one before it, or had
  -- published that itself
  abbrev pub HappensBefore : Publication theory → List (Publication theory) → Publication theory → Type 0
  HappensBefore one between other = IsChain (λ x y. IsMadeKnowing x y ⊎ IsMadeAfter x y) one between other

  -- the same at servers, where each need but have passed the server of the next one's publisher
  abbrev pub PassesBefore : Publication theory → List (Publication theory) → Publication theory → Type 0
  PassesBefore one between other = IsChain IsMadeBehind one between other

  -- two entries at one server that route publications, of which the one passed before the other was published
  pub record PassBehind : Type 0 where
    pub one : Routed theory run
    pub other : Routed theory run
    pub one_server : one.server ≡ other.server
    pub between : List (Publication theory)
    pub before : PassesBefore one.publication between other.publication

  -- CAUSAL ORDER: a client's inbox that has both, after n entries, has them in this order
  abbrev pub AreGivenInOrder : ℕ → ℕ → ℕ → Publication theory → Publication theory → Type 0
  AreGivenInOrder n server client one other =
      Has one (inbox_at theory run n server client) → Has other (inbox_at theory run n server client)
      → StandsBefore (inbox_at theory run n server client) one other
