-- A run at its moments: what the last entry left, and what the next one finds.
use Rattle.std.specs.Prelude.{◌≡◌, ℕ, suc, ◌<◌, List, ◌++◌}
use Rattle.law_machine.specs.Machine.{Stamped, stamped, receivers}
use Rattle.law_machine.specs.Network.{messages_of}
use Rattle.law_routing.specs.Theory.{Theory}
use Rattle.law_routing.specs.Net.{Net, PhasedCommand}
use Rattle.base.specs.Sets.{Has}
use Rattle.law_routing.specs.Server.{Message, Publication}
use Rattle.law_routing.specs.Routing.{Network}
use Rattle.law_routing.specs.Rest.{IsDrained}
use Rattle.law_phases.specs.Trees.{JournalEntry, State, on, entry_on, PhasedNet, net_at, machine_at, at_phase, IsQuietOn, IsThroughOn, IsAtRestOn}
use Rattle.law_phases.specs.Moments.{Moment, opening_moment, moment_after, found_after}
use Rattle.law_phases.specs.Runs.{PhasedRun, IsPhasedStep, IsRunTo}
use Rattle.law_phases.specs.Walk.{walk_of}

module _ (theory : Theory) (run : PhasedRun theory) where
  -- the state after n entries
  abbrev pub states : ℕ → State theory
  states n = (moment_after theory run.net (opening_moment theory run.net) run.journal n).state

  -- the phase of the last command after n entries
  abbrev pub phases : ℕ → ℕ
  phases n = (moment_after theory run.net (opening_moment theory run.net) run.journal n).phase

  -- the moment after n entries
  abbrev pub moment_at : ℕ → Moment theory run.net
  moment_at n = moment_after theory run.net (opening_moment theory run.net) run.journal n

  -- the same as the next entry finds it
  abbrev pub found_at : ℕ → Moment theory run.net
  found_at n = found_after theory run.net (opening_moment theory run.net) run.journal n

  -- the moment at the end
  abbrev pub end_moment : Moment theory run.net
  end_moment = record { state = run.end; phase = run.last }

  -- the entry after n others happens between its moments
  abbrev pub HappensAt : ℕ → JournalEntry → Type 0
  HappensAt n entry = IsPhasedStep theory run.net (moment_at n) (found_at n) (moment_at (suc n)) entry

  -- the messages that an entry puts for a neighbour, on the tree of its phase
  abbrev pub messages_at : ℕ → JournalEntry → ℕ → List (Message theory)
  messages_at n entry link =
      let found = found_at n in
      messages_of (machine_at theory run.net found.phase) (at_phase theory run.net found.phase found.state)
      (entry_on theory (net_at theory run.net found.phase) entry) link

  -- the same with its stamp
  abbrev pub stamped_at : ℕ → JournalEntry → ℕ → List (Stamped (Message theory))
  stamped_at n entry link = stamped (machine_at theory run.net (found_at n).phase) entry.stamp (messages_at n entry link)

  -- the neighbours for which there are some
  abbrev pub receivers_at : ℕ → JournalEntry → List ℕ
  receivers_at n entry =
      receivers (machine_at theory run.net (found_at n).phase) (messages_at n entry) ((net_at theory run.net (found_at n).phase).links entry.server)

  -- an entry puts its messages, with its stamp, behind what was put on the links of its server since the tree came, and records which neighbours got one
  pub record PutsMessagesAt (n : ℕ) (entry : JournalEntry) : Type 0 where
    pub puts : (link : ℕ) → (moment_at (suc n)).state.put entry.server link ≡ (found_at n).state.put entry.server link ++ stamped_at n entry link
    pub others : (from link : ℕ) → (from ≡ entry.server → ⊥) → (moment_at (suc n)).state.put from link ≡ (found_at n).state.put from link
    pub outs : entry.outs ≡ receivers_at n entry

  -- the state after n entries as the next entry finds it: where that begins a phase, after the beginning
  abbrev pub seen : ℕ → State theory
  seen n = (found_after theory run.net (opening_moment theory run.net) run.journal n).state

  -- and its phase, which is that of the next entry where that is a command: the tree at the moment n is the tree of this phase
  abbrev pub phase_seen : ℕ → ℕ
  phase_seen n = (found_after theory run.net (opening_moment theory run.net) run.journal n).phase

  -- the net on the tree that the last entry was made on
  abbrev pub net_then : ℕ → Net theory
  net_then n = net_at theory run.net (phases n)

  -- the net on the tree at a moment
  abbrev pub net_seen : ℕ → Net theory
  net_seen n = net_at theory run.net (phase_seen n)

  -- the states at all moments, on the tree of a net
  abbrev pub states_on : (net : Net theory) → ℕ → Network theory net
  states_on net n = on theory net (seen n)

  -- the next entry is of a later phase
  abbrev pub BeginsPhase : ℕ → Type 0
  BeginsPhase n = phases n < phases (suc n)

  -- after n entries all links are empty and nothing is pending
  abbrev pub IsQuietAt : ℕ → Type 0
  IsQuietAt n = IsQuietOn theory run.net (phases n) (states n)

  -- after n entries the network is at rest
  abbrev pub IsAtRestAt : ℕ → Type 0
  IsAtRestAt n = IsAtRestOn theory run.net (phases n) (states n)

  -- it is at rest as the next entry finds it
  abbrev pub IsFoundAtRest : ℕ → Type 0
  IsFoundAtRest n = IsAtRestOn theory run.net (phase_seen n) (seen n)

  -- what a server has executed of its clients' commands and delivered to them is what the next entry finds
  pub record KeepsClients (n server : ℕ) : Type 0 where
    pub done : ((seen n).state server).done ≡ ((states n).state server).done
    pub inbox : ((seen n).state server).inbox ≡ ((states n).state server).inbox

  -- the inbox of a client of a server after n entries
  abbrev pub inbox_at : ℕ → ℕ → ℕ → List (Publication theory)
  inbox_at n server client = ((states n).state server).inbox client

  -- the inbox of a client at the end
  abbrev pub inbox_of : ℕ → List (Publication theory)
  inbox_of client = (run.end.state (run.net.home client)).inbox client

  -- at the end all links are empty and nothing is pending
  abbrev pub EndsQuiet : Type 0
  EndsQuiet = IsQuietOn theory run.net run.last run.end

  -- at the end all commands of the phases below this one are executed
  abbrev pub EndsThrough : ℕ → Type 0
  EndsThrough phase = IsThroughOn theory run.net run.last run.end phase

  -- at the end all commands are executed, all links are empty and nothing is pending
  abbrev pub EndsDrained : Type 0
  EndsDrained = IsDrained theory (net_at theory run.net run.last) (at_phase theory run.net run.last run.end)

  -- from its end the walk of a net of so many phases is a legal run, and all is drained there
  pub record WalkDrains (count : ℕ) : Type 0 where
    pub drained : Moment theory run.net
    pub walks : IsRunTo theory run.net end_moment (walk_of theory run.net count end_moment) drained
    pub all : IsDrained theory (net_at theory run.net drained.phase) (at_phase theory run.net drained.phase drained.state)

-- entries are a legal run from the opening, and all is drained at its end
pub record DrainsBy (theory : Theory) (net : PhasedNet theory) (entries : List JournalEntry) : Type 0 where
  pub end : Moment theory net
  pub run : IsRunTo theory net (opening_moment theory net) entries end
  pub drained : IsDrained theory (net_at theory net end.phase) (at_phase theory net end.phase end.state)

-- all commands are of phases below this one
abbrev pub AllBelow : (theory : Theory) → PhasedNet theory → ℕ → Type 0
AllBelow theory net phase = (client : ℕ) (command : PhasedCommand theory) → Has command (net.script client) → command.phase < phase
