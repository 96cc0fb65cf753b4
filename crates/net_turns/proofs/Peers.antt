-- The kind of the network of peers: the trees of its phases, and the laws of its turns.
use Rattle.std.proofs.Common.{◌≡◌, ℕ, ◌<◌, ◌≤◌, length, Bool, true, false, [], ◌∷◌, slice_get, refl, subst}
use Rattle.law_machine.specs.Walk.{is_of_phase}
use Rattle.law_phases.specs.Moments.{found_of}
use Rattle.law_phases.specs.Trees.{machine_at}
use Rattle.law_phases.specs.Turns.{turn_phase}
use Rattle.net_model.specs.Real.{real}
use Rattle.net_model.specs.declared.turn.Turn.{Turn as NetTurn}
use Rattle.net_model.specs.declared.turn.Turn.TheVariants as turns
use Rattle.net_model.specs.Meaning.{journal_of}
use Rattle.net_model.specs.Nets.{phased_net, home_of, script_of, turn_of}
use Rattle.net_turns.specs.Network.{NetworkParts, moment_by, next_phase_by, IsLegal, IsDrainedBy}
use Rattle.net_turns.specs.Turns.{IsTurn}
use Rattle.net_turns.specs.Told.{told_of, told_by}
use Rattle.net_turns.specs.Trying.{command_turn, phase_turns}
use Rattle.net_turns.specs.Walked.{IsWalked, IsWalkBegun, IsPhaseOf, IsPhaseWalked, IsPhaseBegun}
use Rattle.net_turns.specs.Reading.{Tries, Going, Begins, IsTried, IsBegunOf, IsWalkedTo, AreEmpty, walk_left, phase_read, entries_tried}
use Rattle.net_turns.proofs.Again.{IsRetoldTo, retold-none, retold-more, retold-all}
use Rattle.net_turns.proofs.Begun.{begun-none, going-breaks, walk-begun, phase-begun}
use Rattle.net_turns.proofs.Commands.{own-phase, skipped}
use Rattle.net_turns.proofs.Later.{later-turn}
use Rattle.net_turns.proofs.PeersReading.{peers_reading, first-can}
use Rattle.net_turns.proofs.Rounds.{fewer-entries}
use Rattle.net_turns.proofs.Tries.{idle, made-tries, barred-tries, going-starts, going-on, going-ends, going-rests}
use Rattle.net_turns.proofs.Turns.{made-nothing}
use Rattle.net_turns.proofs.Walks.{walk-starts, walk-on, walk-ends, walked-later, walk-can, walk-drained, empty-none, empty-more, phase-tried, some-made}
use Rattle.net_turns.specs.Kinds.{Trying, Walking, Telling}

-- the turn of a call, where it is of the phase, or of none
pub turn-tries : (made : Bool) (turn : NetTurn) (old new : NetworkParts) → IsTurn made turn old new → (phase : ℕ)
    → is_of_phase (machine_at real (phased_net old.net) phase) phase (turn_phase real (phased_net old.net) (moment_by old.net old.journal) (turn_of old.net turn)) ≡ true
    → Tries peers_reading phase (turn_of old.net turn ∷ []) old new
turn-tries true turn old new x phase own = made-tries peers_reading phase (turn_of old.net turn) x.entry old new x.later own x.permitted
turn-tries false turn old new (same, barred) phase own = barred-tries peers_reading phase (turn_of old.net turn) old new same barred

abbrev pub peers_trying : Trying
peers_trying = record {
  IsLegal = IsLegal;
  IsTurn = IsTurn;
  phase_by = λ net journal. (moment_by net journal).phase;
  next_phase_by = next_phase_by;
  tree_phase = λ phase. phase;
  Tries = Tries peers_reading;
  Begins = Begins peers_reading;
  Going = Going peers_reading;
  turn_none = λ turn old new x. x.0;
  turn_later = later-turn;
  tries_command = λ made client phase old new x own. turn-tries made (turns.Command client) old new x phase
      (own-phase old.net (slice_get (script_of old.net client) (((moment_by old.net old.journal).state.state (home_of old.net client)).done client)) phase phase (moment_by old.net old.journal).phase own);
  tries_take = λ made server from phase old new x. turn-tries made (turns.Receive server from) old new x phase refl;
  tries_update = λ made server phase old new x. turn-tries made (turns.TableUpdate server) old new x phase refl;
  idle = λ client phase network other. idle peers_reading phase (command_turn network.net client) network
      (made-nothing real (phased_net network.net) phase (moment_by network.net network.journal) (command_turn network.net client) [] (skipped network.net (moment_by network.net network.journal) client phase other));
  going_starts = going-starts peers_reading;
  going_on = going-on peers_reading;
  going_ends = going-ends peers_reading;
  going_rests = going-rests peers_reading;
  begun_none = begun-none peers_reading;
  going_breaks = going-breaks peers_reading;
  fewer_entries = fewer-entries;
}

-- of the walk a beginning was made, or of the rest of a phase; and the rest of a phase was made
pub walk-is-begun : (old new : NetworkParts) → IsBegunOf peers_reading old new (walk_left peers_reading old (phase_read peers_reading old)) → IsWalkBegun old new
walk-is-begun old new begun = record { made = begun.made; later = begun.later; begins = begun.begins }

pub phase-is-begun : (phase : ℕ) (old new : NetworkParts) → (moment_by old.net old.journal).phase ≤ phase → AreEmpty peers_reading old phase
    → IsBegunOf peers_reading old new (entries_tried peers_reading old phase (phase_turns old.net phase)) → IsPhaseBegun old new
phase-is-begun phase old new from empty begun = record { phase = phase; from = from; first = empty; made = begun.made; later = begun.later; begins = begun.begins }

pub phase-is-walked : (phase : ℕ) (old new : NetworkParts) → (moment_by old.net old.journal).phase ≤ phase → AreEmpty peers_reading old phase
    → IsTried peers_reading phase (phase_turns old.net phase) old new → length old.journal < length new.journal → IsPhaseWalked old new
phase-is-walked phase old new from empty tried more = record {
  phase = phase;
  from = from;
  first = empty;
  made = tried.made;
  some = some-made old new tried.made tried.later more;
  later = tried.later;
  walk = tried.entries;
}

abbrev pub peers_walking : Walking peers_trying
peers_walking = record {
  IsWalked = IsWalked;
  IsWalkBegun = IsWalkBegun;
  IsPhaseOf = IsPhaseOf;
  IsPhaseBegun = IsPhaseBegun;
  IsWalkedTo = IsWalkedTo peers_reading;
  AreEmpty = AreEmpty peers_reading;
  walk_starts = λ network sound legal phase e. walk-starts peers_reading network phase e (first-can network.net network.journal sound legal);
  walk_on = walk-on peers_reading;
  walk_ends = λ phase old new so past. record {
    made = so.made;
    later = so.later;
    walk = (walk-ends peers_reading phase old new so past).walk;
    drained = (walk-ends peers_reading phase old new so past).drained;
  };
  walked_later = walked-later peers_reading;
  walk_begun = λ phase old middle new so less begun. walk-is-begun old new (walk-begun peers_reading phase old middle new so less begun);
  empty_none = empty-none peers_reading;
  empty_more = λ phase old middle new walked less empty same tries still. empty-more peers_reading phase old middle new empty same (tries (walk-can peers_reading phase old middle walked less)) still;
  phase_walked = λ phase old middle new walked less from empty same tries more.
      phase-is-walked phase old new from empty (phase-tried peers_reading phase old middle new same (tries (walk-can peers_reading phase old middle walked less))) more;
  phase_begun = λ phase old middle new walked less from empty same begun.
      phase-is-begun phase old new from empty (phase-begun peers_reading phase old middle new same (begun (walk-can peers_reading phase old middle walked less)));
  none_left = λ phase old new walked past same. (same, subst (λ (z : NetworkParts). IsDrainedBy z.net z.journal) same (walk-drained peers_reading phase old new walked past));
}

abbrev pub peers_telling : Telling peers_trying
peers_telling = record {
  told_at = λ net journal n entry. told_of net (found_of real (phased_net net) (journal_of journal) n) entry;
  told_by = told_by;
  IsRetoldTo = IsRetoldTo;
  retold_none = retold-none;
  retold_more = retold-more;
  retold_all = retold-all;
}
