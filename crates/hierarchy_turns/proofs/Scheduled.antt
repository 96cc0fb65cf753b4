-- The kind of a hierarchy: the tree of phase 0 in all phases, and the laws of its turns.
use Rattle.std.proofs.Common.{◌≡◌, ℕ, ◌<◌, ◌≤◌, Bool, true, false, [], ◌∷◌, length, slice_get, refl, subst}
use Rattle.law_machine.specs.Machine.{act_phase}
use Rattle.law_machine.specs.Walk.{is_of_phase}
use Rattle.net_model.specs.declared.turn.Turn.{Turn as NetTurn}
use Rattle.net_model.specs.declared.turn.Turn.TheVariants as turns
use Rattle.net_model.specs.Nets.{home_of, script_of, turn_of}
use Rattle.net_turns.specs.Trying.{command_turn, phase_turns}
use Rattle.net_turns.specs.Kinds.{Trying, Walking, Telling}
use Rattle.net_turns.specs.Reading.{Tries, Going, Begins, IsTried, IsBegunOf, IsWalkedTo, AreEmpty, walk_left, phase_read, entries_tried}
use Rattle.net_turns.proofs.Begun.{begun-none, going-breaks, walk-begun, phase-begun}
use Rattle.net_turns.proofs.ToldAgain.{IsToldTo, told-none, told-all}
use Rattle.net_turns.proofs.Tries.{idle, made-tries, barred-tries, going-starts, going-on, going-ends, going-rests}
use Rattle.net_turns.proofs.Walks.{walk-starts, walk-on, walk-ends, walked-later, walk-can, walk-drained, empty-none, empty-more, phase-tried, some-made}
use Rattle.hierarchy_turns.specs.Network.{NetworkParts, servers_of, moment_by, next_phase_by, IsLegal, IsDrainedBy}
use Rattle.hierarchy_turns.specs.Told.{found_of, told_of, told_by}
use Rattle.hierarchy_turns.specs.Turns.{IsTurn}
use Rattle.hierarchy_turns.specs.Walked.{IsWalked, IsWalkBegun, IsPhaseOf, IsPhaseWalked, IsPhaseBegun}
use Rattle.hierarchy_turns.proofs.Again.{hierarchy_texts, retold-more}
use Rattle.hierarchy_turns.proofs.Commands.{own-phase, skipped, later-turn}
use Rattle.hierarchy_turns.proofs.HierarchyReading.{hierarchy_reading, first-can}
use Rattle.hierarchy_turns.proofs.Rounds.{fewer-entries}
use Rattle.hierarchy_turns.proofs.Turned.{made-nothing}

-- the turn of a call, where it is of the phase, or of none
pub turn-tries : (made : Bool) (turn : NetTurn) (old new : NetworkParts) → IsTurn made turn old new → (phase : ℕ)
    → is_of_phase (servers_of old.net) phase (act_phase (servers_of old.net) (turn_of old.net turn).0 ((moment_by old.net old.journal).network.state (turn_of old.net turn).0) (turn_of old.net turn).1) ≡ true
    → Tries hierarchy_reading phase (turn_of old.net turn ∷ []) old new
turn-tries true turn old new x phase own = made-tries hierarchy_reading phase (turn_of old.net turn) x.entry old new x.later own x.permitted
turn-tries false turn old new (same, barred) phase own =
    barred-tries hierarchy_reading phase (turn_of old.net turn) old new same (λ entry next permitted. barred entry next.network next.phase permitted)

-- HOW THE TURNS OF A HIERARCHY ARE TRIED
abbrev pub hierarchy_trying : Trying
hierarchy_trying = record {
  IsLegal = IsLegal;
  IsTurn = IsTurn;
  phase_by = λ net journal. (moment_by net journal).phase;
  next_phase_by = next_phase_by;
  tree_phase = λ phase. 0;
  Tries = Tries hierarchy_reading;
  Begins = Begins hierarchy_reading;
  Going = Going hierarchy_reading;
  turn_none = λ turn old new x. x.0;
  turn_later = later-turn;
  tries_command = λ made client phase old new x own. turn-tries made (turns.Command client) old new x phase
      (own-phase old.net (slice_get (script_of old.net client) (((moment_by old.net old.journal).network.state (home_of old.net client)).done client)) phase own);
  tries_take = λ made server from phase old new x. turn-tries made (turns.Receive server from) old new x phase refl;
  tries_update = λ made server phase old new x. turn-tries made (turns.TableUpdate server) old new x phase refl;
  idle = λ client phase network other. idle hierarchy_reading phase (command_turn network.net client) network
      (made-nothing (servers_of network.net) phase (moment_by network.net network.journal) (command_turn network.net client) [] (skipped network.net (moment_by network.net network.journal) client phase other));
  going_starts = going-starts hierarchy_reading;
  going_on = going-on hierarchy_reading;
  going_ends = going-ends hierarchy_reading;
  going_rests = going-rests hierarchy_reading;
  begun_none = begun-none hierarchy_reading;
  going_breaks = going-breaks hierarchy_reading;
  fewer_entries = λ net journal sound legal phase. fewer-entries net journal sound legal;
}

-- of the walk a beginning was made, or of the rest of a phase; and the rest of a phase was made
pub walk-is-begun : (old new : NetworkParts) → IsBegunOf hierarchy_reading old new (walk_left hierarchy_reading old (phase_read hierarchy_reading old)) → IsWalkBegun old new
walk-is-begun old new begun = record { made = begun.made; later = begun.later; begins = begun.begins }

pub phase-is-begun : (phase : ℕ) (old new : NetworkParts) → (moment_by old.net old.journal).phase ≤ phase → AreEmpty hierarchy_reading old phase
    → IsBegunOf hierarchy_reading old new (entries_tried hierarchy_reading old phase (phase_turns old.net 0)) → IsPhaseBegun old new
phase-is-begun phase old new from empty begun = record { phase = phase; from = from; first = empty; made = begun.made; later = begun.later; begins = begun.begins }

pub phase-is-walked : (phase : ℕ) (old new : NetworkParts) → (moment_by old.net old.journal).phase ≤ phase → AreEmpty hierarchy_reading old phase
    → IsTried hierarchy_reading phase (phase_turns old.net 0) old new → length old.journal < length new.journal → IsPhaseWalked old new
phase-is-walked phase old new from empty tried more = record {
  phase = phase;
  from = from;
  first = empty;
  made = tried.made;
  some = some-made old new tried.made tried.later more;
  later = tried.later;
  walk = tried.entries;
}

-- WHAT ITS WALK IS
abbrev pub hierarchy_walking : Walking hierarchy_trying
hierarchy_walking = record {
  IsWalked = IsWalked;
  IsWalkBegun = IsWalkBegun;
  IsPhaseOf = IsPhaseOf;
  IsPhaseBegun = IsPhaseBegun;
  IsWalkedTo = IsWalkedTo hierarchy_reading;
  AreEmpty = AreEmpty hierarchy_reading;
  walk_starts = λ network sound legal phase e. walk-starts hierarchy_reading network phase e (first-can network.net network.journal sound legal);
  walk_on = walk-on hierarchy_reading;
  walk_ends = λ phase old new so past. record {
    made = so.made;
    later = so.later;
    walk = (walk-ends hierarchy_reading phase old new so past).walk;
    drained = (walk-ends hierarchy_reading phase old new so past).drained;
  };
  walked_later = walked-later hierarchy_reading;
  walk_begun = λ phase old middle new so less begun. walk-is-begun old new (walk-begun hierarchy_reading phase old middle new so less begun);
  empty_none = empty-none hierarchy_reading;
  empty_more = λ phase old middle new walked less empty same tries still. empty-more hierarchy_reading phase old middle new empty same (tries (walk-can hierarchy_reading phase old middle walked less)) still;
  phase_walked = λ phase old middle new walked less from empty same tries more.
      phase-is-walked phase old new from empty (phase-tried hierarchy_reading phase old middle new same (tries (walk-can hierarchy_reading phase old middle walked less))) more;
  phase_begun = λ phase old middle new walked less from empty same begun.
      phase-is-begun phase old new from empty (phase-begun hierarchy_reading phase old middle new same (begun (walk-can hierarchy_reading phase old middle walked less)));
  none_left = λ phase old new walked past same. (same, subst (λ (z : NetworkParts). IsDrainedBy z.net z.journal) same (walk-drained hierarchy_reading phase old new walked past));
}

-- AND WHAT ITS MESSAGES ARE
abbrev pub hierarchy_telling : Telling hierarchy_trying
hierarchy_telling = record {
  told_at = λ net journal n entry. told_of net (found_of net journal n entry) entry;
  told_by = told_by;
  IsRetoldTo = IsToldTo hierarchy_texts;
  retold_none = told-none hierarchy_texts;
  retold_more = retold-more;
  retold_all = told-all hierarchy_texts;
}
