-- Turns of a schedule: those that are made, and the first that is not permitted.
use Rattle.std.proofs.Common.{◌≡◌, ℕ, true, List, [], ◌++◌, refl, sym, subst}
use Rattle.net_model.specs.declared.turn.Turn.{Turn}
use Rattle.net_model.specs.Parts.{NetParts, EntryParts}
use Rattle.net_model.specs.Meaning.{journal_of}
use Rattle.net_turns.specs.Network.{NetworkParts, network_parts, IsDrainedBy}
use Rattle.net_turns.specs.Turns.{AreMade, AreReplayed, StopsAt}
use Rattle.net_turns.specs.Walked.{walk_after, IsWalked}
use Rattle.net_turns.specs.declared.replaying.ReplayFault.{ReplayFault}
use Rattle.net_turns.specs.declared.replaying.ReplayFault.TheVariants as told
use Rattle.document_reader.specs.declared.fault.Fault.{Fault}
use Rattle.document_reader.specs.declared.fault.Fault.TheVariants.{BadTurn}
use Rattle.program_sequential.specs.declared.words.Schedule.{Schedule}
use Rattle.program_sequential.specs.declared.words.Schedule.TheVariants.{Walk, Replay, Threads}
use Rattle.program_sequential.specs.Words.{is_quiet}
use Rattle.program_sequential.specs.Runs.{turns_first, GoesBy}
use Rattle.net_turns.specs.Stopping.{StopsAtLine}
use Rattle.net_turns.proofs.Stopping.{from-start}
use Rattle.program_sequential.specs.Ran.{IsRunThrough}
use Rattle.program_sequential.specs.Faults.{fault_of_turn}
use Rattle.document_reader.specs.declared.fault.InputFault.TheVariants as inputs

pub stops-at : (schedule : Schedule) (net : NetParts) (start new : NetworkParts) (turns : List (ℕ × Turn)) (line : ℕ) → start ≡ network_parts net [] → turns ≡ turns_first schedule net
    → StopsAt line turns start new → StopsAtLine net [] (turns_first schedule net) line
stops-at schedule net start new turns line e f s =
    subst (λ z. StopsAtLine net [] z line) f (from-start net turns line new (subst (λ z. StopsAt line turns z new) e s))

-- what is told of it
pub told-turn : (fault : ReplayFault) (line : ℕ) (kind : Fault) → fault_of_turn fault ≡ inputs.Bad line kind → (kind ≡ BadTurn) × (fault ≡ told.BadTurn line)
told-turn (told.BadTurn l) line kind e = (cc, cc)
told-turn told.NoMemory line kind e = absurd cc

-- a journal goes by its schedule
pub goes-by : (schedule : Schedule) → is_quiet schedule ≡ true → (net : NetParts) (turned made : List EntryParts) → AreMade net [] (turns_first schedule net) turned → journal_of made ≡ walk_after net turned
    → GoesBy schedule net (turned ++ made)
goes-by Walk quiet net turned made first walk =
    subst (λ z. journal_of (z ++ made) ≡ walk_after net []) first (subst (λ z. journal_of made ≡ walk_after net z) (sym first) walk)
goes-by Threads quiet net turned made first walk = absurd cc
goes-by Replay quiet net turned made first walk = record { turned = turned; walked = made; whole = refl; made = first; walk = walk }

walked-on : (schedule : Schedule) → is_quiet schedule ≡ true → (net : NetParts) (mid end : NetworkParts) → mid.net ≡ net → AreMade net [] (turns_first schedule net) mid.journal → IsWalked mid end
    → IsRunThrough schedule net end
walked-on schedule quiet net mid end e made w =
    subst (IsRunThrough schedule net) (sym w.later) (record {
      same = e;
      permitted = (mid.journal, made);
      goes_by = goes-by schedule quiet net mid.journal w.made made (subst (λ n. journal_of w.made ≡ walk_after n mid.journal) e w.walk);
      drained = subst (λ n. IsDrainedBy n (mid.journal ++ w.made)) e w.drained;
    })

-- a network that made its turns and then the walk is through
pub through : (schedule : Schedule) → is_quiet schedule ≡ true → (net : NetParts) (start mid end : NetworkParts) (turns : List (ℕ × Turn)) → start ≡ network_parts net [] → turns ≡ turns_first schedule net
    → AreReplayed turns start mid → IsWalked mid end → IsRunThrough schedule net end
through schedule quiet net start mid end turns e f r w =
    let s : AreReplayed (turns_first schedule net) (network_parts net []) mid =
    subst (λ z. AreReplayed z (network_parts net []) mid) f (subst (λ z. AreReplayed turns z mid) e r) in
    walked-on schedule quiet net mid end s.net s.made w
