-- What was made before memory ran out: a beginning of what was to be made.
use Rattle.std.proofs.Common.{◌≡◌, ℕ, suc, ◌-◌, ◌<◌, List, [], ◌++◌, take, drop, Result, Ok, Err, OnErr, refl, sym, ap, subst, ◌∙◌}
use Rattle.std.proofs.lemmas.List.{append-nil, append_assoc, map-append, take-append-drop}
use Rattle.law_phases.specs.Runs.{Turn}
use Rattle.net_model.specs.declared.turn.Turn.{Turn as NetTurn}
use Rattle.net_model.specs.Nets.{phases_of}
use Rattle.net_turns.specs.Network.{NetworkParts, network_parts}
use Rattle.net_turns.specs.Turns.{AreMade, AreBegun}
use Rattle.net_turns.specs.Trying.{phase_turns}
use Rattle.net_turns.specs.Reading.{Reading, journal_read, moment_read, entries_tried, IsOnWay, Going, IsBegunOf, Begins, walk_left, phase_read, IsWalkedTo}
use Rattle.net_turns.proofs.Tries.{can-part}
use Rattle.net_turns.proofs.Walks.{walk-split, here-can}
use Rattle.net_turns.proofs.Replayed.{IsReplayedTo}

pub on-err : {T E P Q : Type 0} (r : Result T E) → (P → Q) → OnErr r P → OnErr r Q
on-err (Ok x) f p = tt
on-err (Err e) f p = f p

module _ (r : Reading) where
  -- nothing was made
  pub begun-none : (phase : ℕ) (turns : List Turn) (old new : NetworkParts) → new ≡ old → Begins r phase turns old new
  begun-none phase turns old new same can = record {
    made = [];
    later = same ∙ ap (network_parts old.net) (sym (append-nil old.journal));
    begins = (entries_tried r old phase turns, refl);
  }

  -- a part of what was left is begun
  breaks : (phase : ℕ) (turns part more : List Turn) (old middle new : NetworkParts) → IsOnWay r phase turns (part ++ more) old middle → Begins r phase part middle new
      → IsBegunOf r old new (entries_tried r old phase turns)
  breaks phase turns part more old middle new way begun = record {
    made = way.made ++ step.made;
    later = step.later ∙ ap (network_parts old.net) (append_assoc old.journal way.made step.made);
    begins = (
      step.begins.0 ++ after,
      ap (λ z. z ++ (step.begins.0 ++ after)) (map-append (r.entry_in old.net) way.made step.made)
          ∙ append_assoc (journal_read r old.net way.made) (journal_read r old.net step.made) (step.begins.0 ++ after)
          ∙ ap (λ z. journal_read r old.net way.made ++ z) (sym (append_assoc (journal_read r old.net step.made) step.begins.0 after) ∙ ap (λ z. z ++ after) step.begins.1
          ∙ sym (r.two_lists old.net phase (moment_read r old.net (old.journal ++ way.made)) part more))
          ∙ sym way.whole,
    );
  }
    where
      here : NetworkParts
      here = network_parts old.net (old.journal ++ way.made)

      step : IsBegunOf r (network_parts old.net (old.journal ++ way.made)) new (entries_tried r (network_parts old.net (old.journal ++ way.made)) phase part)
      step = subst (λ z. Begins r phase part z new) way.later begun (can-part r phase part more here way.can)

      after : List (r.Entry old.net)
      after = r.entries_by old.net phase (r.turned old.net phase (moment_read r old.net (old.journal ++ way.made)) part) more

  pub going-breaks : (phase : ℕ) (turns left part more : List Turn) (old middle new : NetworkParts) → left ≡ part ++ more → Going r phase turns left old middle → Begins r phase part middle new → Begins r phase turns old new
  going-breaks phase turns left part more old middle new e way begun can = breaks phase turns part more old middle new (subst (λ z. IsOnWay r phase turns z old middle) e (way can)) begun

  -- a phase of the walk was begun
  pub walk-begun : (phase : ℕ) (old middle new : NetworkParts) → IsWalkedTo r phase old middle → phase < phases_of middle.net → Begins r phase (phase_turns middle.net (r.tree_phase phase)) middle new
      → IsBegunOf r old new (walk_left r old (phase_read r old))
  walk-begun phase old middle new so less begun = record {
    made = so.made ++ step.made;
    later = step.later ∙ ap (network_parts old.net) (append_assoc old.journal so.made step.made);
    begins = (
      step.begins.0 ++ more,
      ap (λ z. z ++ (step.begins.0 ++ more)) (map-append (r.entry_in old.net) so.made step.made)
          ∙ append_assoc (journal_read r old.net so.made) (journal_read r old.net step.made) (step.begins.0 ++ more)
          ∙ ap (λ z. journal_read r old.net so.made ++ z) (sym (append_assoc (journal_read r old.net step.made) step.begins.0 more) ∙ ap (λ z. z ++ more) step.begins.1 ∙ sym (walk-split r here phase fewer))
          ∙ sym so.whole,
    );
  }
    where
      here : NetworkParts
      here = network_parts old.net (old.journal ++ so.made)

      fewer : phase < phases_of old.net
      fewer = subst (λ (z : NetworkParts). phase < phases_of z.net) so.later less

      step : IsBegunOf r (network_parts old.net (old.journal ++ so.made)) new (entries_tried r (network_parts old.net (old.journal ++ so.made)) phase (phase_turns old.net (r.tree_phase phase)))
      step = subst (λ z. Begins r phase (phase_turns z.net (r.tree_phase phase)) z new) so.later begun (here-can r here phase fewer so.can)

      more : List (r.Entry old.net)
      more = r.walk_phases old.net (phases_of old.net - suc phase) (suc phase)
          (r.turned old.net phase (moment_read r old.net (old.journal ++ so.made)) (phase_turns old.net (r.tree_phase phase)))

  -- of the rest of a phase, where nothing was made before
  pub phase-begun : (phase : ℕ) (old middle new : NetworkParts) → middle ≡ old → IsBegunOf r middle new (entries_tried r middle phase (phase_turns middle.net (r.tree_phase phase)))
      → IsBegunOf r old new (entries_tried r old phase (phase_turns old.net (r.tree_phase phase)))
  phase-begun phase old middle new same begun = subst (λ z. IsBegunOf r z new (entries_tried r z phase (phase_turns z.net (r.tree_phase phase)))) same begun

-- of a schedule the first turns were made, and then nothing more
pub replay-begun : (turns : List (ℕ × NetTurn)) (old now new : NetworkParts) (i : ℕ) → IsReplayedTo i turns old now → new ≡ now → AreBegun turns old new
replay-begun turns old now new i so same = record {
  first = take i turns;
  begins = (drop i turns, take-append-drop i turns);
  net = ap (λ (z : NetworkParts). z.net) same ∙ so.net;
  made = subst (λ (z : NetworkParts). AreMade old.net old.journal (take i turns) z.journal) (sym same) so.made;
}
