-- What a turn leaves of a journal, and when no stamp is left.
use Rattle.std.proofs.Common.{◌≡◌, ℕ, List, sym, subst, ◌∙◌}
use Rattle.std.specs.Prelude.{Result, Ok, Err, IfOk, OnErr, IsErrOf}
use mathlib.Core.List.{IsPrefix}
use Rattle.net_model.specs.Parts.{EntryParts}
use Rattle.server_core.specs.declared.stepped.StepFault.{StepFault}
use Rattle.server_core.specs.declared.stepped.StepFault.TheVariants.{StampsExhausted}
use Rattle.thread_versions.specs.declared.ahead.Ahead.{Ahead}
use Rattle.thread_cell.specs.declared.held.ServerInHand.{ServerInHand}
use Rattle.thread_cell.specs.declared.held.Root.{Root}
use Rattle.net_model.specs.declared.turn.Act.{Act}
use Rattle.net_model.specs.declared.turn.Act.TheVariants.{Command}
use Rattle.thread_cell.specs.declared.turned.Turned.{Turned}
use Rattle.thread_cell.specs.declared.turned.Turned.TheVariants.{Made, Stale, Idle}
use Rattle.thread_cell.specs.Cell.{IsKept}
use Rattle.thread_cell.specs.Turns.{IsStill}
use Rattle.thread_cell.specs.Asked.{Answers, IsWorn}
use Rattle.thread_cell.specs.Ahead.{AnswersAhead}
use Rattle.thread_workers.specs.Journals.{IsWornBy}
use Rattle.thread_workers.proofs.Counted.{clock-kept}
use Rattle.thread_workers.proofs.Lists.{prefix-of, prefix-more}

module _ (old new : ServerInHand) (before after : List EntryParts) where
  -- a turn only adds to the journal
  pub grows : (phase : ℕ) (what : Act) (r : Result Turned StepFault) → IfOk r (Answers phase what old new before after) → OnErr r (IsStill old new before after) → IsPrefix before after
  grows phase what (Ok Made) a s = prefix-more before after _ a.turn.entry
  grows phase what (Ok Stale) a s = elim a [ ]
  grows phase what (Ok Idle) a s = prefix-of before after a.0.journal
  grows phase what (Err e) a s = prefix-of before after s.journal

  pub grows-ahead : (phase : ℕ) (what : Act) (ahead : Ahead) (r : Result Turned StepFault) → IfOk r (AnswersAhead phase what ahead old new before after) → OnErr r (IsStill old new before after) → IsPrefix before after
  grows-ahead phase what ahead (Ok Made) a s = prefix-more before after _ a.0.turn.entry
  grows-ahead phase what ahead (Ok Stale) a s = prefix-more before after _ a.0.turn.entry
  grows-ahead phase what ahead (Ok Idle) a s = prefix-of before after a.0.journal
  grows-ahead phase what ahead (Err e) a s = prefix-of before after s.journal

  same-after : (s : ℕ) (r : Result Turned StepFault) → OnErr r (IsStill old new before after) → IsErrOf r (StampsExhausted s) → after ≡ before
  same-after s (Ok t) still e = absurd cc
  same-after s (Err f) still e = still.journal

  -- where a command is refused for lack of stamps, the last one is the clock by the journal
  pub worn-by : (root then : Root) → IsKept root.net.value root before old → then ≡ root → (what : Act) (client s : ℕ) → what ≡ Command client → (r : Result Turned StepFault) → OnErr r (IsStill old new before after)
      → (IsErrOf r (StampsExhausted s) → IsWorn what s old new) → IsErrOf r (StampsExhausted s) → IsWornBy s then after
  worn-by root then kept same what client s is r still worn e =
      let w : IsWorn (Command client) s old new = subst (λ z. IsWorn z s old new) is (worn e) in
      subst (λ z. IsWornBy s z after) (sym same)
      (subst (IsWornBy s root) (sym (same-after s r still e)) (w.1, clock-kept root.net.value root before old kept ∙ w.0 ∙ sym w.1))
