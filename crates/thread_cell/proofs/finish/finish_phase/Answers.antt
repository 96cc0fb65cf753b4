use Rattle.std.proofs.Common.{◌∙◌, sym, subst, arith}
use Rattle.std.proofs.lemmas.Grind.{common_steps}
use Rattle.thread_cell.specs.Together.{AreTogether, IsWornSomewhere}
use Rattle.thread_cell.proofs.Emptied.{same-roots}
use Rattle.thread_cell.proofs.InHand.{all-in-hand, finished}
use Rattle.thread_cell.proofs.Growing.{grown-on, grown-sights}
use Rattle.thread_cell.proofs.finish.finish_phase.Goals as goal

pub returns-in-Ok-clause-finished : goal.returns-in-Ok-clause-finished
returns-in-Ok-clause-finished g c net phase together begun is =
    finished net phase c.walk_phase.new.cells (subst (AreTogether net phase) (sym c.walk_phase.ensures.roots) together) c.lemma_all_kept.ensures begun is c.in-Ok.ensures.done

pub returns-in_err-settle_all-in-Err-StampsExhausted-clause-roots : goal.returns-in_err-settle_all-in-Err-StampsExhausted-clause-roots
returns-in_err-settle_all-in-Err-StampsExhausted-clause-roots g c = same-roots _ _ c.settle_all.ensures.sights ∙ c.walk_phase.ensures.roots

pub returns-in_ok-settle_all-in-Err-StampsExhausted-clause-roots : goal.returns-in_ok-settle_all-in-Err-StampsExhausted-clause-roots
returns-in_ok-settle_all-in-Err-StampsExhausted-clause-roots g c = same-roots _ _ c.settle_all.ensures.sights ∙ c.walk_phase.ensures.roots

pub returns-in_ok-settle_all-in-Err-StampsExhausted-clause-worn : goal.returns-in_ok-settle_all-in-Err-StampsExhausted-clause-worn
returns-in_ok-settle_all-in-Err-StampsExhausted-clause-worn g c s e = subst (λ l. IsWornSomewhere s l) (sym c.settle_all.ensures.sights) (c.in-Err-StampsExhausted.ensures.worn s (grind (arith, common_steps, e, c.in-Err-StampsExhausted.field-0-is)))

pub returns-in_ok-settle_all-in-Err-StampsExhausted-clause-hand : goal.returns-in_ok-settle_all-in-Err-StampsExhausted-clause-hand
returns-in_ok-settle_all-in-Err-StampsExhausted-clause-hand g c s e net phase together begun is =
    all-in-hand net phase c.settle_all.new.cells (subst (AreTogether net phase) (sym (same-roots _ _ c.settle_all.ensures.sights ∙ c.walk_phase.ensures.roots)) together) c.lemma_all_kept-in-Err-StampsExhausted.ensures begun is c.in_ok-settle_all-in-Err-StampsExhausted.ensures.order

pub returns-in_err-settle_all-in-Err-StampsExhausted-clause-grown : goal.returns-in_err-settle_all-in-Err-StampsExhausted-clause-grown
returns-in_err-settle_all-in-Err-StampsExhausted-clause-grown g c =
    grown-on c.args.cells.now c.walk_phase.new.cells c.settle_all.new.cells c.walk_phase.ensures.grown (grown-sights c.walk_phase.new.cells c.settle_all.new.cells c.settle_all.ensures.sights)

pub returns-in_ok-settle_all-in-Err-StampsExhausted-clause-grown : goal.returns-in_ok-settle_all-in-Err-StampsExhausted-clause-grown
returns-in_ok-settle_all-in-Err-StampsExhausted-clause-grown g c =
    grown-on c.args.cells.now c.walk_phase.new.cells c.settle_all.new.cells c.walk_phase.ensures.grown (grown-sights c.walk_phase.new.cells c.settle_all.new.cells c.settle_all.ensures.sights)
