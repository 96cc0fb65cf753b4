use Rattle.std.proofs.Common.{◌≡◌, ℕ, length, slice_get, Some, refl, subst}
use Rattle.std.proofs.lemmas.Option.{slice_get_read}
use Rattle.server_flow.specs.Homes.{NetHome}
use Rattle.thread_cell.specs.Cell.{CellParts}
use Rattle.thread_cell.specs.Relinking.{RepresentsHome}
use Rattle.thread_cell.proofs.homes.homes.Goals as goal
use Rattle.base.proofs.Lists.{get-one, each-get-push-is, length-push-is}

pub loop-cell-preserved : goal.loop-cell-preserved
loop-cell-preserved c =
    let at = slice_get_read c.args.cells.now (length c.args.cells.now) c.loop-cell.cell-index c.cell-item.result refl c.loop-cell-test.true c.cell-item.is in
    let P : ℕ → NetHome → Type 0 = λ place home. (cell : CellParts) → slice_get c.args.cells.now place ≡ Some cell → RepresentsHome cell.held.core home in
    let here : P (length c.loop-cell.homes.items) c.in_ok-home_of.field-0 = λ cell e.
    subst (λ (z : CellParts). RepresentsHome z.held.core c.in_ok-home_of.field-0) (get-one c.args.cells.now c.loop-cell.cell-index c.cell-item.result cell at (subst (λ z. slice_get c.args.cells.now z ≡ Some cell) c.loop-cell.invariant.long e))
    (subst (λ z. RepresentsHome z c.in_ok-home_of.field-0) c.core.ensures c.in_ok-home_of.ensures) in
    record {
      long = length-push-is c.loop-cell.homes.items c.push.new.self.items c.in_ok-home_of.field-0 c.loop-cell.cell-index c.in_ok-push.ensures.items c.loop-cell.invariant.long;
      homes = λ place cell home a b. each-get-push-is P c.loop-cell.homes.items c.push.new.self.items c.in_ok-home_of.field-0 c.in_ok-push.ensures.items here (λ place home b cell a. c.loop-cell.invariant.homes place cell home a b) place home b cell a;
    }
