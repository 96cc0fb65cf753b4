use Rattle.std.proofs.Common.{◌≡◌, ℕ, length, slice_get, Some}
use Rattle.server_flow.specs.Homes.{NetHome}
use Rattle.thread_cell.specs.Cell.{CellParts}
use Rattle.thread_cell.specs.Relinking.{RepresentsHome}
use Rattle.thread_cell.proofs.homes.homes.Given as goal

abbrev pub invariant-loop-cell : goal.invariant-loop-cell
invariant-loop-cell l = record {
  long : length l.homes.items ≡ l.cell-index;
  homes : (place : ℕ) (cell : CellParts) (home : NetHome) → slice_get l.cells place ≡ Some cell → slice_get l.homes.items place ≡ Some home → RepresentsHome cell.held.core home;
}
