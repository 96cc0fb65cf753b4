use Rattle.std.proofs.Common.{◌≡◌, ◌-◌, ℕ, suc, Some, map, length, slice_get}
use Rattle.base.specs.Sets.{Has}
use Rattle.base_tree.specs.Tree.{links_of}
use Rattle.server_spec.specs.declared.control.HeldLink.{HeldLink}
use Rattle.server_control.specs.Held.{NetHeld, held_in}
use Rattle.server_flow.specs.Rows.{RepresentsHeld}
use Rattle.server_flow.proofs.answer.all_links.Given as goal

abbrev pub invariant-loop-at : goal.invariant-loop-at
invariant-loop-at l = record {
  long : length l.held.items ≡ l.at - 1;
  links : (place : ℕ) (links : _) → slice_get l.held.items place ≡ Some links → map (λ (link : HeldLink). link.link) (held_in links.items) ≡ links_of l.tree (suc place);
  held : (place : ℕ) (links : _) → slice_get l.held.items place ≡ Some links → (link : NetHeld) → Has link links.items → RepresentsHeld l.tables l.table l.offers (suc place) link;
}
