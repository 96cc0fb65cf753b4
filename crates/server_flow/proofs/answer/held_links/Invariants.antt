use Rattle.std.proofs.Common.{◌≡◌, map, take}
use Rattle.base.specs.Sets.{Has}
use Rattle.server_spec.specs.declared.control.HeldLink.{HeldLink}
use Rattle.server_control.specs.Held.{NetHeld, held_in}
use Rattle.server_flow.specs.Rows.{RepresentsHeld}
use Rattle.server_flow.proofs.answer.held_links.Given as goal

abbrev pub invariant-loop-of : goal.invariant-loop-of
invariant-loop-of l = record {
  links : map (λ (link : HeldLink). link.link) (held_in l.links.items) ≡ take l.of-index l.of-items;
  held : (link : NetHeld) → Has link l.links.items → RepresentsHeld l.tables l.table l.offers l.at link;
}
