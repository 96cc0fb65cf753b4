use Rattle.std.proofs.Common.{◌≡◌, map, take}
use Rattle.server_spec.specs.declared.control.HeldLink.{HeldLink}
use Rattle.server_control.specs.Held.{held_in}
use Rattle.server_core.proofs.linking.links_of.Given as goal

abbrev pub invariant-loop-one : goal.invariant-loop-one
invariant-loop-one l = l.links.items ≡ map (λ (h : HeldLink). h.link) (take l.one-index (held_in l.held))
