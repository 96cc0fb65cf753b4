use Rattle.std.proofs.Common.{◌≡◌, take}
use Rattle.server_message.specs.Message.{represented}
use Rattle.server_message.specs.declared.load.Load.TheVariants as loads
use Rattle.server_core.specs.Acting.{links_on, sent_on}
use Rattle.server_core.proofs.spreading.sendings.Given as goal

abbrev pub invariant-loop-link : goal.invariant-loop-link
invariant-loop-link l = l.sent.items ≡ sent_on l.fn.tables (represented l.fn.tables (loads.Publication l.fn.number)) (links_on l.fn.links l.fn.from (take l.link-index l.fn.route))
