use Rattle.std.proofs.Common.{◌≡◌, take}
use Rattle.server_message.specs.Message.{represented}
use Rattle.server_message.specs.declared.load.Load.TheVariants as loads
use Rattle.server_core.specs.Acting.{sent_on}
use Rattle.hierarchy_network.specs.Acting.{links_from}
use Rattle.hierarchy_network.proofs.acting.onward.Given as goal

abbrev pub invariant-loop-link : goal.invariant-loop-link
invariant-loop-link l = l.sent.items ≡ sent_on l.fn.tables (represented l.fn.tables (loads.Publication l.fn.number)) (links_from l.fn.master l.fn.from l.fn.route (take l.link-index l.fn.links))
