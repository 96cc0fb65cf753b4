use Rattle.std.proofs.Common.{◌≡◌, take}
use Rattle.output_report.specs.Published.{texts_in}
use Rattle.output_report.proofs.publish.texts_in.Given as goal

abbrev pub invariant-loop-client : goal.invariant-loop-client
invariant-loop-client l = l.texts.items ≡ texts_in (take l.client-index l.clients)
