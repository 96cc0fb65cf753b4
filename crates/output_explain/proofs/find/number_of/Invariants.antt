use Rattle.std.proofs.Common.{◌≡◌, drop}
use Rattle.output_explain.specs.Asked.{number_from, number_of}
use Rattle.output_explain.proofs.find.number_of.Given as goal

abbrev pub invariant-loop-place : goal.invariant-loop-place
invariant-loop-place l = number_from l.place l.name (drop l.place l.clients) ≡ number_of l.name l.clients
