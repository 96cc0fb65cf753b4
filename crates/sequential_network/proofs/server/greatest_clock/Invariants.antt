use Rattle.std.proofs.Common.{◌≡◌, ◌<◌, ◌^◌, max, drop}
use Rattle.sequential_network.specs.Stepping.{greatest_clock}
use Rattle.sequential_network.proofs.server.greatest_clock.Given as goal

abbrev pub invariant-loop-place : goal.invariant-loop-place
invariant-loop-place g l = (max l.greatest (greatest_clock g.P.Server.stepping (drop l.place-index l.places)) ≡ greatest_clock g.P.Server.stepping l.places) × (l.greatest < 2 ^ 62)
