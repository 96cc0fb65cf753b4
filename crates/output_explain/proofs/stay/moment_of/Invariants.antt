use Rattle.std.proofs.Common.{◌≡◌, ◌+◌, drop}
use Rattle.output_explain.specs.Stays.{moment_of}
use Rattle.output_explain.proofs.stay.moment_of.Given as goal

abbrev pub invariant-loop-command : goal.invariant-loop-command
invariant-loop-command g l = (moment_of (g.L.Listing.effect l.item) l.wanted l.taken (drop l.command-index l.commands) ≡ moment_of (g.L.Listing.effect l.item) l.wanted l.count l.commands)
    × (l.taken ≡ l.count + l.command-index)
