use Rattle.std.proofs.Common.{◌≡◌, false, drop}
use Rattle.output_explain.specs.Stays.{is_there}
use Rattle.output_explain.proofs.stay.is_there.Given as goal

abbrev pub invariant-loop-command : goal.invariant-loop-command
invariant-loop-command g l = is_there (g.L.Listing.effect l.item) l.there (drop l.command-index l.commands) ≡ is_there (g.L.Listing.effect l.item) false l.commands
