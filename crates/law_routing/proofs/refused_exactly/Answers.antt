use Rattle.std.proofs.Common.{take}
use Rattle.law_routing.proofs.Refusals.{refused-exactly}
use Rattle.law_routing.proofs.refused_exactly.Goals as goal

pub returns : goal.returns
returns hold c net client j r = refused-exactly hold.M.Matching.theory net (take j (net.script client)) r
