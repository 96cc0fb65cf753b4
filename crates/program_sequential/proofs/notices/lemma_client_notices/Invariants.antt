use Rattle.std.proofs.Common.{drop}
use Rattle.program_sequential.specs.Promise.{AreOfNotices}
use Rattle.program_sequential.proofs.notices.lemma_client_notices.Given as goal

abbrev pub invariant-loop-client : goal.invariant-loop-client
invariant-loop-client l = AreOfNotices (drop l.client-index l.clients) → AreOfNotices l.clients
