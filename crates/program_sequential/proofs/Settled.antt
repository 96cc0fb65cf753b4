-- In a drained run each message of a settled publication is received.
use Rattle.std.proofs.Common.{ℕ, List, [], ◌∷◌, arith}
use Rattle.std.proofs.lemmas.Option.{slice_get_within}
use Rattle.filter_types.specs.Notice.{Attribute}
use Rattle.law_routing.specs.Net.{Net}
use Rattle.law_routing.specs.Server.{Publication}
use Rattle.law_routing.specs.AsOf.{IsReceivedAlong}
use Rattle.law_phases.specs.Trees.{on}
use Rattle.law_phases.specs.Runs.{PhasedRun}
use Rattle.law_phases.specs.AtMoments.{EndsDrained, net_seen}
use Rattle.law_phases.specs.Settled.{IsSettledTo}
use Rattle.net_model.specs.Real.{real}
use Rattle.program_sequential.specs.Network.{IsSettledOn}

all-taken : (run : PhasedRun real) → EndsDrained real run → (net : Net real) (publisher ordinal : ℕ) (notice : List Attribute) (server : ℕ) (path : List ℕ)
    → IsReceivedAlong real net (λ n. on real net run.end) 0 publisher ordinal notice server path
all-taken run drained net publisher ordinal notice server [] = tt
all-taken run drained net publisher ordinal notice server (next ∷ path) = (
  (λ k x e m. (let l = slice_get_within (run.end.put server next) k x e in omega (arith, l, drained.quiet.empty server next))),
  all-taken run drained net publisher ordinal notice next path,
)

pub settled-to : (run : PhasedRun real) → EndsDrained real run → (publication : Publication real) (client : ℕ) → IsSettledOn real run publication client
    → IsSettledTo real run publication client
settled-to run drained publication client s = record {
  here = s.here;
  moment = s.moment;
  published = s.published;
  path = s.path;
  way = s.way;
  lives = s.lives;
  settled = s.settled;
  taken = λ one. all-taken run drained (net_seen real run s.moment) publication.publisher publication.ordinal publication.notice (run.net.home publication.publisher) s.path;
}
