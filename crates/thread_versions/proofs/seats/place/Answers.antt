use Rattle.thread_versions.proofs.Chains.{admits}
use Rattle.thread_versions.proofs.seats.place.Goals as goal

pub reader-requires : goal.reader-requires
reader-requires g c = admits
