use Rattle.thread_versions.proofs.Chains.{sees}
use Rattle.thread_versions.proofs.matching.try_match.Goals as goal

pub enter_as-requires : goal.enter_as-requires
enter_as-requires c = sees _ _
