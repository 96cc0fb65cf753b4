use Rattle.std.proofs.Common.{◌∙◌}
use Rattle.std.proofs.lemmas.List.Sorted.{searched}
use Rattle.base_bits.proofs.Rising.{climbs}
use Rattle.thread_versions.proofs.Applied.{found-member}
use Rattle.thread_versions.proofs.applying.is_there.Goals as goal

pub returns : goal.returns
returns c =
    let xs = c.args.interfaces.now in
    c.is_ok.ensures.value ∙ found-member xs c.args.interface c.binary_search.result (searched xs c.args.interface c.binary_search.result c.binary_search.ensures.position (climbs xs c.requires))
