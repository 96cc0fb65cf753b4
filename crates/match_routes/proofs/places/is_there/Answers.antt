use Rattle.std.proofs.Common.{◌∙◌, sym}
use Rattle.std.proofs.lemmas.List.Sorted.{searched}
use Rattle.base_bits.proofs.Rising.{climbs}
use Rattle.match_routes.proofs.Searching.{found-there}
use Rattle.match_routes.proofs.places.is_there.Goals as goal

pub returns : goal.returns
returns c e = found-there c.args.interfaces.now c.args.interface c.binary_search.result (searched c.args.interfaces.now c.args.interface c.binary_search.result c.binary_search.ensures.position (climbs c.args.interfaces.now c.requires)) (sym c.is_ok.ensures.value ∙ e)
