use Rattle.std.proofs.Common.{◌∙◌}
use Rattle.output_flood.proofs.Finding.{searched_found}
use Rattle.output_flood.proofs.meeting.is_found.Goals as goal

pub returns : goal.returns
returns c = c.is_ok.ensures.value ∙ searched_found c.args.places.now c.args.place c.binary_search.result c.binary_search.ensures.position c.requires
