use Rattle.std.proofs.Common.{◌≡◌, take}
use Rattle.std.specs.List.{flat_map}
use Rattle.output_explain.specs.Prospects.{prospect_line}
use Rattle.output_explain.proofs.outlook.prospects_text.Given as goal

abbrev pub invariant-loop-prospect : goal.invariant-loop-prospect
invariant-loop-prospect l = l.out.items ≡ flat_map (prospect_line l.clients) (take l.prospect-index l.prospects)
