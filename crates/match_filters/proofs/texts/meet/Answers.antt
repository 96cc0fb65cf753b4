use Rattle.std.proofs.Common.{◌∙◌, ap, sym, [], ◌∷◌}
use Rattle.std.specs.Option.{option_copied}
use Rattle.std.specs.Map.{keys_of}
use Rattle.std.proofs.lemmas.Map.Keys.{IsDistinct-from_sorted}
use Rattle.std.proofs.lemmas.Result.{on_ok_weaker}
use Rattle.filter_types.specs.Notice.{Attribute}
use Rattle.match_index.specs.Pairs.{ids_met}
use Rattle.match_index.specs.Keys.{key_cmp}
use Rattle.match_filters.specs.Index.{ids_satisfied}
use Rattle.match_filters.specs.Shelves.{uses_of}
use Rattle.match_filters.proofs.Same.{appends-none, appends-same}
use Rattle.match_filters.proofs.Satisfied.{meets-shelf, meets-none}
use Rattle.match_filters.proofs.texts.meet.Goals as goal

pub returns-in-Some : goal.returns-in-Some
returns-in-Some c =
    let a : Attribute = (c.args.name.now, c.args.value.now) in
    let es = c.args.shelves.now.entries in
    let pairs = c.in-Some.shelf.now in
    let same = meets-shelf c.bytes.result.now a pairs es c.bytes.ensures.bytes (IsDistinct-from_sorted key_cmp (keys_of es) c.len-size.ensures.ordered) (sym c.get.ensures.value ∙ ap option_copied c.in-Some.is) in
    on_ok_weaker c.hits.result (λ h. appends-same c.args.found.now.items c.hits.new.found.items (ids_met a.1 pairs) (ids_satisfied (a ∷ []) (uses_of es)) h same) c.hits.ensures

pub returns-in-None : goal.returns-in-None
returns-in-None c =
    let a : Attribute = (c.args.name.now, c.args.value.now) in
    let es = c.args.shelves.now.entries in
    appends-same c.args.found.now.items c.args.found.now.items [] (ids_satisfied (a ∷ []) (uses_of es)) (appends-none c.args.found.now.items) (meets-none c.bytes.result.now a es c.bytes.ensures.bytes (sym c.get.ensures.value ∙ ap option_copied c.in-None.is))
