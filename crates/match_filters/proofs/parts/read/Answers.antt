use Rattle.std.proofs.Common.{◌∙◌, ap, sym}
use Rattle.std.specs.Option.{option_copied}
use Rattle.std.specs.Map.{keys_of}
use Rattle.std.proofs.lemmas.Map.Keys.{IsDistinct-from_sorted}
use Rattle.std.proofs.lemmas.Result.{on_ok_weaker}
use Rattle.filter_types.specs.Notice.{Attribute}
use Rattle.match_index.specs.Keys.{key_cmp}
use Rattle.match_filters.proofs.RowLaws.{part-read, part-none}
use Rattle.match_filters.proofs.parts.read.Goals as goal

pub returns-in-Some : goal.returns-in-Some
returns-in-Some c =
    let a : Attribute = (c.args.name.now, c.args.value.now) in
    let es = c.args.parts.now.entries in
    on_ok_weaker c.read.result (λ h. part-read c.args.span c.bytes.result.now a c.in-Some.part.now es c.args.rows.now c.read.new.self c.bytes.ensures.bytes c.requires (IsDistinct-from_sorted key_cmp (keys_of es) c.len-size.ensures.ordered) (sym c.get.ensures.value ∙ ap option_copied c.in-Some.is) h) c.read.ensures

pub returns-in-None : goal.returns-in-None
returns-in-None c =
    let a : Attribute = (c.args.name.now, c.args.value.now) in
    part-none c.args.span c.bytes.result.now a c.args.parts.now.entries c.args.rows.now c.bytes.ensures.bytes (sym c.get.ensures.value ∙ ap option_copied c.in-None.is)
