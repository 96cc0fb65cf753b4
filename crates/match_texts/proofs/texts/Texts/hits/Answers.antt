use Rattle.std.proofs.Common.{◌∙◌, ap, sym}
use Rattle.match_index.specs.Pairs.{ids_met}
use Rattle.match_index.proofs.Appended.{nothing-appended}
use Rattle.match_texts.proofs.texts.Texts.hits.Goals as goal

pub returns-in_default : goal.returns-in_default
returns-in_default c =
    let v = c.args.value.now in
    nothing-appended c.args.found.now.items (ids_met v c.args.self.now) (sym (ap (ids_met v) c.self.view_is) ∙ c.lemma_only_texts.ensures v c.in_default.not-Str)
