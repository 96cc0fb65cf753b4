use Rattle.std.proofs.Common.{[], ◌∷◌, subst}
use Rattle.filter_types.specs.Notice.{Attribute}
use Rattle.match_index.specs.Pairs.{Appends}
use Rattle.match_filters.specs.Index.{ids_satisfied}
use Rattle.match_filters.specs.Kinds.{ByKind}
use Rattle.match_filters.proofs.KindLaws.{no-text, not-text}
use Rattle.match_filters.proofs.index.Index.hits.Goals as goal

pub returns-in_default : goal.returns-in_default
returns-in_default c =
    let a : Attribute = (c.args.name.now, c.args.value.now) in
    let found = c.args.found.now.items in
    subst (λ (x : ByKind). Appends found found (ids_satisfied (a ∷ []) x.texts)) c.self.view_is (no-text a found _ (not-text c.args.value.now c.in_default.not-Str) c.self.invariant.texts)
