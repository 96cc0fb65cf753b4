use Rattle.std.proofs.Common.{◌≡◌, ◌+◌, ◌∙◌, ap, sym, subst, drop, ℕ, List, [], ◌∷◌}
use Rattle.std.proofs.lemmas.List.{drop_more, drop_all}
use Rattle.filter_types.specs.Notice.{Attribute, AreRising}
use Rattle.match_index.specs.Pairs.{Same}
use Rattle.match_filters.specs.Index.{ids_satisfied}
use Rattle.match_filters.proofs.Satisfied.{Walked, walked-start, walked-more, walked-end}
use Rattle.match_filters.proofs.count.find.Goals as goal

pub loop-name-init : goal.loop-name-init
loop-name-init c =
    let n = c.attributes-name-items.result.now in
    let rising : AreRising n = subst AreRising (sym c.attributes-name-items.ensures.same) c.attributes-name-items.ensures.whole.rising in
    subst (λ (x : List ℕ). Walked n n c.args.index.now.texts x) (sym c.clear.ensures.items) (walked-start n c.args.index.now.texts rising)

pub loop-name-preserved : goal.loop-name-preserved
loop-name-preserved c =
    let n = c.attributes-name-items.result.now in
    let index = c.args.index.now.texts in
    let a = c.loop-name-item.result in
    let rest = drop (c.loop-name.name-index + 1) n in
    let e : drop c.loop-name.name-index n ≡ a ∷ rest = drop_more n c.loop-name.name-index a c.loop-name-test.true ∙ ap {B = List Attribute} (λ (x : Attribute). x ∷ rest) (sym c.loop-name-item.is) in
    let w = subst (λ (left : List Attribute). Walked n left index c.loop-name.found.items) e c.loop-name.invariant in
    let h = c.in_ok-hits.ensures in
    subst (λ (x : List ℕ). Walked n rest index x) (sym h.whole) (walked-more n rest a index c.loop-name.found.items h.tail w h.same)

pub returns : goal.returns
returns c =
    let n = c.attributes-name-items.result.now in
    let index = c.args.index.now.texts in
    let e : drop c.loop-name.name-index n ≡ [] = drop_all c.loop-name.name-index n c.loop-name-test.false in
    let w = subst (λ (left : List Attribute). Walked n left index c.loop-name.found.items) e c.loop-name.invariant in
    subst (λ (x : List Attribute). Same c.loop-name.found.items (ids_satisfied x index)) c.attributes-name-items.ensures.same (walked-end n index c.loop-name.found.items w)
