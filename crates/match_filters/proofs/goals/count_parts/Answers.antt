use Rattle.std.proofs.Common.{◌≡◌, ◌+◌, ◌∙◌, ℕ, Bool, cond, ◌∷◌, drop, sym, ap, arith}
use Rattle.base.proofs.Lists.{drop-next}
use Rattle.filter_constraints.specs.Constraint.{ConstraintParts}
use Rattle.match_filters.specs.Parts.{parts_of, ends_part}
use Rattle.match_filters.proofs.PartLaws.{parts-few}
use Rattle.match_filters.proofs.goals.count_parts.Goals as goal

pub count_if-requires-clause-few : goal.count_if-requires-clause-few
count_if-requires-clause-few c = omega (arith, c.loop-i.invariant.parts, parts-few c.args.constraints.now, c.requires.few)

pub loop-i-preserved : goal.loop-i-preserved
loop-i-preserved c =
    let cs = c.args.constraints.now in
    let i = c.loop-i.i in
    let d = c.index-constraints-i.result in
    let rest = drop (i + 1) cs in
    let next : drop i cs ≡ d ∷ rest = drop-next cs i d c.loop-i-test.true ∙ ap (λ (x : ConstraintParts). x ∷ rest) (sym c.index-constraints-i.is) in
    let ends : c.ends_part-ends.result ≡ ends_part d rest = rw (c.behind.ensures) at c.ends_part-ends.ensures in
    record {
      length = c.count_if.ensures.length ∙ c.loop-i.invariant.length;
      parts = omega (arith, c.count_if.ensures.more, c.loop-i.invariant.parts, ap parts_of next, ap {B = ℕ} (λ (b : Bool). cond b 1 0) ends);
      others = λ k n. c.count_if.ensures.others k n ∙ c.loop-i.invariant.others k n;
    }
