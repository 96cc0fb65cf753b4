use Rattle.std.proofs.Common.{sym, ◌∙◌, Less, Equal, Greater}
use Rattle.filter_types.proofs.Lists.{empty}
use Rattle.filter_types.proofs.SideBySide.{told, allow_less, allow_met, allow_unmet, allow_passed, allow_none, allow_all, later_rising, further_rising}
use Rattle.filter_types.proofs.matching.allows.Goals as goal

pub returns-in_default-split_first : goal.returns-in_default-split_first
returns-in_default-split_first c = sym (c.loop-attribute.invariant.same ∙ allow_none _ _ _ _ c.in-Some.ensures.cases.0 (empty _ c.in_default-split_first.ensures.cases))

pub returns-in-Less : goal.returns-in-Less
returns-in-Less c =
    let less = told _ Less _ _ _ _ c.cmp.ensures c.bytes.ensures.bytes (c.bytes-in-Some.ensures.bytes ∙ c.name.ensures) c.in-Less.is in
    sym (c.loop-attribute.invariant.same ∙ allow_less _ _ _ _ _ _ c.in-Some.ensures.cases.0 c.in-Some-split_first.ensures.cases.0 c.loop-attribute.invariant.rising less)

pub loop-attribute-preserved-then-satisfied : goal.loop-attribute-preserved-then-satisfied
loop-attribute-preserved-then-satisfied c =
    let equal = told _ Equal _ _ _ _ c.cmp.ensures c.bytes.ensures.bytes (c.bytes-in-Some.ensures.bytes ∙ c.name.ensures) c.in-Equal.is in
    record {
      rising = c.loop-attribute.invariant.rising;
      names = later_rising _ _ _ c.in-Some.ensures.cases.0 c.loop-attribute.invariant.names;
      same = c.loop-attribute.invariant.same ∙ allow_met _ _ _ _ _ _ c.in-Some.ensures.cases.0 c.in-Some-split_first.ensures.cases.0 equal (sym c.satisfied.ensures ∙ c.if-satisfied.true);
    }

pub loop-attribute-preserved-in_default-cmp : goal.loop-attribute-preserved-in_default-cmp
loop-attribute-preserved-in_default-cmp c =
    let equal = told _ Equal _ _ _ _ c.cmp.ensures c.bytes.ensures.bytes (c.bytes-in-Some.ensures.bytes ∙ c.name.ensures) c.in-Equal.is in
    record {
      rising = further_rising _ _ _ c.in-Some-split_first.ensures.cases.0 c.loop-attribute.invariant.rising;
      names = c.loop-attribute.invariant.names;
      same = c.loop-attribute.invariant.same ∙ allow_unmet _ _ _ _ _ _ c.in-Some.ensures.cases.0 c.in-Some-split_first.ensures.cases.0 c.loop-attribute.invariant.names equal (sym c.satisfied.ensures ∙ c.if-satisfied.false);
    }

pub loop-attribute-preserved : goal.loop-attribute-preserved
loop-attribute-preserved c =
    let greater = told _ Greater _ _ _ _ c.cmp.ensures c.bytes.ensures.bytes (c.bytes-in-Some.ensures.bytes ∙ c.name.ensures) c.in_default-cmp.is in
    record {
      rising = further_rising _ _ _ c.in-Some-split_first.ensures.cases.0 c.loop-attribute.invariant.rising;
      names = c.loop-attribute.invariant.names;
      same = c.loop-attribute.invariant.same ∙ allow_passed _ _ _ _ _ _ c.in-Some.ensures.cases.0 c.in-Some-split_first.ensures.cases.0 c.loop-attribute.invariant.names greater;
    }

pub returns : goal.returns
returns c = sym (c.loop-attribute.invariant.same ∙ allow_all _ _ (empty _ c.in_default.ensures.cases))
