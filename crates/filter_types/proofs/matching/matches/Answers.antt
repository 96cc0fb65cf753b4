use Rattle.std.proofs.Common.{sym, ◌∙◌, Less, Equal, Greater}
use Rattle.filter_types.proofs.Lists.{empty}
use Rattle.filter_types.proofs.SideBySide.{told, match_less, match_met, match_unmet, match_missing, match_none, match_all, later_rising, further_rising}
use Rattle.filter_types.proofs.matching.matches.Goals as goal

pub returns-in_default-split_first : goal.returns-in_default-split_first
returns-in_default-split_first c = sym (c.loop-constraint.invariant.same ∙ match_none _ _ _ _ (empty _ c.in_default-split_first.ensures.cases) c.in-Some.ensures.cases.0)

pub loop-constraint-preserved-in-Less-1 : goal.loop-constraint-preserved-in-Less-1
loop-constraint-preserved-in-Less-1 c =
    let less = told _ Less _ _ _ _ c.cmp.ensures c.bytes.ensures.bytes (c.bytes-in-Some.ensures.bytes ∙ c.name.ensures) c.in-Less.is in
    record {
      rising = c.loop-constraint.invariant.rising;
      names = later_rising _ _ _ c.in-Some-split_first.ensures.cases.0 c.loop-constraint.invariant.names;
      same = c.loop-constraint.invariant.same ∙ match_less _ _ _ _ _ _ c.in-Some-split_first.ensures.cases.0 c.in-Some.ensures.cases.0 c.loop-constraint.invariant.rising less;
    }

pub loop-constraint-preserved : goal.loop-constraint-preserved
loop-constraint-preserved c =
    let equal = told _ Equal _ _ _ _ c.cmp.ensures c.bytes.ensures.bytes (c.bytes-in-Some.ensures.bytes ∙ c.name.ensures) c.in-Equal.is in
    record {
      rising = further_rising _ _ _ c.in-Some.ensures.cases.0 c.loop-constraint.invariant.rising;
      names = c.loop-constraint.invariant.names;
      same = c.loop-constraint.invariant.same ∙ match_met _ _ _ _ _ _ c.in-Some-split_first.ensures.cases.0 c.in-Some.ensures.cases.0 equal (sym c.satisfied.ensures ∙ c.if-satisfied.true);
    }

pub returns-in_default-cmp : goal.returns-in_default-cmp
returns-in_default-cmp c =
    let equal = told _ Equal _ _ _ _ c.cmp.ensures c.bytes.ensures.bytes (c.bytes-in-Some.ensures.bytes ∙ c.name.ensures) c.in-Equal.is in
    sym (c.loop-constraint.invariant.same ∙ match_unmet _ _ _ _ _ _ c.in-Some-split_first.ensures.cases.0 c.in-Some.ensures.cases.0 equal (sym c.satisfied.ensures ∙ c.if-satisfied.false))

pub returns-in_default-cmp-2 : goal.returns-in_default-cmp-2
returns-in_default-cmp-2 c =
    let greater = told _ Greater _ _ _ _ c.cmp.ensures c.bytes.ensures.bytes (c.bytes-in-Some.ensures.bytes ∙ c.name.ensures) c.in_default-cmp.is in
    sym (c.loop-constraint.invariant.same ∙ match_missing _ _ _ _ _ _ c.in-Some-split_first.ensures.cases.0 c.in-Some.ensures.cases.0 c.loop-constraint.invariant.names greater)

pub returns : goal.returns
returns c = sym (c.loop-constraint.invariant.same ∙ match_all _ _ (empty _ c.in_default.ensures.cases))
