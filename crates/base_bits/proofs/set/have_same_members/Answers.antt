use Rattle.std.proofs.Common.{◌≤◌, ℕ, subst, arith}
use Rattle.base.specs.Sets.{Has}
use Rattle.base_bits.proofs.Alike.{next-none, next-one, next-same, ended}
use Rattle.base_bits.proofs.set.have_same_members.Goals as goal

pub returns-in_default-first_from : goal.returns-in_default-first_from
returns-in_default-first_from c =
    let i = c.in-Some.ensures.some in
    (λ h. absurd (cc h), λ e. absurd (next-none c.args.one.now.members c.args.other.now.members c.loop-number.at c.in-Some.number e i.0 i.1 c.in_default-first_from.ensures.none))

pub returns-then-found-number : goal.returns-then-found-number
returns-then-found-number c =
    let i = c.in-Some.ensures.some in
    let j = c.in-Some-first_from.ensures.some in
    (λ h. absurd (cc h), λ e. absurd (c.if-found-number.true (next-one c.args.one.now.members c.args.other.now.members c.loop-number.at c.in-Some.number c.in-Some-first_from.found e i.0 i.1 c.in-Some.ensures.least j.0 j.1 c.in-Some-first_from.ensures.least)))

pub overflow_add-at : goal.overflow_add-at
overflow_add-at c = let l = c.lemma_sorted.ensures.within c.in-Some.number c.in-Some.ensures.some.1 in omega (arith, l, c.lemma_sorted.ensures.fits)

pub loop-number-smaller : goal.loop-number-smaller
loop-number-smaller c =
    let i = c.in-Some.ensures.some in
    let l = c.lemma_sorted.ensures.within c.in-Some.number i.1 in
    omega (arith, l, i.0)

pub loop-number-preserved : goal.loop-number-preserved
loop-number-preserved c =
    let xs = c.args.one.now.members in
    let ys = c.args.other.now.members in
    let at = c.loop-number.at in
    let i = c.in-Some.ensures.some in
    let j = c.in-Some-first_from.ensures.some in
    let same = c.if-found-number.false in
    next-same xs ys at c.in-Some.number c.loop-number.invariant i.1 (subst (λ (z : ℕ). Has z ys) same j.1) c.in-Some.ensures.least
    (λ k l m. subst (λ (z : ℕ). z ≤ k) same (c.in-Some-first_from.ensures.least k l m))

pub returns : goal.returns
returns c =
    let n = c.first_from-2.ensures in
    ended c.args.one.now.members c.args.other.now.members c.loop-number.at c.first_from-2.result c.is_none.result c.lemma_sorted.ensures.rising c.lemma_sorted-2.ensures.rising
    c.loop-number.invariant c.in_default.ensures.none n.some n.none c.is_none.ensures
