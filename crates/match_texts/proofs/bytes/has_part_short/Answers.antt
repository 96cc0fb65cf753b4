use Rattle.std.proofs.Common.{◌≡◌, ◌∙◌, ◌∷◌, ap, sym, ℕ, Bool, List}
use Rattle.filter_constraints.specs.Bytes.{has_part}
use Rattle.match_index.proofs.Parts.{part-of-nothing, part-in-nothing, part-here, part-not-first, part-not-here}
use Rattle.match_texts.proofs.bytes.has_part_short.Goals.{else-byte-first-via-then-byte-first+else-starts_with, else-byte-first-via-else-byte-first}
use Rattle.match_texts.proofs.bytes.has_part_short.Goals as goal

pub returns-in_default : goal.returns-in_default
returns-in_default c = sym (part-of-nothing c.args.x.now c.args.u.now c.in_default.ensures.cases)

pub returns-then-starts_with : goal.returns-then-starts_with
returns-then-starts_with c =
    let here = part-here c.in-Some-split_first.byte.now c.in-Some.first.now c.in-Some-split_first.later.now c.in-Some.rest.now c.if-byte-first.true (sym c.starts_with.ensures.value ∙ c.if-starts_with.true) in
    sym here ∙ ap {B = Bool} (λ (l : List ℕ). has_part l (c.in-Some.first.now ∷ c.in-Some.rest.now)) (sym c.in-Some-split_first.ensures.cases.0) ∙ ap {B = Bool} (λ (u : List ℕ). has_part c.loop-byte.left.now u) (sym c.in-Some.ensures.cases.0) ∙ c.loop-byte.invariant

pub loop-byte-preserved : goal.loop-byte-preserved
loop-byte-preserved c =
    let b = c.in-Some-split_first.byte.now in
    let f = c.in-Some.first.now in
    let later = c.in-Some-split_first.later.now in
    let rest = c.in-Some.rest.now in
    let step : has_part c.loop-byte.left.now c.args.u.now ≡ has_part later c.args.u.now = rw (c.in-Some-split_first.ensures.cases.0, c.in-Some.ensures.cases.0) (elim c.else-byte-first.branch [
      | else-byte-first-via-then-byte-first+else-starts_with w ↦ part-not-here b f later rest (sym w.starts_with.ensures.value ∙ w.if-starts_with.false)
      | else-byte-first-via-else-byte-first w ↦ part-not-first b f later rest w.if-byte-first.false
    ]) in
    sym step ∙ c.loop-byte.invariant

pub returns : goal.returns
returns c = sym (part-in-nothing c.loop-byte.left.now c.in-Some.first.now c.in-Some.rest.now c.in_default-split_first.ensures.cases) ∙ ap {B = Bool} (λ (u : List ℕ). has_part c.loop-byte.left.now u) (sym c.in-Some.ensures.cases.0) ∙ c.loop-byte.invariant
