use Rattle.std.proofs.Common.{◌≡◌, ◌≤◌, ℕ, List, length, sym, subst, ◌∙◌, arith}
use Rattle.filter_constraints.specs.Constraint.{ConstraintParts}
use Rattle.filter_types.specs.Canonical.{canonical}
use Rattle.document_script.specs.Command.{wholes}
use Rattle.document_script.proofs.CommandLaws.{some_whole, control_beyond, control_empty, control_many, control_none}
use Rattle.document_script.proofs.DistinctLaws.{all_kept, none_kept, too_many}
use Rattle.document_script.proofs.limits.list_of.Goals as goal

few_of : (made given : List ConstraintParts) (most : ℕ) → made ≡ canonical given → length made ≤ most → most ≤ 64 → length (canonical given) ≤ 64
few_of made given most e few small = subst (λ (z : List ConstraintParts). length z ≤ 64) e (omega (arith, few, small))

pub returns-then-parts : goal.returns-then-parts
returns-then-parts g c = λ given is. control_beyond g.L.Limited.most given (sym is.beyond ∙ c.if-parts.true)

pub returns-then-parts-2 : goal.returns-then-parts-2
returns-then-parts-2 g c = λ given is. control_empty g.L.Limited.most given (sym is.beyond ∙ c.if-parts.false) (sym is.empty ∙ c.if-parts-2.true)

pub returns-in-Ok : goal.returns-in-Ok
returns-in-Ok g c = λ given is.
    let few : length (canonical c.args.parts.kept.items) ≤ 64 = few_of _ _ _ c.in-Ok.ensures.value c.in-Ok.ensures.few c.in-Ok.ensures.small in
    let v : g.L.Limited.constraints c.in-Ok.list ≡ canonical (wholes given) = c.in-Ok.ensures.value ∙ all_kept c.args.parts.is_full c.args.parts.kept.items (wholes given) is.kept few in
    (control_none g.L.Limited.most given (sym is.beyond ∙ c.if-parts.false) (sym is.empty ∙ c.if-parts-2.false) (subst (λ (z : List ConstraintParts). length z ≤ g.L.Limited.most) v c.in-Ok.ensures.few), v)

pub returns-in-Err-TooMany : goal.returns-in-Err-TooMany
returns-in-Err-TooMany g c = λ given is.
    control_many g.L.Limited.most given (sym is.beyond ∙ c.if-parts.false) (sym is.empty ∙ c.if-parts-2.false) (too_many c.args.parts.is_full c.args.parts.kept.items (wholes given) g.L.Limited.most is.kept c.in-Err-TooMany.ensures.small (c.in-Err-TooMany.ensures.too_many (let h = c.in-Err-TooMany.field-0-is in cc)))

pub returns-in-Err-Nothing : goal.returns-in-Err-Nothing
returns-in-Err-Nothing g c = λ given is.
    absurd (some_whole given is.some (sym is.beyond ∙ c.if-parts.false) (sym is.empty ∙ c.if-parts-2.false) (none_kept c.args.parts.is_full c.args.parts.kept.items (wholes given) is.kept (c.in-Err-Nothing.ensures.nothing (let h = c.in-Err-Nothing.field-0-is in cc))))
