use Rattle.std.proofs.Common.{true, ◌∷◌, ◌++◌, [], sym, subst}
use Rattle.std.specs.List.{cons_option}
use Rattle.document_script.specs.declared.form.Part.{Part}
use Rattle.document_script.specs.Command.{whole_of}
use Rattle.document_script.specs.Reading.{KeepsDistinct}
use Rattle.document_script.proofs.DistinctLaws.{enough, now_enough, one_kept}
use Rattle.document_script.proofs.part.PartCommandPart.put.Goals as goal

pub returns-then-parts-clause-kept : goal.returns-then-parts-clause-kept
returns-then-parts-clause-kept c = λ before k.
    let items = c.args.parts.now.kept.items in
    subst (λ (p : Part). KeepsDistinct (c.args.parts.now.is_full, items) (before ++ cons_option (whole_of p) [])) (sym c.in-Whole.is)
    (enough c.args.parts.now.is_full items before c.in-Whole.constraint c.if-parts.true k)

pub returns-then-branch-clause-kept : goal.returns-then-branch-clause-kept
returns-then-branch-clause-kept c = λ before k.
    let items = c.make_room.new.kept.items in
    let room = c.in_ok-make_room-in-Whole.ensures in
    subst (λ (p : Part). KeepsDistinct (true, items) (before ++ cons_option (whole_of p) [])) (sym c.in-Whole.is)
    (now_enough c.args.parts.now.is_full c.args.parts.now.kept.items items before c.in-Whole.constraint c.if-parts.false k room.same (room.many c.if-branch.true))

pub returns-in_ok-push-in-Whole-clause-kept : goal.returns-in_ok-push-in-Whole-clause-kept
returns-in_ok-push-in-Whole-clause-kept c = λ before k.
    let full = c.args.parts.now.is_full in
    let items = c.make_room.new.kept.items in
    let one = one_kept full c.args.parts.now.kept.items items before c.in-Whole.constraint c.if-parts.false k c.in_ok-make_room-in-Whole.ensures.same in
    subst (λ (p : Part). KeepsDistinct (full, c.push.new.self.items) (before ++ cons_option (whole_of p) [])) (sym c.in-Whole.is)
    (subst (λ xs. KeepsDistinct (full, xs) (before ++ c.in-Whole.constraint ∷ [])) (sym c.in_ok-push-in-Whole.ensures.items) one)
