use Rattle.std.proofs.Common.{nat_lt, inl, refl, sym, ap, subst, ◌∙◌}
use Rattle.base.specs.Sets.{Has, union, minus, put_in}
use Rattle.server_session.specs.Moved.{gone, come}
use Rattle.server_session.proofs.Moving.{minus-none}
use Rattle.server_session.proofs.own.shift.Goals as goal

pub insert-requires : goal.insert-requires
insert-requires c = c.requires.come c.in-Added.i (subst (λ z. Has c.in-Added.i (come z)) (sym c.in-Added.is) (inl refl))

pub take_out-requires : goal.take_out-requires
take_out-requires c i h = c.requires.gone i (subst (λ z. Has i (gone z)) (sym c.in-Withdrawn.is) (subst (Has i) c.as_slice.ensures h))

pub returns-in-Nothing-clause-members : goal.returns-in-Nothing-clause-members
returns-in-Nothing-clause-members c =
    let row = c.args.row.now.members in
    sym (ap (λ z. union nat_lt (come z) (minus nat_lt row (gone z))) c.in-Nothing.is ∙ minus-none nat_lt row)

pub returns-in-Added-clause-members : goal.returns-in-Added-clause-members
returns-in-Added-clause-members c =
    let row = c.args.row.now.members in
    c.insert.ensures.members ∙ sym (ap (λ z. union nat_lt (come z) (minus nat_lt row (gone z))) c.in-Added.is ∙ ap (put_in nat_lt c.in-Added.i) (minus-none nat_lt row))
