use Rattle.std.proofs.Common.{length, ap, sym, subst, inl, ◌∙◌, arith}
use Rattle.std.proofs.lemmas.List.{with_items_is}
use Rattle.base_bits.specs.Words.{members_of}
use Rattle.base_bits.specs.Rows.{IsKept}
use Rattle.base_bits.proofs.Bits.{bit-small}
use Rattle.base_bits.proofs.Rows.{minus-members, kept-by}
use Rattle.base_bits.proofs.row.Row.remove_all.Goals as goal

pub invariant_of-self : goal.invariant_of-self
invariant_of-self c =
    subst (λ z. IsKept z c.self.inside.width) (sym (with_items_is c.self.inside.words c.take_all.new.into (omega arith)))
    (kept-by (record { kept = c.self.invariant; view = c.self.view_is }) c.take_all.new.into (omega (arith, ap length c.deref_mut.ensures.value))
    (λ i e. let b = rw (c.deref_mut.ensures.value, c.deref.ensures.value) at c.take_all.ensures.bits i in inl (omega (arith, b, e, bit-small c.self.inside.words.items i))))

pub returns-clause-members : goal.returns-clause-members
returns-clause-members c =
    ap (λ z. members_of z c.self.inside.width) (with_items_is c.self.inside.words c.take_all.new.into (omega arith))
    ∙ minus-members (record { kept = c.self.invariant; view = c.self.view_is }) (record { kept = c.other.invariant; view = c.other.view_is }) c.requires c.take_all.new.into
    (λ k. rw (c.deref_mut.ensures.value, c.deref.ensures.value) at c.take_all.ensures.bits k)
