use Rattle.std.proofs.Common.{sym, ap, subst, ◌∙◌, arith}
use Rattle.base_bits.specs.Words.{members_of}
use Rattle.base_bits.specs.Rows.{IsKept}
use Rattle.base_bits.proofs.Rows.{zeros-kept, zeros-none}
use Rattle.base_bits.proofs.row.Row.new.Goals as goal

pub invariant_of-result : goal.invariant_of-result
invariant_of-result c =
    subst (λ z. IsKept z c.args.width) (sym (c.in_ok-words.ensures.items_if_clones_equal (λ y e. e)))
    (zeros-kept c.div_ceil-count.result c.args.width (omega (arith, c.div_ceil-count.ensures)) (omega arith))

pub returns-clause-members : goal.returns-clause-members
returns-clause-members c =
    ap (λ z. members_of z c.args.width) (c.in_ok-words.ensures.items_if_clones_equal (λ y e. e)) ∙ zeros-none c.div_ceil-count.result c.args.width
