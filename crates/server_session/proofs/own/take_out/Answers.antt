use Rattle.std.proofs.Common.{nat_lt, [], ◌∷◌, get_or, refl, ap, sym, ◌∙◌, arith}
use Rattle.std.proofs.lemmas.List.{take_all}
use Rattle.base.specs.Sets.{minus}
use Rattle.base_bits.specs.Rows.{Numbers}
use Rattle.server_stock.proofs.Counts.{without-more}
use Rattle.server_session.proofs.Moving.{minus-none}
use Rattle.server_session.proofs.own.take_out.Goals as goal
use Rattle.base.proofs.Sets.{get_or-has}

pub loop-i-init : goal.loop-i-init
loop-i-init c = record { width = refl; members = sym (minus-none nat_lt c.args.row.now.members) }

pub remove-requires : goal.remove-requires
remove-requires c =
    let h = c.requires (get_or c.args.numbers.now c.loop-i.i-index 0) (get_or-has c.args.numbers.now c.loop-i.i-index 0 (omega arith)) in
    let w = c.loop-i.invariant.width in
    omega (arith, h, w)

pub loop-i-preserved : goal.loop-i-preserved
loop-i-preserved c =
    let v = c.loop-i.invariant in
    let xs = c.args.numbers.now in
    let i = c.loop-i.i-index in
    record {
      width = c.remove.ensures.width ∙ v.width;
      members = c.remove.ensures.members ∙ (ap (λ z. minus nat_lt z (get_or xs i 0 ∷ [])) v.members
          ∙ ap (λ (z : Numbers). z.members) (without-more c.args.row.now c.lemma_sorted.ensures.rising xs i (omega arith)));
    }

pub returns-clause-width : goal.returns-clause-width
returns-clause-width c = c.loop-i.invariant.width

pub returns-clause-members : goal.returns-clause-members
returns-clause-members c = c.loop-i.invariant.members ∙ ap (minus nat_lt c.args.row.now.members) (take_all c.loop-i.i-index c.args.numbers.now (omega arith))
