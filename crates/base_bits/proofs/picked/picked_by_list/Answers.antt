use Rattle.std.proofs.Common.{◌+◌, ◌<◌, length, get_or, sym, subst, ◌∙◌, arith, eqb-true}
use Rattle.std.proofs.lemmas.Bool.{eqb-false}
use Rattle.base.proofs.Sets.{get_or-has}
use Rattle.base_bits.specs.Words.{bit}
use Rattle.base_bits.proofs.ListPicks.{HavePicked, list-first, list-more, list-skip, list-all}
use Rattle.base_bits.proofs.picked.picked_by_list.Goals.{then-has, else-has}
use Rattle.base_bits.proofs.picked.picked_by_list.Goals as goal

pub loop-k-init : goal.loop-k-init
loop-k-init c = list-first c.args.words.now c.args.from c.args.list.now c.args.set.now

pub has-requires : goal.has-requires
has-requires c = c.requires.known (get_or c.args.list.now c.loop-k.k 0) (get_or-has c.args.list.now c.loop-k.k 0 (omega arith))

pub overflow_add-word : goal.overflow_add-word
overflow_add-word c =
    let l : c.args.from + get_or c.args.list.now c.loop-k.k 0 < length c.args.words.now = c.requires.within (get_or c.args.list.now c.loop-k.k 0) (get_or-has c.args.list.now c.loop-k.k 0 (omega arith)) in
    omega (arith, l)

pub offset_bounds-words-from : goal.offset_bounds-words-from
offset_bounds-words-from c =
    let l : c.args.from + get_or c.args.list.now c.loop-k.k 0 < length c.args.words.now = c.requires.within (get_or c.args.list.now c.loop-k.k 0) (get_or-has c.args.list.now c.loop-k.k 0 (omega arith)) in
    omega (arith, l)

pub bounds-words-from : goal.bounds-words-from
bounds-words-from c = c.requires.within (get_or c.args.list.now c.loop-k.k 0) (get_or-has c.args.list.now c.loop-k.k 0 (omega arith))

pub loop-k-preserved : goal.loop-k-preserved
loop-k-preserved c = elim c.if-has.branch [
  | then-has w ↦
      subst (HavePicked c.args.words.now c.args.from c.args.list.now c.args.set.now (c.loop-k.k + 1)) (sym w.all-is)
      (list-more c.args.words.now c.args.from c.args.list.now c.args.set.now c.loop-k.k c.loop-k.all c.loop-k.invariant (omega arith)
      (eqb-true (bit c.args.set.now (get_or c.args.list.now c.loop-k.k 0)) 1 (sym c.has.ensures ∙ w.if-has.true)))
  | else-has w ↦
      subst (HavePicked c.args.words.now c.args.from c.args.list.now c.args.set.now (c.loop-k.k + 1)) (sym w.all-is)
      (list-skip c.args.words.now c.args.from c.args.list.now c.args.set.now c.loop-k.k c.loop-k.all c.loop-k.invariant
      (eqb-false (bit c.args.set.now (get_or c.args.list.now c.loop-k.k 0)) 1 (sym c.has.ensures ∙ w.if-has.false)))
]

pub returns : goal.returns
returns c = list-all c.args.words.now c.args.from c.args.list.now c.args.set.now c.loop-k.k c.loop-k.all c.loop-k.invariant (omega arith)
