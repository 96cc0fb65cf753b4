use Rattle.std.proofs.Common.{◌≡◌, ◌↔◌, ◌⊎◌, ◌<◌, ◌*◌, ℕ, List, subst, arith, rules}
use Rattle.base.specs.Sets.{Has}
use Rattle.base_bits.specs.Words.{IsInWord}
use Rattle.base_bits.proofs.Grids.{IsPickedBit, joined-more}
use Rattle.base_bits.proofs.grid.joined_bits.Goals as goal

pub list_word-requires-clause-before : goal.list_word-requires-clause-before
list_word-requires-clause-before c i h =
    let b = ((c.loop-k.invariant.exact i).0 (subst (λ (z : List ℕ). Has i z) c.in_ok-reserve.ensures.items h)).0 in
    omega (arith, b)

pub loop-k-preserved : goal.loop-k-preserved
loop-k-preserved c =
    joined-more c.args.words.now c.args.count c.args.numbers.now.members c.args.others.now.members c.loop-k.k c.loop-k.list.items c.picked-word.result c.loop-k.invariant (search (rules, c.type_inv))
    c.picked-word.ensures c.list_word.new.list.items c.in_ok-list_word.ensures.rising
    (λ i. subst (λ (z : List ℕ). Has i c.list_word.new.list.items ↔ (Has i z ⊎ IsInWord c.loop-k.k c.picked-word.result i)) c.in_ok-reserve.ensures.items (c.in_ok-list_word.ensures.exact i))

pub returns-clause-exact : goal.returns-clause-exact
returns-clause-exact c i =
    let l : c.loop-k.k ≡ c.args.span = omega arith in
    subst (λ (n : ℕ). Has i c.loop-k.list.items ↔ ((i < 64 * n) × IsPickedBit c.args.words.now c.args.count c.args.numbers.now.members c.args.others.now.members i)) l (c.loop-k.invariant.exact i)
