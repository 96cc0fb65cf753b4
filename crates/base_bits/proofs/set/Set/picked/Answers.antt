use Rattle.std.proofs.Common.{◌≡◌, ◌↔◌, length, sym, ap, subst, ◌∙◌, arith, eqb-true}
use Rattle.std.specs.Int.{bit_at}
use Rattle.std.proofs.lemmas.Bool.{eqb-false}
use Rattle.base_bits.specs.Words.{IsPickedOf}
use Rattle.base_bits.specs.Rows.{Numbers}
use Rattle.base_bits.proofs.Rows.{Shows}
use Rattle.base_bits.proofs.SetViews.{set-listed, seen-shown, picked-listed, picked-shown}
use Rattle.base_bits.proofs.set.Set.picked.Goals as goal

pub picked_by_list-requires-clause-within : goal.picked_by_list-requires-clause-within
picked_by_list-requires-clause-within c i h = c.requires.within i (let w = c.self.invariant.within i h in let e = ap (λ (s : Numbers). s.width) c.self.view_is in omega (arith, w, e))

pub picked_by_list-requires-clause-known : goal.picked_by_list-requires-clause-known
picked_by_list-requires-clause-known c i h =
    let w = c.self.invariant.within i h in
    let e = ap (λ (s : Numbers). s.width) c.self.view_is in
    omega (arith, w, e, c.requires.width, c.words.ensures.kept.long)

pub returns-then-is_empty : goal.returns-then-is_empty
returns-then-is_empty c q =
    let none = eqb-true (length c.self.inside.words.now) 0 (sym c.is_empty.ensures ∙ c.if-is_empty.true) in
    let own = ap (λ (s : Numbers). s.members) (sym (set-listed c.self.inside.list.now c.self.inside.words.now c.self.inside.width none) ∙ c.self.view_is) in
    let that : Shows c.words.result.now c.args.others.now.width c.args.others.now = record { kept = c.words.ensures.kept; view = ap (λ xs. record { width = c.args.others.now.width; members = xs }) c.words.ensures.members } in
    let e = c.picked_by_list.ensures q in
    let p = picked-listed that c.args.words.now c.args.from c.self.inside.list.now q in
    subst (λ xs. (bit_at c.picked_by_list.result q ≡ 1) ↔ IsPickedOf c.args.words.now c.args.from xs c.args.others.now.members q) own ((λ h. p.0 (e.0 h)), (λ h. e.1 (p.1 h)))

shown-here : (c : goal.After-picked_by_both) → Shows c.self.inside.words.now c.args.self.now.width c.args.self.now
shown-here c =
    seen-shown c.self.inside.list.now c.self.inside.words.now c.self.inside.width c.args.self.now c.self.invariant c.self.view_is
    (eqb-false (length c.self.inside.words.now) 0 (sym c.is_empty.ensures ∙ c.if-is_empty.false))

pub returns : goal.returns
returns c q =
    let that : Shows c.words-2.result.now c.args.others.now.width c.args.others.now = record { kept = c.words-2.ensures.kept; view = ap (λ xs. record { width = c.args.others.now.width; members = xs }) c.words-2.ensures.members } in
    let e = c.picked_by_both.ensures q in
    let p = picked-shown that c.args.words.now c.args.from (shown-here c) q in
    ((λ h. p.0 (e.0 h)), (λ h. e.1 (p.1 h)))
