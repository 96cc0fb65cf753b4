use Rattle.std.proofs.Common.{◌≤◌, ℕ, IfSome, IfNone, ◌<◌, length, refl, sym, ap, subst, ◌∙◌, eqb-true}
use Rattle.std.proofs.lemmas.Bool.{eqb-false}
use Rattle.base.specs.Sets.{Has}
use Rattle.base_bits.specs.Rows.{Numbers}
use Rattle.base_bits.proofs.Rows.{first-some, first-least, first-none, once-some, once-least, once-none}
use Rattle.base_bits.proofs.SetViews.{set-listed, seen-shown}
use Rattle.base_bits.proofs.set.Set.first_from.Goals as goal

pub returns-then-is_empty-clause-least : goal.returns-then-is_empty-clause-least
returns-then-is_empty-clause-least c =
    let none = eqb-true (length c.self.inside.words.now) 0 (sym c.is_empty.ensures ∙ c.if-is_empty.true) in
    let own = ap (λ (s : Numbers). s.members) (sym (set-listed c.self.inside.list.now c.self.inside.words.now c.self.inside.width none) ∙ c.self.view_is) in
    subst (λ xs. IfSome c.next_listed.result (λ i. (k : ℕ) → c.args.from ≤ k → Has k xs → i ≤ k)) own c.next_listed.ensures.least

pub returns-then-is_empty-clause-none : goal.returns-then-is_empty-clause-none
returns-then-is_empty-clause-none c =
    let none = eqb-true (length c.self.inside.words.now) 0 (sym c.is_empty.ensures ∙ c.if-is_empty.true) in
    let own = ap (λ (s : Numbers). s.members) (sym (set-listed c.self.inside.list.now c.self.inside.words.now c.self.inside.width none) ∙ c.self.view_is) in
    subst (λ xs. IfNone c.next_listed.result ((k : ℕ) → Has k xs → k < c.args.from)) own c.next_listed.ensures.none

pub returns-clause-some : goal.returns-clause-some
returns-clause-some c =
    let some = eqb-false (length c.self.inside.words.now) 0 (sym c.is_empty.ensures ∙ c.if-is_empty.false) in
    let is = seen-shown c.self.inside.list.now c.self.inside.words.now c.self.inside.width c.args.self.now c.self.invariant c.self.view_is some in
    once-some c.args.self.now.members c.args.from c.next_common.result (first-some is is refl c.args.from c.next_common.result c.next_common.ensures.some)

pub returns-clause-least : goal.returns-clause-least
returns-clause-least c =
    let some = eqb-false (length c.self.inside.words.now) 0 (sym c.is_empty.ensures ∙ c.if-is_empty.false) in
    let is = seen-shown c.self.inside.list.now c.self.inside.words.now c.self.inside.width c.args.self.now c.self.invariant c.self.view_is some in
    once-least c.args.self.now.members c.args.from c.next_common.result (first-least is is refl c.args.from c.next_common.result c.next_common.ensures.least)

pub returns-clause-none : goal.returns-clause-none
returns-clause-none c =
    let some = eqb-false (length c.self.inside.words.now) 0 (sym c.is_empty.ensures ∙ c.if-is_empty.false) in
    let is = seen-shown c.self.inside.list.now c.self.inside.words.now c.self.inside.width c.args.self.now c.self.invariant c.self.view_is some in
    once-none c.args.self.now.members c.args.from c.next_common.result (first-none is is refl c.args.from c.next_common.result c.next_common.ensures.none)
