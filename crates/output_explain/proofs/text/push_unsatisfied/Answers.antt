use Rattle.std.proofs.Common.{◌++◌, ◌≡◌, [], ◌∷◌, subst}
use Rattle.std.specs.Prelude.{codes}
use Rattle.base.proofs.Lists.{append-chain}
use Rattle.filter_text.specs.FilterText.{constraints_text}
use Rattle.output_explain.specs.Text.{against, unsatisfied_line}
use Rattle.output_explain.proofs.text.push_unsatisfied.Goals as goal

pub returns : goal.returns
unfolding unsatisfied_line
returns c =
    let miss = c.args.miss.now in
    let out = c.args.out.now.items in
    let word = codes "unsatisfied " in
    let text = constraints_text (miss.constraint ∷ []) in
    let end = against miss.constraint.name miss.value in
    let first = append-chain out word text c.extend_from_slice.new.self.items c.push_constraint.new.out.items c.in_ok-extend_from_slice.ensures.items c.in_ok-push_constraint.ensures in
    let named = subst (λ n. c.push_against.new.out.items ≡ c.push_constraint.new.out.items ++ against n miss.value) c.name.ensures c.in_ok-push_against.ensures in
    let second = append-chain out (word ++ text) end c.push_constraint.new.out.items c.push_against.new.out.items first named in
    append-chain out ((word ++ text) ++ end) (codes "\n") c.push_against.new.out.items c.extend_from_slice-2.new.self.items second
    c.in_ok-extend_from_slice-2.ensures.items
