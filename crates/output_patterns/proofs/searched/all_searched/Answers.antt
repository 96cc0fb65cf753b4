use Rattle.std.proofs.Common.{◌≡◌, ◌++◌, ◌∷◌, [], All, suc, ap, sym, subst, ◌∙◌, append_assoc, arith, rules}
use Rattle.output_patterns.specs.Watch.{IsSoundPattern}
use Rattle.output_patterns.proofs.searched.all_searched.Goals as goal

rest : (c : goal.In_ok-push) → c.loop-pattern.pattern-iterator.rest.items ≡ c.in-Some.pattern ∷ c.next.new.self.rest.items
rest c = search rules

pub loop-pattern-preserved : goal.loop-pattern-preserved
loop-pattern-preserved c =
    let h : All (IsSoundPattern c.args.clients) (c.in-Some.pattern ∷ c.next.new.self.rest.items) = subst (λ z. All (IsSoundPattern c.args.clients) z) (rest c) c.loop-pattern.invariant.1 in (
      ap (λ z. z ++ c.next.new.self.rest.items) c.in_ok-push.ensures.items
          ∙ append_assoc c.loop-pattern.all.items (c.in_ok-with_detector.field-0 ∷ []) c.next.new.self.rest.items
          ∙ ap (λ z. c.loop-pattern.all.items ++ z ∷ c.next.new.self.rest.items) c.in_ok-with_detector.ensures
          ∙ ap (λ z. c.loop-pattern.all.items ++ z) (sym (rest c))
          ∙ c.loop-pattern.invariant.0,
      λ k d lt. h (suc k) d (omega (arith, lt)),
    )
