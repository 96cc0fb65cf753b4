use Rattle.std.proofs.Common.{arith, sym, ap, subst, ◌∙◌, ◌≡◌, length, ◌+◌, ◌++◌, ◌∷◌, [], drop}
use Rattle.std.proofs.lemmas.Grind.{common_steps}
use Rattle.output_patterns.specs.Scan.{is_over, progress}
use Rattle.output_patterns.specs.Pattern.{AreAll, some_ends}
use Rattle.output_patterns.proofs.Feeding.{told, one-more}
use Rattle.output_patterns.proofs.detector.Detector.feed.Goals as goal

whole : (c : goal.After-take_place) → c.of-2.result.value ≡ c.self.inside.heard.value ++ c.args.n.now ∷ []
whole c = c.of-2.ensures ∙ c.and.ensures

moved : (c : goal.After-take_place) → (let now = progress c.self.inside.steps.items c.self.inside.steps.items [] 1 c.of-2.result.value in (now.found ≡ c.take_place.new.found.items) × (now.left ≡ drop (length c.take_place.new.found.items) c.self.inside.steps.items))
moved c =
    let steps = c.self.inside.steps.items in
    let new = c.take_place.new.found.items in
    subst (λ z. ((progress steps steps [] 1 z).found ≡ new) × ((progress steps steps [] 1 z).left ≡ drop (length new) steps)) (sym (whole c))
    (one-more steps c.deref.result.now c.deref-2.result.now c.self.inside.heard.value c.args.n.now (c.self.inside.fed + 1) c.self.inside.found.items c.start_over.new.found.items new
    c.deref.ensures.value c.deref-2.ensures.value (ap (λ z. z + 1) c.self.invariant.counted)
    c.self.invariant.found c.self.invariant.left c.start_over.ensures.same c.take_place.ensures.found c.take_place.ensures.left)

pub invariant_of-self : goal.invariant_of-self
invariant_of-self c =
    let heard = whole c in
    record {
      some = c.self.invariant.some;
      few = c.self.invariant.few;
      within = grind (arith, common_steps);
      room = grind (arith, common_steps);
      counted = grind (arith, common_steps);
      found = (moved c).0;
      left = (moved c).1;
    }

pub returns-clause-ends : goal.returns-clause-ends
returns-clause-ends c all h =
    let steps = c.self.inside.steps.items in
    let new = c.take_place.new.found.items in
    c.take_place.ensures.over
    ∙ ap (λ z. is_over (drop (length new) z)) c.deref-2.ensures.value
    ∙ ap is_over (sym (moved c).1)
    ∙ sym (subst (λ z. some_ends all (length z) ≡ is_over (progress steps steps [] 1 z).left) (sym (whole c)) (told steps c.self.inside.heard.value c.args.n.now all (omega (arith, c.self.invariant.some)) (subst (λ z. AreAll steps z 1 all) (whole c) h)))
