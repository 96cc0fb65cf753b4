use Rattle.std.proofs.Common.{◌≡◌, sym, ap, subst, ◌∙◌}
use Rattle.base_bits.specs.Grid.{Table}
use Rattle.base_bits.specs.Sets.{set_at, IsPlaced, ArePlaced, sets_of}
use Rattle.base_bits.proofs.SetPlaces.{places-still, view-still, places-pushed, view-pushed, on_err}
use Rattle.base_bits.proofs.sets.Sets.push.Goals as goal

pub invariant_of-self : goal.invariant_of-self
invariant_of-self c = places-still c.self.inside.lists.items c.put.new.lists.items c.self.inside.words.items c.put.new.words.items c.self.inside.width c.self.inside.places.items c.put.ensures.lists c.put.ensures.words c.self.invariant

pub returns-in_err-place-clause-err : goal.returns-in_err-place-clause-err
returns-in_err-place-clause-err c = on_err c.from_residual.result (view-still c.self.inside.lists.items c.put.new.lists.items c.self.inside.words.items c.put.new.words.items c.self.inside.width c.self.inside.places.items c.put.ensures.lists c.put.ensures.words c.self.invariant c.args.self.now c.self.view_is)

pub invariant_of-self-in_err-push : goal.invariant_of-self-in_err-push
invariant_of-self-in_err-push c =
    subst (ArePlaced c.put.new.lists.items c.put.new.words.items c.self.inside.width) (sym c.in_err-push.ensures.items)
    (places-still c.self.inside.lists.items c.put.new.lists.items c.self.inside.words.items c.put.new.words.items c.self.inside.width c.self.inside.places.items c.put.ensures.lists c.put.ensures.words c.self.invariant)

pub returns-in_err-push-clause-err : goal.returns-in_err-push-clause-err
returns-in_err-push-clause-err c =
    on_err c.from_residual-in_err-push.result
    (ap (sets_of c.put.new.lists.items c.put.new.words.items c.self.inside.width) c.in_err-push.ensures.items
    ∙ view-still c.self.inside.lists.items c.put.new.lists.items c.self.inside.words.items c.put.new.words.items c.self.inside.width c.self.inside.places.items c.put.ensures.lists c.put.ensures.words c.self.invariant c.args.self.now c.self.view_is)

pub invariant_of-self-2 : goal.invariant_of-self-2
invariant_of-self-2 c =
    let wide = c.requires ∙ sym (ap (λ (t : Table). t.width) c.self.view_is) in
    let here = subst (λ w. IsPlaced c.put.new.lists.items c.put.new.words.items w c.in_ok-place.place) wide c.in_ok-place.ensures.placed in
    subst (ArePlaced c.put.new.lists.items c.put.new.words.items c.self.inside.width) (sym c.in_ok-push.ensures.items)
    (places-pushed c.self.inside.lists.items c.put.new.lists.items c.self.inside.words.items c.put.new.words.items c.self.inside.width c.self.inside.places.items c.put.ensures.lists c.put.ensures.words c.self.invariant c.in_ok-place.place here)

pub returns-clause-ok : goal.returns-clause-ok
returns-clause-ok c =
    let wide = c.requires ∙ sym (ap (λ (t : Table). t.width) c.self.view_is) in
    let set = subst (λ w. set_at c.put.new.lists.items c.put.new.words.items w c.in_ok-place.place ≡ c.args.set.now) wide c.in_ok-place.ensures.set in
    ap (sets_of c.put.new.lists.items c.put.new.words.items c.self.inside.width) c.in_ok-push.ensures.items
    ∙ view-pushed c.self.inside.lists.items c.put.new.lists.items c.self.inside.words.items c.put.new.words.items c.self.inside.width c.self.inside.places.items c.put.ensures.lists c.put.ensures.words c.self.invariant c.args.self.now c.in_ok-place.place c.args.set.now c.self.view_is set
