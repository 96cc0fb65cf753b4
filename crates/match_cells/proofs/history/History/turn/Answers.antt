use Rattle.std.proofs.Common.{ap, ◌∙◌, length, arith}
use Rattle.std.proofs.lemmas.List.{with_items_is}
use Rattle.match_cells.specs.Changes.{Past, turned}
use Rattle.match_cells.proofs.Kept.{length-now, changed, changed-still, changed-marked}
use Rattle.match_cells.proofs.history.History.turn.Goals as goal

pub turn-requires : goal.turn-requires
turn-requires c = omega (arith, c.requires, length-now c.self.invariant, c.self.invariant.wide, ap (λ (z : Past). length z.first) c.self.view_is, ap length c.deref_mut.ensures.value)

pub invariant_of-self-else-len-self : goal.invariant_of-self-else-len-self
invariant_of-self-else-len-self c =
    changed c.self.invariant c.args.k (omega (arith, c.requires, c.self.invariant.wide, ap (λ (z : Past). length z.first) c.self.view_is)) _ _
    (with_items_is c.self.inside.present c.turn.new.words (omega arith) ∙ (c.turn.ensures ∙ ap (λ w. turned w c.args.k) c.deref_mut.ensures.value)) c.in_ok-push.ensures.items

pub invariant_of-self-in_err-extend_from_slice : goal.invariant_of-self-in_err-extend_from_slice
invariant_of-self-in_err-extend_from_slice c =
    changed-still c.self.invariant c.args.k (omega (arith, c.requires, c.self.invariant.wide, ap (λ (z : Past). length z.first) c.self.view_is)) _ _
    (with_items_is c.self.inside.present c.turn.new.words (omega arith) ∙ (c.turn.ensures ∙ ap (λ w. turned w c.args.k) c.deref_mut.ensures.value)) c.in_ok-push.ensures.items _
    c.in_err-extend_from_slice.ensures.items

pub invariant_of-self-then-len-self : goal.invariant_of-self-then-len-self
invariant_of-self-then-len-self c =
    changed-marked c.self.invariant c.args.k (omega (arith, c.requires, c.self.invariant.wide, ap (λ (z : Past). length z.first) c.self.view_is)) _ _
    (with_items_is c.self.inside.present c.turn.new.words (omega arith) ∙ (c.turn.ensures ∙ ap (λ w. turned w c.args.k) c.deref_mut.ensures.value)) c.in_ok-push.ensures.items _ _
    (omega (arith, c.len.ensures, c.if-len-self.true)) c.in_ok-extend_from_slice.ensures.items c.deref.ensures.value
