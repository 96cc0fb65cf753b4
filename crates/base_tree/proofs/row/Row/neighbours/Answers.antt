use Rattle.std.proofs.Common.{◌≤◌, ◌==◌, ℕ, Bool, not, ◌&&◌, get_or, sym, ap, ◌∙◌}
use Rattle.base_tree.proofs.Servers.{filter-more, filter-not}
use Rattle.base_tree.proofs.row.Row.neighbours.Goals as goal
use Rattle.base_tree.proofs.row.Row.neighbours.Goals.{then-is_neighbour+in_ok-push, else-is_neighbour}

pub loop-b-preserved : goal.loop-b-preserved
loop-b-preserved c =
    let p : ℕ → Bool = λ b. not (b == c.args.a) && (get_or c.args.self.now b 0 == b) in
    let from : 1 ≤ c.loop-b.b = c.loop-b.auto.b in
    elim c.if-is_neighbour.branch [
      | then-is_neighbour+in_ok-push w ↦ ap (λ v. v.items) w.numbers-is ∙ w.in_ok-push.ensures.items ∙ filter-more p c.loop-b.b c.loop-b.numbers.items from c.loop-b.invariant (sym c.is_neighbour.ensures ∙ w.if-is_neighbour.true)
      | else-is_neighbour w ↦ ap (λ v. v.items) w.numbers-is ∙ filter-not p c.loop-b.b c.loop-b.numbers.items from c.loop-b.invariant (sym c.is_neighbour.ensures ∙ w.if-is_neighbour.false)
    ]
