use Rattle.std.proofs.Common.{◌≡◌, ◌++◌, ◌∷◌, [], List, ℕ, ◌∙◌, ap}
use Rattle.document_reader.specs.Drawn.{drawn, is_apart}
use Rattle.document_reader.proofs.Drawing.{pair_same, phase_drawn}
use Rattle.document_reader.proofs.trees.Trees.begin.Goals as goal

pub invariant_of-self-2 : goal.invariant_of-self-2
invariant_of-self-2 c =
    let same : c.in_ok-edges.edges.items ≡ c.self.inside.edges.items = c.in_ok-edges.ensures.items_if_clones_equal pair_same ∙ c.deref.ensures.value in
    let pushed : c.push.new.self.items ≡ c.self.inside.earlier.items ++ (c.self.inside.phase, c.self.inside.edges.items) ∷ [] =
    c.in_ok-push.ensures.items ∙ ap (λ (es : List (ℕ × ℕ)). c.self.inside.earlier.items ++ (c.self.inside.phase, es) ∷ []) same in
    rw (pushed, c.clear.ensures.items) (phase_drawn (drawn c.self.inside.servers c.self.inside.earlier.items c.self.inside.phase c.self.inside.edges.items) c.args.phase
    c.self.inside.labels c.new-self-inside.result c.self.inside.near c.self.invariant (ap is_apart c.self.view_is ∙ c.requires) c.new-self-inside.ensures.count c.new-self-inside.ensures.none)
