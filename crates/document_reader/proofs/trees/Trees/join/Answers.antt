use Rattle.std.proofs.Common.{◌≡◌, ◌++◌, ◌∷◌, [], List, ℕ, ◌∙◌, ap, subst, sym}
use Rattle.base_tree.specs.Labels.{AreLabelsOf}
use Rattle.base_tree.specs.Graph.{IsEdgeWithin}
use Rattle.document_reader.specs.Drawn.{Drawn, drawn, edge_fault}
use Rattle.document_reader.proofs.Drawing.{edge_drawn}
use Rattle.document_reader.proofs.Joining.{fault_told}
use Rattle.document_reader.proofs.trees.Trees.join.Goals as goal

pub returns-in-Some-clause-fault : goal.returns-in-Some-clause-fault
returns-in-Some-clause-fault c =
    sym c.in-Some.is
    ∙ (fault_told c.deref.result.now (c.args.a, c.args.b) c.join.result c.join.ensures.twice c.join.ensures.loops
    ∙ ap (λ (es : List (ℕ × ℕ)). edge_fault es (c.args.a, c.args.b)) (c.deref.ensures.value ∙ (c.reserve.ensures.items ∙ ap (λ (d : Drawn). d.edges) c.self.view_is)))

pub returns-clause-fault : goal.returns-clause-fault
returns-clause-fault c =
    sym c.in-None.is
    ∙ (fault_told c.deref.result.now (c.args.a, c.args.b) c.join.result c.join.ensures.twice c.join.ensures.loops
    ∙ ap (λ (es : List (ℕ × ℕ)). edge_fault es (c.args.a, c.args.b)) (c.deref.ensures.value ∙ (c.reserve.ensures.items ∙ ap (λ (d : Drawn). d.edges) c.self.view_is)))

pub invariant_of-self-2 : goal.invariant_of-self-2
invariant_of-self-2 c =
    let same : c.deref.result.now ≡ c.self.inside.edges.items = c.deref.ensures.value ∙ c.reserve.ensures.items in
    let pushed : c.push.new.self.items ≡ c.self.inside.edges.items ++ (c.args.a, c.args.b) ∷ [] = c.in_ok-push.ensures.items ∙ ap (λ (es : List (ℕ × ℕ)). es ++ (c.args.a, c.args.b) ∷ []) c.reserve.ensures.items in
    rw pushed (edge_drawn (drawn c.self.inside.servers c.self.inside.earlier.items c.self.inside.phase c.self.inside.edges.items) (c.args.a, c.args.b)
    c.self.inside.labels c.join.new.self c.self.inside.near c.join-2.new.self c.self.invariant
    (subst (λ (d : Drawn). IsEdgeWithin d.servers (c.args.a, c.args.b)) (sym c.self.view_is) c.requires) c.join.ensures.count
    (subst (λ (es : List (ℕ × ℕ)). AreLabelsOf (es ++ (c.args.a, c.args.b) ∷ []) c.join.new.self) same c.in-None.ensures.none) c.join-2.ensures)
