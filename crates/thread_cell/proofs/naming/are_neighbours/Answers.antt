use Rattle.std.proofs.Common.{◌↔◌, IsTrue, List, ℕ, ap, subst, ◌∙◌}
use Rattle.base.specs.Sets.{Has}
use Rattle.base_tree.specs.Tree.{Topology, links_of}
use Rattle.thread_cell.proofs.naming.are_neighbours.Goals as goal

pub returns : goal.returns
returns c =
    subst (λ (l : List ℕ). IsTrue c.is_among.result ↔ Has c.args.other l) (c.neighbours.ensures.value ∙ ap (λ (t : Topology). links_of t c.args.server) c.tree.ensures)
    c.is_among.ensures
