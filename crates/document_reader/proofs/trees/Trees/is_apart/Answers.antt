use Rattle.std.proofs.Common.{◌≡◌, refl, false, ◌∙◌, sym, ap, nat_lt, arith}
use Rattle.document_reader.specs.Drawn.{drawn, is_apart}
use Rattle.document_reader.proofs.Joining.{apart_tested, none_is_not_apart}
use Rattle.document_reader.proofs.trees.Trees.is_apart.Goals as goal

pub returns-then-self-gt0 : goal.returns-then-self-gt0
returns-then-self-gt0 c =
    (apart_tested (drawn c.self.inside.servers c.self.inside.earlier.items c.self.inside.phase c.self.inside.edges.items) c.self.inside.labels c.apart.result c.is_some.result
    c.self.invariant.count c.self.invariant.labelled c.apart.ensures.none c.apart.ensures.some c.is_some.ensures)
    ∙ ap is_apart c.self.view_is

pub returns-else-self-gt0 : goal.returns-else-self-gt0
returns-else-self-gt0 c =
    let none : c.self.inside.servers ≡ 0 = omega arith in
    let test : nat_lt 0 c.self.inside.servers ≡ false = rw none refl in
    (test ∙ sym (none_is_not_apart (drawn c.self.inside.servers c.self.inside.earlier.items c.self.inside.phase c.self.inside.edges.items) none)) ∙ ap is_apart c.self.view_is
