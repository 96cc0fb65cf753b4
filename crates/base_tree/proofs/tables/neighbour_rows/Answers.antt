use Rattle.std.proofs.Common.{◌≡◌, ℕ, ◌<◌, ◌+◌, ◌==◌, ◌&&◌, not, List, [], length, filter, get_or, subst, ◌∙◌, arith}
use Rattle.std.proofs.lemmas.List.{get_or_default}
use Rattle.base_tree.specs.Graph.{servers_to}
use Rattle.base_tree.specs.Hops.{side}
use Rattle.base_tree.specs.Tree.{entry}
use Rattle.base_tree.proofs.Servers.{rows-more}
use Rattle.base_tree.proofs.tables.neighbour_rows.Goals as goal
use Rattle.base_tree.proofs.tables.neighbour_rows.Goals.{else-loop-a-test, then-loop-a-test+in_ok-neighbours+in_ok-push-2+else-a-n}

pub returns-clause-some : goal.returns-clause-some
returns-clause-some c =
    let f : ℕ → List ℕ = λ x. filter (λ b. side (entry c.args.hops.now) x b b) (servers_to c.args.n) in
    elim c.loop-a-test.branch [
      | else-loop-a-test w ↦ λ a low high. rw w.rows-is (c.loop-a.invariant.some a low (omega arith))
      | then-loop-a-test+in_ok-neighbours+in_ok-push-2+else-a-n w ↦ λ a low high.
          let size : length c.args.hops.now ≡ c.args.n + 1 = omega (arith, c.requires.table.rows_there) in
          let inside : c.loop-a.a < length c.args.hops.now = omega (arith, size, w.loop-a-test.true) in
          let row : w.index-hops-a.result ≡ get_or c.args.hops.now c.loop-a.a [] = w.index-hops-a.is ∙ get_or_default c.args.hops.now c.loop-a.a w.index-hops-a.result [] inside in
          let long : length w.index-hops-a.result ≡ c.args.n + 1 = rw row (omega (arith, c.requires.table.places c.loop-a.a (omega arith))) in
          let same : w.in_ok-neighbours.field-0 ≡ f c.loop-a.a = subst (λ r. w.in_ok-neighbours.field-0 ≡ filter (λ b. not (b == c.loop-a.a) && (get_or r b 0 == b)) (servers_to c.args.n)) row (w.in_ok-neighbours.ensures c.args.n long) in
          rw w.rows-is (rows-more c.loop-a.rows.items w.push-in-loop-a.new.self.items w.in_ok-neighbours.field-0 f c.loop-a.a w.in_ok-push-2.ensures.items c.loop-a.invariant.rows c.loop-a.invariant.some same a low (omega arith))
    ]
