use Rattle.std.proofs.Common.{◌≡◌, ◌-◌, ◌++◌}
use Rattle.document_generate.specs.Draws.{after}
use Rattle.document_generate.specs.Lines.{texts_drawn, edge_line}
use Rattle.document_generate.proofs.document.push_edges.Given as goal

abbrev pub invariant-loop-i : goal.invariant-loop-i
invariant-loop-i l =
    (l.out.items ++ texts_drawn edge_line (λ n. 1) (15 - l.i) l.i l.draws.state ≡ l.initial.out.items ++ texts_drawn edge_line (λ n. 1) 15 0 l.initial.draws.state)
    × (after (15 - l.i) l.draws.state ≡ after 15 l.initial.draws.state)
