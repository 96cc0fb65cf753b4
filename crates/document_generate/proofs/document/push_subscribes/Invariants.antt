use Rattle.std.proofs.Common.{◌≡◌, ◌-◌, ◌*◌, ◌++◌}
use Rattle.document_generate.specs.Draws.{after}
use Rattle.document_generate.specs.Lines.{texts_drawn, subscribe_line}
use Rattle.document_generate.proofs.document.push_subscribes.Given as goal

abbrev pub invariant-loop : goal.invariant-loop
invariant-loop l =
    (l.out.items ++ texts_drawn (λ n. subscribe_line) (λ n. 5) (4 - l.counter) l.counter l.draws.state ≡ l.initial.out.items ++ texts_drawn (λ n. subscribe_line) (λ n. 5) (4) 0 l.initial.draws.state)
    × (after (5 * (4 - l.counter)) l.draws.state ≡ after (5 * 4) l.initial.draws.state)
