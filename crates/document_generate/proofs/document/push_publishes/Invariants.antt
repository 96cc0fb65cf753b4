use Rattle.std.proofs.Common.{◌≡◌, ◌-◌, ◌*◌, ◌++◌}
use Rattle.document_generate.specs.Draws.{after}
use Rattle.document_generate.specs.Lines.{texts_drawn, publish_line}
use Rattle.document_generate.proofs.document.push_publishes.Given as goal

abbrev pub invariant-loop : goal.invariant-loop
invariant-loop l =
    (l.out.items ++ texts_drawn (λ n. publish_line) (λ n. 6) (l.count - l.counter) l.counter l.draws.state ≡ l.initial.out.items ++ texts_drawn (λ n. publish_line) (λ n. 6) (l.count) 0 l.initial.draws.state)
    × (after (6 * (l.count - l.counter)) l.draws.state ≡ after (6 * l.count) l.initial.draws.state)
