use Rattle.std.proofs.Common.{◌≡◌, ℕ, ◌-◌, ◌++◌}
use Rattle.document_generate.specs.Lines.{texts_drawn, client_line}
use Rattle.document_generate.proofs.document.push_clients.Given as goal

abbrev pub invariant-loop-i : goal.invariant-loop-i
invariant-loop-i l =
    (seed : ℕ) → l.out.items ++ texts_drawn client_line (λ n. 0) (64 - l.i) l.i seed ≡ l.initial.out.items ++ texts_drawn client_line (λ n. 0) 64 0 seed
