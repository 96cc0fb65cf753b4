use Rattle.std.proofs.Common.{◌≡◌, ◌-◌, ◌++◌}
use Rattle.document_generate.specs.Lines.{texts_drawn}
use Rattle.document_generate.specs.Document.{script_text, script_draws}
use Rattle.document_generate.proofs.document.push_scripts.Given as goal

abbrev pub invariant-loop-i : goal.invariant-loop-i
invariant-loop-i l =
    l.out.items ++ texts_drawn script_text script_draws (64 - l.i) l.i l.draws.state ≡ l.initial.out.items ++ texts_drawn script_text script_draws 64 0 l.initial.draws.state
