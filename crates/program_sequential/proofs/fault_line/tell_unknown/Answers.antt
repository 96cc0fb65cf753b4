use Rattle.std.proofs.Common.{List, ◌++◌, OnOk, codes, sym, subst, ◌∙◌, append_assoc, ℕ}
use Rattle.base_devices.specs.Sinks.{Took}
use Rattle.program_sequential.proofs.fault_line.tell_unknown.Goals as goal

pub returns-clause-ok : goal.returns-clause-ok
returns-clause-ok g c =
    let word = c.args.word.now in
    let means = c.args.represents.now in
    subst (λ (rest : List ℕ). OnOk c.write_pieces.result (Took (g.K.Sink.state c.args.sink.now) (g.K.Sink.state c.write_pieces.new.sink) (codes "siena: explain: " ++ rest)))
    (sym (append_assoc (word ++ codes ": ") means (codes "\n") ∙ append_assoc word (codes ": ") (means ++ codes "\n"))) c.write_pieces.ensures.ok
