use Rattle.std.proofs.Common.{◌≡◌, IfOk, sym, subst}
use Rattle.net_model.specs.Parts.{NetParts}
use Rattle.net_model.specs.Sound.{IsSound}
use Rattle.output_report.specs.Trace.{trace_text}
use Rattle.program_sequential.proofs.text.trace.Goals as goal

pub trace_over-requires-clause-sound : goal.trace_over-requires-clause-sound
trace_over-requires-clause-sound g c = subst IsSound (sym c.in_ok-tables.ensures) c.requires.sound

pub trace_over-requires-clause-legal : goal.trace_over-requires-clause-legal
trace_over-requires-clause-legal g c = subst (λ (n : NetParts). g.T.Telling.legal n c.args.journal.now) (sym c.in_ok-tables.ensures) c.requires.legal

pub returns : goal.returns
returns g c =
    subst (λ (n : NetParts). IfOk c.trace_over.result (λ text. text.items ≡ trace_text n c.args.journal.now (g.T.Telling.told_by n c.args.journal.now)))
    c.in_ok-tables.ensures c.trace_over.ensures
