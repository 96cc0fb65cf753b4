use Rattle.std.proofs.Common.{◌++◌, ◌∙◌, sym, subst}
use Rattle.std.specs.Prelude.{codes}
use Rattle.std.specs.List.{flat_map}
use Rattle.base_devices.specs.Pending.{outlet, Went}
use Rattle.base_devices.proofs.Outlets.{went-then, went-nothing}
use Rattle.document_format.specs.DocumentText.{ended, step_lines}
use Rattle.document_format.proofs.Chain.{script_text, idle_text}
use Rattle.document_format.proofs.script.put_script.Goals as goal

pub returns-then-is_idle : goal.returns-then-is_idle
returns-then-is_idle g c =
    let old = outlet (g.K.Sink.state c.args.sink.now) c.args.out.now in
    subst (Went old old) (idle_text c.args.client.now (sym c.is_idle.ensures ∙ c.if-is_idle.true)) (went-nothing old)

pub returns : goal.returns
returns g c =
    let old = outlet (g.K.Sink.state c.args.sink.now) c.args.out.now in
    let mid = outlet (g.K.Sink.state c.put_line.new.sink) c.put_line.new.out in
    let new = outlet (g.K.Sink.state c.put_steps.new.sink) c.put_steps.new.out in
    let first = subst (λ z. Went old mid (ended (codes "script " ++ z.name))) c.client.view_is (rw c.bytes.ensures.bytes at c.put_line.ensures) in
    let steps = subst (λ z. Went mid new (flat_map ended (step_lines 0 z.script z.barriers))) c.client.view_is (rw c.deref.ensures.value at c.put_steps.ensures) in
    subst (Went old new) (script_text c.args.client.now (sym c.is_idle.ensures ∙ c.if-is_idle.false)) (went-then _ _ _ _ _ first steps)
