-- Proves that a step is read as a subscription.
use Rattle.std.proofs.Common.{◌≡◌, ℕ, List, ap, sym, subst, ◌∙◌, Result, Ok, Err, Some}
use Rattle.filter_text.specs.declared.command.Command.{Command}
use Rattle.document_script.specs.declared.fault.ScriptFault.{ScriptFault}
use Rattle.document_script.specs.declared.fault.ScriptFault.TheVariants as faults
use Rattle.document_script.specs.Command.{IsCommandOf, script_fault}
use Rattle.document_reader.specs.Commands.{command_of, document_fault}
use Rattle.document_reader.proofs.Spelled.{command_told, fault_told}
use Rattle.output_patterns.specs.Steps.{as_subscribe, filter_of, step_fault, step_filter}
use Rattle.document_reader.specs.Answer.{FailsByRule}
use Rattle.output_patterns.specs.Reading.{Tells}
use Rattle.output_patterns.specs.declared.fault.PatternKind.{PatternKind}
use Rattle.document_reader.specs.declared.fault.LineFault.{LineFault}

pub step_told : (version : ℕ) (line text : List ℕ) (c : Command) → text ≡ as_subscribe line → IsCommandOf version text c → step_filter version line ≡ filter_of (Ok c)
unfolding step_filter
step_told version line text c e h = ap (λ t. filter_of (command_of version t)) (sym e) ∙ ap filter_of (command_told version text c h)

pub step_fails : (version : ℕ) (line text : List ℕ) (e : ScriptFault) → text ≡ as_subscribe line → script_fault version text ≡ Some e → step_filter version line ≡ Err (step_fault (document_fault e))
unfolding step_filter
step_fails version line text e s h = ap (λ t. filter_of (command_of version t)) (sym s) ∙ ap filter_of (fault_told version text e h)

-- a fault of the subscription, told as one of a step
pub told_fault : (version : ℕ) (line text : List ℕ) (r : Result Command ScriptFault) (e : ScriptFault) (told : LineFault PatternKind) → text ≡ as_subscribe line → r ≡ Err e → Tells told e
    → (r ≡ Err faults.Syntax → script_fault version text ≡ Some faults.Syntax) → (r ≡ Err faults.Value → script_fault version text ≡ Some faults.Value)
    → (r ≡ Err faults.Operand → script_fault version text ≡ Some faults.Operand) → (r ≡ Err faults.Count → script_fault version text ≡ Some faults.Count)
    → (r ≡ Err faults.Repeat → script_fault version text ≡ Some faults.Repeat) → FailsByRule told (step_filter version line)
told_fault version line text r faults.Syntax told s e t a b c d f = subst (λ (x : LineFault PatternKind). FailsByRule x (step_filter version line)) (sym t) (step_fails version line text faults.Syntax s (a e))
told_fault version line text r faults.Value told s e t a b c d f = subst (λ (x : LineFault PatternKind). FailsByRule x (step_filter version line)) (sym t) (step_fails version line text faults.Value s (b e))
told_fault version line text r faults.Operand told s e t a b c d f = subst (λ (x : LineFault PatternKind). FailsByRule x (step_filter version line)) (sym t) (step_fails version line text faults.Operand s (c e))
told_fault version line text r faults.Count told s e t a b c d f = subst (λ (x : LineFault PatternKind). FailsByRule x (step_filter version line)) (sym t) (step_fails version line text faults.Count s (d e))
told_fault version line text r faults.Repeat told s e t a b c d f = subst (λ (x : LineFault PatternKind). FailsByRule x (step_filter version line)) (sym t) (step_fails version line text faults.Repeat s (f e))
told_fault version line text r faults.NoMemory told s e t a b c d f = subst (λ (x : LineFault PatternKind). FailsByRule x (step_filter version line)) (sym t) tt
