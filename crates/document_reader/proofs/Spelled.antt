-- The command that a line spells is the one that its form gives.
use Rattle.std.proofs.Common.{◌≡◌, ℕ, List, sym, ap, subst, ◌∙◌, Result, Ok, Err, Option, Some, None}
use Rattle.filter_text.specs.declared.command.Command.{Command}
use Rattle.filter_text.specs.declared.command.Command.TheVariants as commands
use Rattle.document_script.specs.declared.fault.ScriptFault.{ScriptFault}
use Rattle.document_script.specs.declared.fault.ScriptFault.TheVariants as faults
use Rattle.document_script.specs.declared.form.Given.{Given}
use Rattle.document_script.specs.declared.form.Part.{Part}
use Rattle.document_script.specs.declared.verb.Verb.{Verb}
use Rattle.document_script.specs.declared.verb.Verb.TheVariants as verbs
use Rattle.document_script.specs.Form.{CommandForm}
use Rattle.document_script.specs.Form.CommandForm.{control, publish}
use Rattle.document_script.specs.Command.{IsCommandOf, Spells, fault_of_form, fits, form_of, script_fault}
use Rattle.document_reader.specs.declared.fault.Fault.{Fault}
use Rattle.document_reader.specs.declared.fault.LineFault.{LineFault}
use Rattle.document_reader.specs.Answer.{FailsByRule}
use Rattle.document_reader.specs.Commands.{Tells, command_in, command_of, command_of_form, document_fault, unless_fault}
use Rattle.document_reader.proofs.Notices.{rising_is_set}

control_spells : (v : Verb) (parts : List Part) (c : Command) → Spells (control v parts) c → c ≡ command_in (control v parts)
control_spells verbs.Subscribe parts (commands.Subscribe f) h = ap commands.Subscribe h
control_spells verbs.Unsubscribe parts (commands.Unsubscribe f) h = ap commands.Unsubscribe h
control_spells verbs.Advertise parts (commands.Advertise f) h = ap commands.Advertise h
control_spells verbs.Unadvertise parts (commands.Unadvertise f) h = ap commands.Unadvertise h
control_spells v parts c h = absurd h

publish_spells : (attributes : List (List ℕ × Given)) (c : Command) → Spells (publish attributes) c → c ≡ command_in (publish attributes)
publish_spells attributes (commands.Publish n) h = ap commands.Publish (rising_is_set (fits attributes) n h.0 h.1)
publish_spells attributes c h = absurd h

spells : (form : CommandForm) (c : Command) → Spells form c → c ≡ command_in form
spells (control v parts) c h = control_spells v parts c h
spells (publish attributes) c h = publish_spells attributes c h

pub command_told : (version : ℕ) (line : List ℕ) (c : Command) → IsCommandOf version line c → command_of version line ≡ Ok c
unfolding command_of
command_told version line c h = ap command_of_form h.1 ∙ (ap (λ (e : Option ScriptFault). unless_fault e h.0) h.2 ∙ ap Ok (sym (spells h.0 c h.3)))

in_form : (form : Option CommandForm) (e : ScriptFault) → fault_of_form form ≡ Some e → command_of_form form ≡ Err (document_fault e)
in_form None e h = let f : faults.Syntax ≡ e = cc in ap (λ (x : ScriptFault). Err (document_fault x)) f
in_form (Some form) e h = ap (λ (x : Option ScriptFault). unless_fault x form) h

pub fault_told : (version : ℕ) (line : List ℕ) (e : ScriptFault) → script_fault version line ≡ Some e → command_of version line ≡ Err (document_fault e)
unfolding command_of
fault_told version line e h = in_form (form_of version line) e h

-- a fault of a command line, told as one of a document, is the fault of its command
pub told_fault : (version : ℕ) (line : List ℕ) (r : Result Command ScriptFault) (e : ScriptFault) (told : LineFault Fault) → r ≡ Err e → Tells told e
    → (r ≡ Err faults.Syntax → script_fault version line ≡ Some faults.Syntax) → (r ≡ Err faults.Value → script_fault version line ≡ Some faults.Value)
    → (r ≡ Err faults.Operand → script_fault version line ≡ Some faults.Operand) → (r ≡ Err faults.Count → script_fault version line ≡ Some faults.Count)
    → (r ≡ Err faults.Repeat → script_fault version line ≡ Some faults.Repeat) → FailsByRule told (command_of version line)
told_fault version line r faults.Syntax told e t a b c d f = subst (λ (x : LineFault Fault). FailsByRule x (command_of version line)) (sym t) (fault_told version line faults.Syntax (a e))
told_fault version line r faults.Value told e t a b c d f = subst (λ (x : LineFault Fault). FailsByRule x (command_of version line)) (sym t) (fault_told version line faults.Value (b e))
told_fault version line r faults.Operand told e t a b c d f = subst (λ (x : LineFault Fault). FailsByRule x (command_of version line)) (sym t) (fault_told version line faults.Operand (c e))
told_fault version line r faults.Count told e t a b c d f = subst (λ (x : LineFault Fault). FailsByRule x (command_of version line)) (sym t) (fault_told version line faults.Count (d e))
told_fault version line r faults.Repeat told e t a b c d f = subst (λ (x : LineFault Fault). FailsByRule x (command_of version line)) (sym t) (fault_told version line faults.Repeat (f e))
told_fault version line r faults.NoMemory told e t a b c d f = subst (λ (x : LineFault Fault). FailsByRule x (command_of version line)) (sym t) tt
