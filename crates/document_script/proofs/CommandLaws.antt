-- Proves which fault of a command's parts comes first.
use Rattle.std.proofs.Common.{◌≡◌, ◌<◌, ◌≤◌, ℕ, true, false, refl, arith, List, [], ◌∷◌, length}
use Rattle.std.specs.Prelude.{Some, None, nat_lt}
use Rattle.std.specs.declared.option.Option.{Option}
use Rattle.std.specs.declared.result.Result.{Result}
use Rattle.std.specs.declared.result.Result.TheVariants.{Ok, Err}
use Rattle.std.specs.List.{list_any}
use Rattle.std.proofs.lemmas.Bool.Decides.{nat_tests}
use Rattle.filter_types.specs.Canonical.{canonical}
use Rattle.filter_types.specs.Notice.{first_twice}
use Rattle.filter_text.specs.declared.command.Command.{Command}
use Rattle.document_script.specs.declared.fault.ScriptFault.{ScriptFault}
use Rattle.document_script.specs.declared.fault.ScriptFault.TheVariants as faults
use Rattle.document_script.specs.declared.form.Given.{Given}
use Rattle.document_script.specs.declared.form.Given.TheVariants.{Fit, Wide}
use Rattle.document_script.specs.declared.form.Part.{Part}
use Rattle.document_script.specs.declared.form.Part.TheVariants.{Whole, Beyond, Empty}
use Rattle.document_script.specs.Form.{CommandForm}
use Rattle.document_script.specs.Command.{is_beyond, is_empty, is_wide, wholes, fits, control_fault, publish_fault, fault_of_form, AnswersLine}

pub some_whole : (parts : List Part) → 0 < length parts → list_any is_beyond parts ≡ false → list_any is_empty parts ≡ false → wholes parts ≡ [] → ⊥
some_whole [] s b e n = omega (arith, s)
some_whole (Whole c ∷ parts) s b e n = cc
some_whole (Beyond ∷ parts) s b e n = cc
some_whole (Empty ∷ parts) s b e n = cc

pub some_fits : (attributes : List (List ℕ × Given)) → 0 < length attributes → list_any is_wide attributes ≡ false → fits attributes ≡ [] → ⊥
some_fits [] s w n = omega (arith, s)
some_fits ((name, Fit v) ∷ rest) s w n = cc
some_fits ((name, Wide) ∷ rest) s w n = cc

pub control_beyond : (limit : ℕ) (parts : List Part) → list_any is_beyond parts ≡ true → control_fault limit parts ≡ Some faults.Value
unfolding control_fault
control_beyond limit parts b = rw b refl

pub control_empty : (limit : ℕ) (parts : List Part) → list_any is_beyond parts ≡ false → list_any is_empty parts ≡ true → control_fault limit parts ≡ Some faults.Operand
unfolding control_fault
control_empty limit parts b e = rw (b, e) refl

pub control_many : (limit : ℕ) (parts : List Part) → list_any is_beyond parts ≡ false → list_any is_empty parts ≡ false → limit < length (canonical (wholes parts)) → control_fault limit parts ≡ Some faults.Count
unfolding control_fault
control_many limit parts b e l =
    let m : nat_lt limit (length (canonical (wholes parts))) ≡ true = grind (arith, nat_tests) in
    rw (b, e, m) refl

pub control_none : (limit : ℕ) (parts : List Part) → list_any is_beyond parts ≡ false → list_any is_empty parts ≡ false → length (canonical (wholes parts)) ≤ limit → control_fault limit parts ≡ None
unfolding control_fault
control_none limit parts b e l =
    let m : nat_lt limit (length (canonical (wholes parts))) ≡ false = grind (arith, nat_tests) in
    rw (b, e, m) refl

pub publish_wide : (attributes : List (List ℕ × Given)) → list_any is_wide attributes ≡ true → publish_fault attributes ≡ Some faults.Value
unfolding publish_fault
publish_wide attributes w = rw w refl

pub publish_many : (attributes : List (List ℕ × Given)) → list_any is_wide attributes ≡ false → 64 < length (fits attributes) → publish_fault attributes ≡ Some faults.Count
unfolding publish_fault
publish_many attributes w l =
    let m : nat_lt 64 (length (fits attributes)) ≡ true = grind (arith, nat_tests) in
    rw (w, m) refl

pub publish_twice : (attributes : List (List ℕ × Given)) (i : ℕ) → list_any is_wide attributes ≡ false → length (fits attributes) ≤ 64 → first_twice (fits attributes) ≡ Some i → publish_fault attributes ≡ Some faults.Repeat
unfolding publish_fault
publish_twice attributes i w l t =
    let m : nat_lt 64 (length (fits attributes)) ≡ false = grind (arith, nat_tests) in
    rw (w, m, t) refl

pub publish_none : (attributes : List (List ℕ × Given)) → list_any is_wide attributes ≡ false → (64 < length (fits attributes) → ⊥) → ((i : ℕ) → length (fits attributes) ≤ 64 → first_twice (fits attributes) ≡ Some i → ⊥) → publish_fault attributes ≡ None
unfolding publish_fault
publish_none attributes w l t =
    let few : length (fits attributes) ≤ 64 = small (length (fits attributes)) l in
    let m : nat_lt 64 (length (fits attributes)) ≡ false = grind (arith, nat_tests) in
    let n : first_twice (fits attributes) ≡ None = go (first_twice (fits attributes)) refl (λ i e. t i few e) in
    rw (w, m, n) refl
  where
    small : (n : ℕ) → (64 < n → ⊥) → n ≤ 64
    small n k = grind (arith, k)

    go : (r : Option ℕ) → first_twice (fits attributes) ≡ r → ((i : ℕ) → first_twice (fits attributes) ≡ Some i → ⊥) → r ≡ None
    go (Some i) e k = absurd (k i e)
    go None e k = refl

abbrev pub Told : ScriptFault → Option ScriptFault → Type 0
Told faults.NoMemory fault = Unit {0}
Told e fault = fault ≡ Some e

pub fault_told : (r : Result Command ScriptFault) (form : Option CommandForm) (e : ScriptFault) → AnswersLine r form → r ≡ Err e → Told e (fault_of_form form)
fault_told (Ok c) form e a h = absurd cc
fault_told (Err faults.NoMemory) form faults.NoMemory a h = tt
fault_told (Err faults.NoMemory) form faults.Syntax a h = absurd cc
fault_told (Err faults.NoMemory) form faults.Value a h = absurd cc
fault_told (Err faults.NoMemory) form faults.Operand a h = absurd cc
fault_told (Err faults.NoMemory) form faults.Count a h = absurd cc
fault_told (Err faults.NoMemory) form faults.Repeat a h = absurd cc
fault_told (Err faults.Syntax) form e a h = let same : faults.Syntax ≡ e = cc in rw (← same) a
fault_told (Err faults.Value) form e a h = let same : faults.Value ≡ e = cc in rw (← same) a
fault_told (Err faults.Operand) form e a h = let same : faults.Operand ≡ e = cc in rw (← same) a
fault_told (Err faults.Count) form e a h = let same : faults.Count ≡ e = cc in rw (← same) a
fault_told (Err faults.Repeat) form e a h = let same : faults.Repeat ≡ e = cc in rw (← same) a
