-- Tests in their order, the first of which that fails is the fault, of one of some kinds; and how the code follows them.
use Rattle.std.specs.Prelude.{◌≡◌, Bool, Option, Some, None, Result, Ok, Err, cond}
use Rattle.document_reader.specs.declared.fault.LineFault.{LineFault}
use Rattle.document_reader.specs.declared.fault.LineFault.TheVariants.{NoMemory, Kind}

-- what comes next, unless there was a fault
infixl 10 ◌>>=◌
abbrev pub ◌>>=◌ : {A B K : Type 0} → Result A K → (A → Result B K) → Result B K
(Ok x) >>= f = f x
(Err e) >>= f = Err e

-- the fault, unless the test holds
abbrev pub need : {K : Type 0} → Bool → K → Result (Unit {0}) K
need holds fault = cond holds (Ok tt) (Err fault)

-- the fault, unless something is there
abbrev pub want : {A K : Type 0} → Option A → K → Result A K
want None fault = Err fault
want (Some x) fault = Ok x

-- the rule has this fault; out of memory tells nothing of it
abbrev pub FailsByRule : {A K : Type 0} → LineFault K → Result A K → Type 0
FailsByRule NoMemory rule = Unit {0}
FailsByRule (Kind fault) rule = rule ≡ Err fault

-- after the call there stands what the rule gives, or the rule has the fault that the call told, or memory ran out
abbrev pub StepsByRule : {S A K : Type 0} → Result A (LineFault K) → S → Result S K → Type 0
StepsByRule (Ok _) new rule = rule ≡ Ok new
StepsByRule (Err e) new rule = FailsByRule e rule

-- the call gives, as it is seen, what the rule gives, or the rule has the fault that the call told, or memory ran out
abbrev pub GivesAsByRule : {X A K : Type 0} → (X → A) → Result X (LineFault K) → Result A K → Type 0
GivesAsByRule view (Ok x) rule = rule ≡ Ok (view x)
GivesAsByRule view (Err e) rule = FailsByRule e rule

abbrev pub GivesByRule : {A K : Type 0} → Result A (LineFault K) → Result A K → Type 0
GivesByRule result rule = GivesAsByRule (λ x. x) result rule
