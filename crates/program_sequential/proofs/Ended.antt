-- What is answered of a document, by what is answered of its net.
use Rattle.std.proofs.Common.{◌≡◌, ◌⊎◌, inl, inr, ℕ, List, [], Result, Ok, Err, refl, sym, ap, ◌∙◌, subst}
use Rattle.std.specs.Result.{IfOk, IsOk, IsErrOf}
use Rattle.net_model.specs.declared.turn.Turn.{Turn}
use Rattle.net_model.specs.Parts.{NetParts}
use Rattle.document_reader.specs.declared.fault.Fault.{Fault}
use Rattle.document_reader.specs.declared.fault.Fault.TheVariants.{BadTurn}
use Rattle.document_reader.specs.declared.fault.InputFault.{InputFault}
use Rattle.document_reader.specs.declared.fault.InputFault.TheVariants as inputs
use Rattle.document_reader.specs.Net.{IsNetOf, IsBadAt}
use Rattle.program_sequential.specs.declared.words.Query.{Query}
use Rattle.program_sequential.specs.declared.words.Query.TheVariants.{Run, Hierarchy, Flood, Check, Format, Traffic}
use Rattle.program_sequential.specs.Runs.{turns_first}
use Rattle.program_sequential.specs.Faults.{ArePermitted, StopsAtLine, IsAtFault, MustBeRefused, CanBeDone}
use Rattle.program_sequential.specs.Ran.{turns_for}
use Rattle.net_turns.proofs.Stopping.{never-stops, one-line}

-- where one holds of an answer, so does what follows
pub if-ok : {T E : Type 0} (r : Result T E) (P Q : T → Type 0) → ((x : T) → P x → Q x) → IfOk r P → IfOk r Q
if-ok (Ok x) P Q f p = f x p
if-ok (Err e) P Q f p = tt

-- one refusal, or out of memory
abbrev pub Refused : {T : Type 0} → Result T InputFault → ℕ → Fault → Type 0
Refused r line kind = IsErrOf r (inputs.Bad line kind) ⊎ IsErrOf r inputs.NoMemory

abbrev pub Ended : {T : Type 0} → Result T InputFault → Type 0
Ended r = IsOk r ⊎ IsErrOf r inputs.NoMemory

-- the same of another answer with the same error
same-refused : {A T : Type 0} (e : InputFault) (r : Result T InputFault) (line : ℕ) (kind : Fault) → r ≡ Err e → Refused {T = A} (Err e) line kind → Refused r line kind
same-refused e r line kind s (inl x) = inl (s ∙ ap Err (unerr x))
  where
    unerr : {A : Type 0} {a b : InputFault} → ◌≡◌ {A = Result A InputFault} (Err a) (Err b) → a ≡ b
    unerr h = cc
same-refused e r line kind s (inr x) = inr (s ∙ ap Err (unerr x))
  where
    unerr : {A : Type 0} {a b : InputFault} → ◌≡◌ {A = Result A InputFault} (Err a) (Err b) → a ≡ b
    unerr h = cc

same-ended : {A T : Type 0} (e : InputFault) (r : Result T InputFault) → r ≡ Err e → Ended {T = A} (Err e) → IsErrOf r inputs.NoMemory
same-ended e r s (inl x) = absurd cc
same-ended e r s (inr x) = s ∙ ap Err (unerr x)
  where
    unerr : {A : Type 0} {a b : InputFault} → ◌≡◌ {A = Result A InputFault} (Err a) (Err b) → a ≡ b
    unerr h = cc

-- an answer is no error
pub no-refusal : {A : Type 0} (x : A) (line : ℕ) (kind : Fault) → Refused {T = A} (Ok x) line kind → ⊥
no-refusal x line kind (inl e) = absurd cc
no-refusal x line kind (inr e) = absurd cc

-- where there is no net, the refusal of the document stands
pub without-net : {A T : Type 0} (input : List ℕ) (e : InputFault) (r : Result T InputFault) → r ≡ Err e
    → ((net : NetParts) → IsNetOf input net → Ended {T = A} (Err e))
    → ((line : ℕ) (kind : Fault) → IsBadAt input line kind → Refused {T = A} (Err e) line kind)
    → (query : Query) (line : ℕ) (kind : Fault) → MustBeRefused query input line kind → Refused r line kind
without-net {A = A} input e r s given refused (Run schedule shown) line kind (inl b) = same-refused {A = A} e r line kind s (refused line kind b)
without-net {A = A} input e r s given refused (Run schedule shown) line kind (inr m) = inr (same-ended {A = A} e r s (given m.1.0.0 m.1.0.1))
without-net {A = A} input e r s given refused (Hierarchy shown) line kind m = same-refused {A = A} e r line kind s (refused line kind m)
without-net {A = A} input e r s given refused Flood line kind m = same-refused {A = A} e r line kind s (refused line kind m)
without-net {A = A} input e r s given refused Check line kind m = same-refused {A = A} e r line kind s (refused line kind m)
without-net {A = A} input e r s given refused Format line kind m = same-refused {A = A} e r line kind s (refused line kind m)
without-net {A = A} input e r s given refused (Traffic graph) line kind m = same-refused {A = A} e r line kind s (refused line kind m)

pub done-without-net : {A T : Type 0} (input : List ℕ) (e : InputFault) (r : Result T InputFault) → r ≡ Err e
    → ((net : NetParts) → IsNetOf input net → Ended {T = A} (Err e))
    → (query : Query) → CanBeDone query input → Ended r
done-without-net {A = A} input e r s given (Run schedule shown) d = inr (same-ended {A = A} e r s (given d.0.0 d.0.1))
done-without-net {A = A} input e r s given (Hierarchy shown) d = inr (same-ended {A = A} e r s (given d.0 d.1))
done-without-net {A = A} input e r s given Flood d = inr (same-ended {A = A} e r s (given d.0 d.1))
done-without-net {A = A} input e r s given Check d = inr (same-ended {A = A} e r s (given d.0 d.1))
done-without-net {A = A} input e r s given Format d = inr (same-ended {A = A} e r s (given d.0 d.1))
done-without-net {A = A} input e r s given (Traffic graph) d = inr (same-ended {A = A} e r s (given d.0 d.1))

-- a schedule that stops is refused at its line
stops-there : {T : Type 0} (r : Result T InputFault) (net : NetParts) (turns : List (ℕ × Turn)) (line : ℕ)
    → IfOk r (λ x. ArePermitted net turns)
    → ((l : ℕ) (k : Fault) → IsErrOf r (inputs.Bad l k) → (k ≡ BadTurn) × StopsAtLine net [] turns l)
    → StopsAtLine net [] turns line → Refused r line BadTurn
stops-there (Ok x) net turns line permitted bad stops = absurd (never-stops net [] turns permitted.0 line permitted.1 stops)
stops-there (Err (inputs.Bad l k)) net turns line permitted bad stops =
    let b = bad l k refl in
    inl (ap (λ z. Err (inputs.Bad z k)) (one-line net [] turns l line b.1 stops) ∙ ap (λ z. Err (inputs.Bad line z)) b.0)
stops-there (Err inputs.NoMemory) net turns line permitted bad stops = inr refl

-- one whose turns are permitted is not
never-refused : {T : Type 0} (r : Result T InputFault) (net : NetParts) (turns : List (ℕ × Turn))
    → ((l : ℕ) (k : Fault) → IsErrOf r (inputs.Bad l k) → (k ≡ BadTurn) × StopsAtLine net [] turns l)
    → ArePermitted net turns → Ended r
never-refused (Ok x) net turns bad permitted = inl refl
never-refused (Err (inputs.Bad l k)) net turns bad permitted = absurd (never-stops net [] turns permitted.0 l permitted.1 (bad l k refl).1)
never-refused (Err inputs.NoMemory) net turns bad permitted = inr refl

-- a document that is at fault is so whatever is wanted of it
pub net-at-fault : (query : Query) (input : List ℕ) (line : ℕ) (kind : Fault) → IsBadAt input line kind → IsAtFault query input line kind
net-at-fault (Run schedule shown) input line kind b = inl b
net-at-fault (Hierarchy shown) input line kind b = b
net-at-fault Flood input line kind b = b
net-at-fault Check input line kind b = b
net-at-fault Format input line kind b = b
net-at-fault (Traffic graph) input line kind b = b

-- what is answered of a document with a net
module _ {T : Type 0} (r : Result T InputFault) (input : List ℕ) (net : NetParts) (of : IsNetOf input net) where
  pub turn-at-fault : (query : Query) (line : ℕ) (kind : Fault) → (kind ≡ BadTurn) × StopsAtLine net [] (turns_for query net) line → IsAtFault query input line kind
  turn-at-fault (Run schedule shown) line kind s = inr (s.0, (net, of, s.1))
  turn-at-fault (Hierarchy shown) line kind s = absurd s.1
  turn-at-fault Flood line kind s = absurd s.1
  turn-at-fault Check line kind s = absurd s.1
  turn-at-fault Format line kind s = absurd s.1
  turn-at-fault (Traffic graph) line kind s = absurd s.1

  pub net-refused : (query : Query) (line : ℕ) (kind : Fault) → (IsBadAt input line kind → ⊥)
      → IfOk r (λ x. ArePermitted net (turns_for query net))
      → ((l : ℕ) (k : Fault) → IsErrOf r (inputs.Bad l k) → (k ≡ BadTurn) × StopsAtLine net [] (turns_for query net) l)
      → MustBeRefused query input line kind → Refused r line kind
  net-refused (Run schedule shown) line kind good permitted bad (inl b) = absurd (good b)
  net-refused (Run schedule shown) line kind good permitted bad (inr m) =
      subst (λ z. Refused r line z) (sym m.0) (stops-there r net (turns_first schedule net) line permitted bad (m.1.1 net of))
  net-refused (Hierarchy shown) line kind good permitted bad m = absurd (good m)
  net-refused Flood line kind good permitted bad m = absurd (good m)
  net-refused Check line kind good permitted bad m = absurd (good m)
  net-refused Format line kind good permitted bad m = absurd (good m)
  net-refused (Traffic graph) line kind good permitted bad m = absurd (good m)

  permitted-by : (query : Query) → CanBeDone query input → ArePermitted net (turns_for query net)
  permitted-by (Run schedule shown) d = d.1 net of
  permitted-by (Hierarchy shown) d = ([], refl)
  permitted-by Flood d = ([], refl)
  permitted-by Check d = ([], refl)
  permitted-by Format d = ([], refl)
  permitted-by (Traffic graph) d = ([], refl)

  pub net-done : (query : Query)
      → ((l : ℕ) (k : Fault) → IsErrOf r (inputs.Bad l k) → (k ≡ BadTurn) × StopsAtLine net [] (turns_for query net) l)
      → CanBeDone query input → Ended r
  net-done query bad d = never-refused r net (turns_for query net) bad (permitted-by query d)
