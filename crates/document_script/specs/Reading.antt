-- How the code follows the definitions over tokens; no promise to a caller speaks of it.
use Rattle.std.specs.Prelude.{◌≡◌, ◌<◌, ◌≤◌, Bool, true, false, List, [], ◌∷◌, ℕ, length, Some, None, Ok, Err}
use Rattle.std.specs.List.{filter_map, list_any}
use Rattle.std.specs.declared.option.Option.{Option}
use Rattle.std.specs.declared.result.Result.{Result}
use Rattle.filter_constraints.specs.Constraint.{ConstraintParts}
use Rattle.filter_types.specs.Canonical.{canonical}
use Rattle.filter_text.specs.Reading.{ReadsAs}
use Rattle.document_script.specs.declared.fault.ScriptFault.{ScriptFault}
use Rattle.document_script.specs.declared.fault.ScriptFault.TheVariants as faults
use Rattle.document_script.specs.declared.token.Token.{Token as Read}
use Rattle.document_script.specs.Tokens.{Token}
use Rattle.document_script.specs.Seen.{seen}

-- a fault told while reading: out of memory tells nothing, and else nothing is there to be read
abbrev pub FailsOnTokens : {Y : Type 0} → ScriptFault → Option Y → Type 0
FailsOnTokens faults.NoMemory read = Unit {0}
FailsOnTokens faults.Syntax read = read ≡ None
FailsOnTokens e read = ⊥

-- the result, seen by view, is what reading gives, with the tokens that are left then, unless memory ran out
abbrev pub ReadsTokens : {X Y : Type 0} → (X → Y) → Result X ScriptFault → Option (Y × List Token) → List Token → Type 0
ReadsTokens view result read left = ReadsAs FailsOnTokens view result read left

-- of at most 64 items all are kept, and of more than 64 there are more than 64 kept
pub record KeepsFew {I : Type 0} (inner : Bool × List I) (given : List I) : Type 0 where
  pub few : length given ≤ 64 → inner.1 ≡ given
  pub many : 64 < length given → 64 < length inner.1

-- repeats and order aside, the constraints that are kept are those that were given; or it is told that there are enough, and of
-- either there are more than 64 distinct ones
abbrev pub KeepsDistinct : Bool × List ConstraintParts → List ConstraintParts → Type 0
KeepsDistinct (false, inner) given = canonical inner ≡ canonical given
KeepsDistinct (true, inner) given = (64 < length (canonical inner)) × (64 < length (canonical given))

-- of parts, of which there is one at least, these are kept of what is within the limits, and it is told whether a value is
-- beyond them and whether a pattern is empty
pub record IsGathered {P I : Type 0} (keeps : Bool × List I → List I → Type 0) (inside : P → Option I) (is_beyond is_empty : P → Bool)
    (inner : Bool × List I) (has_beyond has_empty : Bool) (parts : List P) : Type 0 where
  pub some : 0 < length parts
  pub kept : keeps inner (filter_map inside parts)
  pub beyond : has_beyond ≡ list_any is_beyond parts
  pub empty : has_empty ≡ list_any is_empty parts

-- the result is so of the parts that are there, unless memory ran out
abbrev pub GathersTokens : {X P : Type 0} → (X → List P → Type 0) → Result X ScriptFault → Option (List P) → Type 0
GathersTokens is (Ok x) read = (parts : List _) × (read ≡ Some parts) × is x parts
GathersTokens is (Err e) read = FailsOnTokens e read

-- the token in front is told, unless memory ran out
abbrev pub Cuts : {E : Type 0} → Result Read E → Token × List ℕ → List ℕ → Type 0
Cuts (Ok t) cut left = (seen t, left) ≡ cut
Cuts (Err e) cut left = Unit {0}

-- the token in front of the others is told, and at the end that there is none
abbrev pub Nexts : {E : Type 0} → Result (Option Read) E → List Token → List Token → Type 0
Nexts (Ok None) before after = (before ≡ []) × (after ≡ [])
Nexts (Ok (Some t)) before after = before ≡ seen t ∷ after
Nexts (Err e) before after = Unit {0}

-- what stands in front is told with the tokens that are left then, or that there is no such thing
abbrev pub TakesFront : {X Y : Type 0} → (X → Y) → Option X → Option (Y × List Token) → List Token → Type 0
TakesFront view None front after = front ≡ None
TakesFront view (Some x) front after = front ≡ Some (view x, after)

-- the decoded bytes of a string and what follows it are told, or that there is none
abbrev pub Quotes : {E X : Type 0} → (X → List ℕ) → Result (Option X) E → Option (List ℕ × List ℕ) → List ℕ → List ℕ → Type 0
Quotes view (Ok None) quoted before after = (quoted ≡ None) × (after ≡ before)
Quotes view (Ok (Some x)) quoted before after = quoted ≡ Some (view x, after)
Quotes view (Err e) quoted before after = Unit {0}

-- the answer is the fault, or there is none and the value is so, unless memory ran out
abbrev pub Judges : {X : Type 0} → (X → Type 0) → Result X ScriptFault → Option ScriptFault → Type 0
Judges P (Ok x) fault = (fault ≡ None) × P x
Judges P (Err faults.NoMemory) fault = Unit {0}
Judges P (Err e) fault = fault ≡ Some e
