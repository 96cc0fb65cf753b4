-- Proves that the answer to each thing that is asked for is as its definition says.
use Rattle.std.proofs.Common.{◌≡◌, ◌≤◌, ◌⊎◌, inl, inr, ℕ, Bool, true, List, ◌+◌, ◌++◌, length, Result, Ok, Err, refl, ap, subst, arith}
use Rattle.std.specs.Result.{IfOk, IsOk, IsErrOf}
use Rattle.base_devices.specs.Whole.{Gave}
use Rattle.base_devices.specs.declared.whole.ReadAll.{ReadAll}
use Rattle.base_devices.specs.declared.whole.ReadAll.TheVariants as reads
use Rattle.document_reader.specs.declared.fault.Fault.{Fault}
use Rattle.document_reader.specs.declared.fault.InputFault.{InputFault}
use Rattle.document_reader.specs.declared.fault.InputFault.TheVariants as inputs
use Rattle.program_sequential.specs.declared.unanswered.Unanswered.{Unanswered}
use Rattle.program_sequential.specs.declared.unanswered.Unanswered.TheVariants as whys
use Rattle.program_sequential.specs.declared.words.Query.{Query}
use Rattle.program_sequential.specs.declared.words.Wanted.{Wanted}
use Rattle.program_sequential.specs.declared.words.Wanted.TheVariants.{About, Audit, Document, Explain, Generate, Patterns}
use Rattle.program_sequential.specs.declared.subject.Subject.{Subject}
use Rattle.program_sequential.specs.Explaining.{ExplainsSource}
use Rattle.program_sequential.specs.Faults.{IsAtFault, MustBeRefused, CanBeDone}
use Rattle.program_sequential.specs.Answers.{IsPrintedOf, most_for, reads_document}
use Rattle.program_sequential.specs.Answering.{IsAnswer, Says, of_unread, widened}
use Rattle.program_sequential.specs.Auditing.{AuditsInput, AuditsSource}
use Rattle.program_sequential.specs.Searching.{SearchesInput, SearchesSource}
use Rattle.program_sequential.specs.Showing.{PrintedParts}
use Rattle.program_sequential.proofs.Confirmed.{audit-done, audit-refused, audit-wrong, unread-audit}
use Rattle.program_sequential.proofs.Explained.{explain-done, explain-refused, explain-unknown, unread-explained}
use Rattle.program_sequential.proofs.Searched.{search-bad, search-done, search-refused, unread-answer}
use Rattle.program_sequential.proofs.Sources.{same-given, long-fault, unread-refused, unread-done}

-- Answers about documents.

is-ok-wide : {T : Type 0} (r : Result T InputFault) → IsOk r → IsOk (widened r)
is-ok-wide (Ok p) e = refl
is-ok-wide (Err fault) e = absurd cc

-- what is answered of a document's bytes is no fault of reading them
pub never-unread : {T : Type 0} (r : Result T InputFault) → IsErrOf (widened r) whys.ReadFault → ⊥
never-unread (Ok p) e = absurd cc
never-unread (Err (inputs.Bad line kind)) e = absurd cc
never-unread (Err inputs.NoMemory) e = absurd cc

document-says : (query : Query) (a b input : List ℕ) (ended : Bool) (r : Result PrintedParts InputFault) → b ≡ a ++ input → ended ≡ true
    → IfOk r (λ p. IsPrintedOf query input p.text p.journal)
    → ((line : ℕ) (kind : Fault) → IsErrOf r (inputs.Bad line kind) → IsAtFault query input line kind) → Says (Document query) a b ended (widened r)
document-says query a b input ended (Ok p) is e printed bad = (input, is, e, printed)
document-says query a b input ended (Err (inputs.Bad line kind)) is e printed bad = (input, (is, inl e), bad line kind refl)
document-says query a b input ended (Err inputs.NoMemory) is e printed bad = tt

-- the answer about all bytes up to the end of a source
pub document-answer : (query : Query) (a b input : List ℕ) (ended : Bool) (r : Result PrintedParts InputFault) → b ≡ a ++ input → ended ≡ true
    → IfOk r (λ p. IsPrintedOf query input p.text p.journal)
    → ((line : ℕ) (kind : Fault) → IsErrOf r (inputs.Bad line kind) → IsAtFault query input line kind)
    → ((line : ℕ) (kind : Fault) → MustBeRefused query input line kind → IsErrOf r (inputs.Bad line kind) ⊎ IsErrOf r inputs.NoMemory)
    → (CanBeDone query input → IsOk r ⊎ IsErrOf r inputs.NoMemory) → IsAnswer (Document query) a b ended (widened r)
document-answer query a b input ended r is e printed bad refused done = record {
  says = document-says query a b input ended r is e printed bad;
  refused = λ line kind t. elim (refused line kind (subst (λ x. MustBeRefused query x line kind) (same-given a b t.0 input t.1.0 is) t.2)) [
    | inl e ↦ inl (ap widened e)
    | inr e ↦ inr (ap widened e)
  ];
  refused_pattern = λ line kind t. absurd t;
  wrong = λ line kind t. absurd t;
  unknown = λ kind t. absurd t;
  done = λ t. elim (done (subst (λ x. CanBeDone query x) (same-given a b t.0 input t.1.0 is) t.2)) [
    | inl e ↦ inl (is-ok-wide r e)
    | inr e ↦ inr (ap widened e)
  ];
}

unread-says : (query : Query) (a b : List ℕ) (ended : Bool) (e : ReadAll) → (e ≡ reads.TooLong → Gave a b (λ given. length given ≡ 4194305))
    → Says (Document query) a b ended (Err (of_unread e))
unread-says query a b ended reads.TooLong long = long-fault query a b ended (long refl)
unread-says query a b ended reads.Failed long = tt
unread-says query a b ended reads.NoMemory long = tt

-- the answer about a source that was not read to its end
pub unread-document : (query : Query) (a b : List ℕ) (ended : Bool) (e : ReadAll) → (e ≡ reads.TooLong → Gave a b (λ given. length given ≡ 4194305))
    → (e ≡ reads.Failed → Gave a b (λ given. length given ≤ 4194304)) → (ended ≡ true → ⊥) → IsAnswer (Document query) a b ended (Err (of_unread e))
unread-document query a b ended e long within never = record {
  says = unread-says query a b ended e long;
  refused = λ line kind t. elim t.1.1 [
    | inl x ↦ absurd (never x)
    | inr big ↦ unread-refused query a b t.0 e line kind within t.1.0 big t.2
  ];
  refused_pattern = λ line kind t. absurd t;
  wrong = λ line kind t. absurd t;
  unknown = λ kind t. absurd t;
  done = λ t. elim t.1.1 [
    | inl x ↦ absurd (never x)
    | inr big ↦ absurd (unread-done query t.0 big t.2)
  ];
}

-- Answers about patterns.

pattern-says : (a b : List ℕ) (ended : Bool) (r : Result PrintedParts Unanswered) → SearchesSource a b ended r → Says Patterns a b ended r
pattern-says a b ended (Ok p) h = h
pattern-says a b ended (Err (whys.BadInput line kind)) h = h
pattern-says a b ended (Err (whys.BadPattern line kind)) h = h
pattern-says a b ended (Err (whys.Refuted line kind)) h = absurd h
pattern-says a b ended (Err (whys.Unknown kind)) h = absurd h
pattern-says a b ended (Err whys.ReadFault) h = tt
pattern-says a b ended (Err whys.NoMemory) h = tt

pub pattern-answer : (a b : List ℕ) (ended : Bool) (r : Result PrintedParts Unanswered) → SearchesSource a b ended r → IsAnswer Patterns a b ended r
pattern-answer a b ended r h = record {
  says = pattern-says a b ended r h;
  refused = λ line kind t. search-refused a b ended r line kind h t;
  refused_pattern = λ line kind t. search-bad a b ended r line kind h t;
  wrong = λ line kind t. absurd t;
  unknown = λ kind t. absurd t;
  done = λ t. search-done a b ended r h t;
}

-- Answers to audits.

audit-says : (hierarchy : Bool) (a b : List ℕ) (ended : Bool) (r : Result PrintedParts Unanswered) → AuditsSource hierarchy a b ended r → Says (Audit hierarchy) a b ended r
audit-says hierarchy a b ended (Ok p) h = h
audit-says hierarchy a b ended (Err (whys.BadInput line kind)) h = h
audit-says hierarchy a b ended (Err (whys.BadPattern line kind)) h = absurd h
audit-says hierarchy a b ended (Err (whys.Refuted line kind)) h = h
audit-says hierarchy a b ended (Err (whys.Unknown kind)) h = absurd h
audit-says hierarchy a b ended (Err whys.ReadFault) h = tt
audit-says hierarchy a b ended (Err whys.NoMemory) h = tt

pub claim-answer : (hierarchy : Bool) (a b : List ℕ) (ended : Bool) (r : Result PrintedParts Unanswered) → AuditsSource hierarchy a b ended r → IsAnswer (Audit hierarchy) a b ended r
claim-answer hierarchy a b ended r h = record {
  says = audit-says hierarchy a b ended r h;
  refused = λ line kind t. audit-refused hierarchy a b ended r line kind h t;
  refused_pattern = λ line kind t. absurd t;
  wrong = λ line kind t. audit-wrong hierarchy a b ended r line kind h t;
  unknown = λ kind t. absurd t;
  done = λ t. audit-done hierarchy a b ended r h t;
}

-- Answers to questions.

question-says : (q : Subject) (a b : List ℕ) (ended : Bool) (r : Result PrintedParts Unanswered) → ExplainsSource q a b ended r → Says (Explain q) a b ended r
question-says q a b ended (Ok p) h = h
question-says q a b ended (Err (whys.BadInput line kind)) h = h
question-says q a b ended (Err (whys.BadPattern line kind)) h = absurd h
question-says q a b ended (Err (whys.Refuted line kind)) h = absurd h
question-says q a b ended (Err (whys.Unknown kind)) h = h
question-says q a b ended (Err whys.ReadFault) h = tt
question-says q a b ended (Err whys.NoMemory) h = tt

pub question-answer : (q : Subject) (a b : List ℕ) (ended : Bool) (r : Result PrintedParts Unanswered) → ExplainsSource q a b ended r → IsAnswer (Explain q) a b ended r
question-answer q a b ended r h = record {
  says = question-says q a b ended r h;
  refused = λ line kind t. explain-refused q a b ended r line kind h t;
  refused_pattern = λ line kind t. absurd t;
  wrong = λ line kind t. absurd t;
  unknown = λ kind t. explain-unknown q a b ended r kind h t;
  done = λ t. explain-done q a b ended r h t;
}

-- What could not be read, and what was.

pub unread-wanted : (wanted : Wanted) (a b : List ℕ) (ended : Bool) (limit : ℕ) (e : ReadAll) → reads_document wanted ≡ true → limit + 1 ≡ most_for wanted
    → (e ≡ reads.TooLong → Gave a b (λ given. length given ≡ limit + 1)) → (e ≡ reads.Failed → Gave a b (λ given. length given ≤ limit)) → (ended ≡ true → ⊥)
    → IsAnswer wanted a b ended (Err (of_unread e))
unread-wanted (Document query) a b ended limit e is most long within never =
    let s : limit ≡ 4194304 = omega (arith, most) in
    unread-document query a b ended e (subst (λ (k : ℕ). e ≡ reads.TooLong → Gave a b (λ given. length given ≡ k + 1)) s long)
    (subst (λ (k : ℕ). e ≡ reads.Failed → Gave a b (λ given. length given ≤ k)) s within) never
unread-wanted (Generate seed summary) a b ended limit e is most long within never = absurd cc
unread-wanted Patterns a b ended limit e is most long within never =
    let s : limit ≡ 4194304 = omega (arith, most) in
    pattern-answer a b ended _ (unread-answer a b ended e (subst (λ (k : ℕ). e ≡ reads.TooLong → Gave a b (λ given. length given ≡ k + 1)) s long)
    (subst (λ (k : ℕ). e ≡ reads.Failed → Gave a b (λ given. length given ≤ k)) s within) never)
unread-wanted (Explain q) a b ended limit e is most long within never =
    let s : limit ≡ 4194304 = omega (arith, most) in
    question-answer q a b ended _ (unread-explained q a b ended e (subst (λ (k : ℕ). e ≡ reads.TooLong → Gave a b (λ given. length given ≡ k + 1)) s long)
    (subst (λ (k : ℕ). e ≡ reads.Failed → Gave a b (λ given. length given ≤ k)) s within) never)
unread-wanted (Audit hierarchy) a b ended limit e is most long within never =
    let s : limit ≡ 268435456 = omega (arith, most) in
    claim-answer hierarchy a b ended _ (unread-audit hierarchy a b ended e (subst (λ (k : ℕ). e ≡ reads.TooLong → Gave a b (λ given. length given ≡ k + 1)) s long)
    (subst (λ (k : ℕ). e ≡ reads.Failed → Gave a b (λ given. length given ≤ k)) s within) never)
unread-wanted (About page) a b ended limit e is most long within never = absurd cc

-- what is searched and what is audited was read
pub searched-read : (input : List ℕ) (r : Result PrintedParts Unanswered) → SearchesInput input r → IsErrOf r whys.ReadFault → ⊥
searched-read input r h e = subst (SearchesInput input) e h

pub audited-read : (hierarchy : Bool) (input : List ℕ) (r : Result PrintedParts Unanswered) → AuditsInput hierarchy input r → IsErrOf r whys.ReadFault → ⊥
audited-read hierarchy input r h e = subst (AuditsInput hierarchy input) e h

-- what is answered of a source that was not read out, where it did not fail and memory was not refused
pub only-long : (e : ReadAll) (why : Unanswered) (F : Type 0) → why ≡ of_unread e → (e ≡ reads.TooLong → F) → (why ≡ whys.ReadFault → ⊥)
    → (why ≡ whys.NoMemory → ⊥) → F
only-long reads.TooLong why F is long read memory = long refl
only-long reads.Failed why F is long read memory = absurd (read is)
only-long reads.NoMemory why F is long read memory = absurd (memory is)
