-- What is known of a document that a source gave.
use Rattle.std.proofs.Common.{◌≡◌, ◌⊎◌, inl, inr, ℕ, ◌<◌, ◌≤◌, nat_lt, Bool, true, false, List, ◌++◌, if◌then◌else◌, length, Err, refl, sym, ap, ◌∙◌, subst, arith}
use Rattle.std.proofs.lemmas.Bool.Decides.{nat_tests}
use Rattle.std.proofs.lemmas.List.{append_cancel_left}
use Rattle.std.specs.Result.{IsErrOf}
use Rattle.base_devices.specs.Whole.{Gave}
use Rattle.document_reader.specs.declared.fault.Fault.{Fault}
use Rattle.document_reader.specs.declared.fault.Fault.TheVariants.{TooLong}
use Rattle.document_reader.specs.Lines.{lines}
use Rattle.document_reader.specs.Places.{document_of, read_from, start}
use Rattle.document_reader.specs.Net.{IsBadAt}
use Rattle.base_devices.specs.declared.whole.ReadAll.{ReadAll}
use Rattle.base_devices.specs.declared.whole.ReadAll.TheVariants as reads
use Rattle.program_sequential.specs.declared.unanswered.Unanswered.TheVariants as whys
use Rattle.program_sequential.specs.Answering.{of_unread}
use Rattle.program_sequential.specs.declared.words.Query.{Query}
use Rattle.program_sequential.specs.declared.words.Query.TheVariants.{Run, Hierarchy, Flood, Check, Format, Traffic}
use Rattle.program_sequential.specs.declared.words.Wanted.TheVariants.{Document}
use Rattle.program_sequential.specs.Faults.{HasNet, IsAtFault, MustBeRefused, CanBeDone}
use Rattle.program_sequential.specs.Answers.{HasFaultFor}
use Rattle.program_sequential.proofs.Documents.{net-or-bad, same-bad}
use Rattle.program_sequential.proofs.Ended.{net-at-fault}

-- a document that is too long
pub too-long : (input : List ℕ) → 4194304 < length input → IsBadAt input 0 TooLong
unfolding document_of
too-long input h = go (nat_lt 4194304 (length input)) (grind (arith, nat_tests, h))
  where
    go : (b : Bool) → b ≡ true → (if b then Err (0, TooLong) else read_from 1 start (lines input)) ≡ Err (0, TooLong)
    go true e = refl
    go false e = absurd cc

-- a call gave one list of bytes
pub same-given : (a b x y : List ℕ) → b ≡ a ++ x → b ≡ a ++ y → x ≡ y
same-given a b x y p q = append_cancel_left a x y (sym p ∙ q)

-- where more was given than a document may have, that is its fault
pub long-fault : (query : Query) (a b : List ℕ) (ended : Bool) → Gave a b (λ given. length given ≡ 4194305) → HasFaultFor (Document query) a b ended 0 TooLong
long-fault query a b ended t =
    let input = t.0 in
    let big : 4194304 < length input = omega (arith, t.2) in
    (input, (t.1, inr big), net-at-fault query input 0 TooLong (too-long input big))

one-fault : (input : List ℕ) (line : ℕ) (kind : Fault) → IsBadAt input 0 TooLong → IsBadAt input line kind → (0 ≡ line) × (TooLong ≡ kind)
one-fault input line kind a b = same-bad input 0 line TooLong kind a b

no-net : (input : List ℕ) → IsBadAt input 0 TooLong → HasNet input → ⊥
no-net input a b = net-or-bad input b.0 0 TooLong b.1 a

-- what must be refused of a document that is too long is that
must-be-long : (query : Query) (input : List ℕ) (line : ℕ) (kind : Fault) → IsBadAt input 0 TooLong → MustBeRefused query input line kind → (0 ≡ line) × (TooLong ≡ kind)
must-be-long (Run schedule shown) input line kind a (inl b) = one-fault input line kind a b
must-be-long (Run schedule shown) input line kind a (inr m) = absurd (no-net input a m.1.0)
must-be-long (Hierarchy shown) input line kind a b = one-fault input line kind a b
must-be-long Flood input line kind a b = one-fault input line kind a b
must-be-long Check input line kind a b = one-fault input line kind a b
must-be-long Format input line kind a b = one-fault input line kind a b
must-be-long (Traffic graph) input line kind a b = one-fault input line kind a b

never-done : (query : Query) (input : List ℕ) → IsBadAt input 0 TooLong → CanBeDone query input → ⊥
never-done (Run schedule shown) input a d = no-net input a d.0
never-done (Hierarchy shown) input a d = no-net input a d
never-done Flood input a d = no-net input a d
never-done Check input a d = no-net input a d
never-done Format input a d = no-net input a d
never-done (Traffic graph) input a d = no-net input a d

-- where too much was given, that is the answer
pub unread-refused : {T : Type 0} (query : Query) (a b input : List ℕ) (e : ReadAll) (line : ℕ) (kind : Fault) → (e ≡ reads.Failed → Gave a b (λ given. length given ≤ 4194304))
    → b ≡ a ++ input → 4194304 < length input → MustBeRefused query input line kind
    → IsErrOf {T = T} (Err (of_unread e)) (whys.BadInput line kind) ⊎ IsErrOf {T = T} (Err (of_unread e)) whys.NoMemory
unread-refused query a b input reads.TooLong line kind within is big m =
    let w = must-be-long query input line kind (too-long input big) m in
    inl (ap (λ z. Err (whys.BadInput z TooLong)) w.0 ∙ ap (λ z. Err (whys.BadInput line z)) w.1)
unread-refused query a b input reads.Failed line kind within is big m =
    let t = within refl in
    let same : input ≡ t.0 = same-given a b input t.0 is t.1 in
    absurd (omega (arith, big, subst (λ (z : List ℕ). length z ≤ 4194304) (sym same) t.2))
unread-refused query a b input reads.NoMemory line kind within is big m = inr refl

-- and nothing can be done of it
pub unread-done : (query : Query) (input : List ℕ) → 4194304 < length input → CanBeDone query input → ⊥
unread-done query input big d = never-done query input (too-long input big) d
