-- Proves that what a reader answers is what the input claims, and that no input has two answers.
use Rattle.std.proofs.Common.{◌≡◌, ◌⊎◌, inl, inr, ℕ, List, refl, sym, ap, subst, ◌∙◌, Result, Ok, Err}
use Rattle.std.specs.Prelude.{IfOk, IsOk, codes}
use Rattle.net_model.specs.declared.turn.Turn.{Turn}
use Rattle.net_model.specs.Parts.{NetParts}
use Rattle.document_reader.specs.Lines.{lines}
use Rattle.document_reader.specs.Net.{IsNetOf}
use Rattle.document_reader.specs.Places.{document_of}
use Rattle.document_reader.specs.declared.fault.Fault.{Fault}
use Rattle.document_reader.specs.Cut.{IsCutAt}
use Rattle.document_reader.proofs.Parting.{no_such, one_before}
use Rattle.audit_claim.specs.Claim.{CanClaim, HasNoOutput, IsBadDocument, IsClaimOf, IsFormless, IsInput, MustBeFormless, output_shows}
use Rattle.audit_claim.specs.Reading.{AnswersClaim}
use Rattle.audit_claim.specs.declared.fault.ClaimFault.{ClaimFault}
use Rattle.audit_claim.specs.declared.fault.ClaimFault.TheVariants as faults
use Rattle.base.proofs.Results.{ok-not-err, one-err, one-err-pair}

abbrev pub IsPart : List ℕ → List ℕ → Type 0
IsPart bytes document = ((output : List ℕ) × IsCutAt (codes "output") bytes document output) ⊎ (HasNoOutput bytes × (document ≡ bytes))

-- an input with an output has one
pub not_alone : (bytes document output : List ℕ) → IsCutAt (codes "output") bytes document output → HasNoOutput bytes → ⊥
not_alone bytes document output c none = no_such (codes "output") (lines document) (lines output) (rw (← c.cut) none)

-- an input has one document part
pub one_part : (bytes d d' : List ℕ) → IsPart bytes d → IsPart bytes d' → d ≡ d'
one_part bytes d d' (inl (o, c)) (inl (o', c')) = one_before (codes "output") bytes d d' o o' c c'
one_part bytes d d' (inl (o, c)) (inr (none, e)) = absurd (not_alone bytes d o c none)
one_part bytes d d' (inr (none, e)) (inl (o, c)) = absurd (not_alone bytes d' o c none)
one_part bytes d d' (inr (none, e)) (inr (none', e')) = e ∙ sym e'

-- a document with a net is not refused
pub net_or_bad : (bytes d : List ℕ) (net : NetParts) (line : ℕ) (kind : Fault) → IsPart bytes d → IsNetOf d net → IsBadDocument bytes line kind → ⊥
net_or_bad bytes d net line kind p n b = ok-not-err (document_of d) n.state (line, kind) n.read (ap document_of (one_part bytes d b.document p b.part) ∙ b.bad)

pub input_or_bad : (bytes document output : List ℕ) (net : NetParts) (line : ℕ) (kind : Fault) → IsInput bytes document output net → IsBadDocument bytes line kind → ⊥
input_or_bad bytes document output net line kind i b = net_or_bad bytes document net line kind (inl (output, i.cut)) i.well_formed b

pub formless_or_bad : (bytes : List ℕ) (n line : ℕ) (kind : Fault) → IsFormless bytes n → IsBadDocument bytes line kind → ⊥
formless_or_bad bytes n line kind (inl (none, (net, w), e)) b = net_or_bad bytes bytes net line kind (inr (none, refl)) w b
formless_or_bad bytes n line kind (inr (document, output, net, i, e)) b = input_or_bad bytes document output net line kind i b

pub one_bad : (bytes : List ℕ) (l line : ℕ) (k kind : Fault) → IsBadDocument bytes l k → IsBadDocument bytes line kind → (l ≡ line) × (k ≡ kind)
one_bad bytes l line k kind a b = one-err-pair (document_of a.document) l line k kind a.bad (ap document_of (one_part bytes a.document b.document a.part b.part) ∙ b.bad)

-- what must not be of its form has one such line
pub one_formless : (bytes : List ℕ) (n line : ℕ) → IsFormless bytes n → MustBeFormless bytes line → n ≡ line
one_formless bytes n line (inl (none, w, e)) (inl (none', w', e')) = e ∙ sym e'
one_formless bytes n line (inl (none, w, e)) (inr ((d, o, net, i), all)) = absurd (not_alone bytes d o i.cut none)
one_formless bytes n line (inr (d, o, net, i, e)) (inl (none, w, e')) = absurd (not_alone bytes d o i.cut none)
one_formless bytes n line (inr (d, o, net, i, e)) (inr (h, all)) = one-err (output_shows net d o) n line e (all d o net i)

pub bad_not_formless : (bytes : List ℕ) (n : ℕ) (kind : Fault) (line : ℕ) → IsBadDocument bytes n kind → MustBeFormless bytes line → ⊥
bad_not_formless bytes n kind line b (inl a) = formless_or_bad bytes line n kind (inl a) b
bad_not_formless bytes n kind line b (inr ((d, o, net, i), all)) = input_or_bad bytes d o net n kind i b

pub claim_not_formless : (bytes : List ℕ) (net : NetParts) (from first end : ℕ) (turns : List (ℕ × Turn)) (line : ℕ) → IsClaimOf bytes net from first end turns → MustBeFormless bytes line → ⊥
claim_not_formless bytes net from first end turns line c (inl (none, w, e)) = not_alone bytes c.document c.output c.input.cut none
claim_not_formless bytes net from first end turns line c (inr (h, all)) =
    ok-not-err (output_shows net c.document c.output) (turns, end) line c.shows (all c.document c.output net c.input)

pub formless_no_claim : (bytes : List ℕ) (n : ℕ) → IsFormless bytes n → CanClaim bytes → ⊥
formless_no_claim bytes n (inl (none, w, e)) ((d, o, net, i), all) = not_alone bytes d o i.cut none
formless_no_claim bytes n (inr (d, o, net, i, e)) (h, all) =
    let t = all d o net i in
    ok-not-err (output_shows net d o) (t.0, t.1) n t.2 e

module _ {C : Type 0} (net : C → NetParts) (from line end : C → ℕ) (turns : C → List (ℕ × Turn)) (bytes : List ℕ) where
  abbrev Answers : Result C ClaimFault → Type 0
  Answers r = AnswersClaim net from line end turns bytes r

  pub claim_read : (r : Result C ClaimFault) → Answers r → IfOk r (λ c. IsClaimOf bytes (net c) (from c) (line c) (end c) (turns c))
  claim_read (Ok c) h = h
  claim_read (Err e) h = tt

  pub given_read : (r : Result C ClaimFault) → Answers r → CanClaim bytes → IsOk r ⊎ (r ≡ Err faults.NoMemory)
  given_read (Ok c) h k = inl refl
  given_read (Err faults.NoMemory) h k = inr refl
  given_read (Err (faults.Form n)) h k = absurd (formless_no_claim bytes n h k)
  given_read (Err (faults.Document n kind)) h ((d, o, w, i), all) = absurd (input_or_bad bytes d o w n kind i h)

  pub document_read : (r : Result C ClaimFault) → Answers r → (n : ℕ) (kind : Fault) → r ≡ Err (faults.Document n kind) → IsBadDocument bytes n kind
  document_read (Ok c) h n kind e = cc
  document_read (Err faults.NoMemory) h n kind e = cc
  document_read (Err (faults.Form l)) h n kind e = cc
  document_read (Err (faults.Document l k)) h n kind e =
      let a : l ≡ n = cc in
      let b : k ≡ kind = cc in
      subst (λ z. IsBadDocument bytes z kind) a (subst (λ z. IsBadDocument bytes l z) b h)

  pub form_read : (r : Result C ClaimFault) → Answers r → (n : ℕ) → r ≡ Err (faults.Form n) → IsFormless bytes n
  form_read (Ok c) h n e = cc
  form_read (Err faults.NoMemory) h n e = cc
  form_read (Err (faults.Document l k)) h n e = cc
  form_read (Err (faults.Form l)) h n e = let a : l ≡ n = cc in subst (IsFormless bytes) a h

  pub refused_document : (r : Result C ClaimFault) → Answers r → (n : ℕ) (kind : Fault) → IsBadDocument bytes n kind
      → (r ≡ Err (faults.Document n kind)) ⊎ (r ≡ Err faults.NoMemory)
  refused_document (Ok c) h n kind b = absurd (input_or_bad bytes h.document h.output (net c) n kind h.input b)
  refused_document (Err faults.NoMemory) h n kind b = inr refl
  refused_document (Err (faults.Form l)) h n kind b = absurd (formless_or_bad bytes l n kind h b)
  refused_document (Err (faults.Document l k)) h n kind b =
      let t = one_bad bytes l n k kind h b in
      inl (λ i. Err (faults.Document (t.0 i) (t.1 i)))

  pub refused_form : (r : Result C ClaimFault) → Answers r → (n : ℕ) → MustBeFormless bytes n → (r ≡ Err (faults.Form n)) ⊎ (r ≡ Err faults.NoMemory)
  refused_form (Ok c) h n m = absurd (claim_not_formless bytes (net c) (from c) (line c) (end c) (turns c) n h m)
  refused_form (Err faults.NoMemory) h n m = inr refl
  refused_form (Err (faults.Document l k)) h n m = absurd (bad_not_formless bytes l k n h m)
  refused_form (Err (faults.Form l)) h n m = inl (ap (λ z. Err (faults.Form z)) (one_formless bytes l n h m))
