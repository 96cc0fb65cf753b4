-- Proves that what the reader answers is what the input gives.
use Rattle.std.proofs.Common.{◌≡◌, ◌⊎◌, inl, inr, ℕ, ◌+◌, ◌≤◌, List, length, refl, sym, ap, subst, ◌∙◌, arith, map, [], Result, Ok, Err}
use Rattle.std.specs.Prelude.{IfOk, IsOk}
use Rattle.net_model.specs.Parts.{NetParts}
use Rattle.document_reader.specs.Lines.{lines}
use Rattle.document_reader.specs.Net.{IsBadAt, IsNetOf}
use Rattle.document_reader.specs.Places.{document_of}
use Rattle.document_reader.specs.Rules.{version_number}
use Rattle.document_reader.specs.Net.{client_of}
use Rattle.document_reader.specs.declared.fault.Fault.{Fault}
use Rattle.std.specs.Prelude.{codes}
use Rattle.document_reader.specs.Cut.{IsNoLine, first_number}
use Rattle.output_patterns.specs.Cut.{IsParted}
use Rattle.output_patterns.specs.Parts.{PatternParts}
use Rattle.output_patterns.specs.Reading.{AnswersWatch, ReadsDocument}
use Rattle.output_patterns.specs.Rules.{end_rule}
use Rattle.output_patterns.specs.Watch.{IsBadDocument, IsBadPattern, IsWatchOf, patterns_in}
use Rattle.output_patterns.specs.declared.fault.PatternFault.{PatternFault}
use Rattle.output_patterns.specs.declared.fault.PatternFault.TheVariants as faults
use Rattle.output_patterns.specs.declared.fault.PatternKind.{PatternKind}
use Rattle.document_reader.proofs.Parting.{same_document}
use Rattle.output_patterns.proofs.Parting.{one_part, part_short}
use Rattle.base.proofs.Results.{ok-not-err, one-err-pair}

the_ok : {A E : Type 0} (r : Result A E) (x y : A) → r ≡ Ok x → r ≡ Ok y → x ≡ y
the_ok r x y p q = cc

same_version : (d d' : List ℕ) (n n' : NetParts) → IsNetOf d n → IsNetOf d' n' → document_of d ≡ document_of d' → n.version ≡ n'.version
same_version d d' n n' h k e =
    let s : h.state ≡ k.state = the_ok (document_of d) h.state k.state h.read (e ∙ k.read) in
    h.holds.version ∙ ap (λ z. version_number z.version) s ∙ sym k.holds.version

same_clients : (d d' : List ℕ) (n n' : NetParts) → IsNetOf d n → IsNetOf d' n' → document_of d ≡ document_of d' → n.clients ≡ n'.clients
same_clients d d' n n' h k e =
    let s : h.state ≡ k.state = the_ok (document_of d) h.state k.state h.read (e ∙ k.read) in
    h.holds.clients ∙ ap (λ z. map client_of z.clients) s ∙ sym k.holds.clients

-- two partings of one input
module _ (bytes : List ℕ) (few : length bytes ≤ 4194304) (d d' : List ℕ) (l l' : List (List ℕ)) (p : IsParted bytes d l) (p' : IsParted bytes d' l') where
  one_document : document_of d ≡ document_of d'
  one_document = same_document d d' (omega (arith, few, part_short bytes d l p)) (omega (arith, few, part_short bytes d' l' p')) (one_part bytes d d' l l' p p').0

  one_read : (n n' : NetParts) → IsNetOf d n → IsNetOf d' n' → patterns_in n d l ≡ patterns_in n' d' l'
  one_read n n' h k =
      let t = one_part bytes d d' l l' p p' in
      let v : n.version ≡ n'.version = same_version d d' n n' h k one_document in
      let c : n.clients ≡ n'.clients = same_clients d d' n n' h k one_document in
      let f : first_number d ≡ first_number d' = ap (λ z. length z + 2) t.0 in
      rw (v, c, f, t.1) refl

  refused_once : (n : NetParts) (line : ℕ) (kind : Fault) → IsNetOf d n → IsBadAt d' line kind → ⊥
  refused_once n line kind h b = ok-not-err (document_of d) h.state (line, kind) h.read (one_document ∙ b)

  same_place : (line line' : ℕ) (kind kind' : Fault) → IsBadAt d line kind → IsBadAt d' line' kind' → (line ≡ line') × (kind ≡ kind')
  same_place line line' kind kind' b b' = one-err-pair (document_of d) line line' kind kind' b (one_document ∙ b')

pub watch_refused : (bytes : List ℕ) (net : NetParts) (patterns : List PatternParts) (line : ℕ) (kind : Fault) → length bytes ≤ 4194304 → IsWatchOf bytes net patterns → IsBadDocument bytes line kind → ⊥
watch_refused bytes net patterns line kind few w b = refused_once bytes few w.document b.document w.later b.later w.parted b.parted net line kind w.well_formed b.bad

pub bad_refused : (bytes : List ℕ) (l : ℕ) (k : PatternKind) (line : ℕ) (kind : Fault) → length bytes ≤ 4194304 → IsBadPattern bytes l k → IsBadDocument bytes line kind → ⊥
bad_refused bytes l k line kind few w b = refused_once bytes few w.document b.document w.later b.later w.parted b.parted w.net line kind w.well_formed b.bad

pub watch_bad : (bytes : List ℕ) (net : NetParts) (patterns : List PatternParts) (line : ℕ) (kind : PatternKind) → length bytes ≤ 4194304 → IsWatchOf bytes net patterns → IsBadPattern bytes line kind → ⊥
watch_bad bytes net patterns line kind few w b =
    ok-not-err (patterns_in net w.document w.later) patterns (line, kind) w.read
    (one_read bytes few w.document b.document w.later b.later w.parted b.parted net b.net w.well_formed b.well_formed ∙ b.bad)

pub same_bad : (bytes : List ℕ) (l line : ℕ) (k kind : PatternKind) → length bytes ≤ 4194304 → IsBadPattern bytes l k → IsBadPattern bytes line kind → (l ≡ line) × (k ≡ kind)
same_bad bytes l line k kind few w b =
    one-err-pair (patterns_in w.net w.document w.later) l line k kind w.bad
    (one_read bytes few w.document b.document w.later b.later w.parted b.parted w.net b.net w.well_formed b.well_formed ∙ b.bad)

pub same_refused : (bytes : List ℕ) (l line : ℕ) (k kind : Fault) → length bytes ≤ 4194304 → IsBadDocument bytes l k → IsBadDocument bytes line kind → (l ≡ line) × (k ≡ kind)
same_refused bytes l line k kind few w b = same_place bytes few w.document b.document w.later b.later w.parted b.parted l line k kind w.bad b.bad

module _ {W : Type 0} (n : W → NetParts) (p : W → List PatternParts) (bytes : List ℕ) (few : length bytes ≤ 4194304) where
  pub watch_read : (r : Result W PatternFault) → AnswersWatch n p bytes r → IfOk r (λ w. IsWatchOf bytes (n w) (p w))
  watch_read (Ok w) h = h
  watch_read (Err e) h = tt

  pub given_read : (r : Result W PatternFault) → AnswersWatch n p bytes r → (net : NetParts) (patterns : List PatternParts) → IsWatchOf bytes net patterns → IsOk r ⊎ (r ≡ Err faults.NoMemory)
  given_read (Ok w) h net patterns k = inl refl
  given_read (Err faults.NoMemory) h net patterns k = inr refl
  given_read (Err (faults.Document line kind)) h net patterns k = absurd (watch_refused bytes net patterns line kind few k h)
  given_read (Err (faults.Bad line kind)) h net patterns k = absurd (watch_bad bytes net patterns line kind few k h)

  pub document_read : (r : Result W PatternFault) → AnswersWatch n p bytes r → (line : ℕ) (kind : Fault) → r ≡ Err (faults.Document line kind) → IsBadDocument bytes line kind
  document_read (Ok w) h line kind e = cc
  document_read (Err faults.NoMemory) h line kind e = cc
  document_read (Err (faults.Document l k)) h line kind e =
      let a : l ≡ line = cc in
      let b : k ≡ kind = cc in
      subst (λ z. IsBadDocument bytes z kind) a (subst (λ z. IsBadDocument bytes l z) b h)
  document_read (Err (faults.Bad l k)) h line kind e = cc

  pub bad_read : (r : Result W PatternFault) → AnswersWatch n p bytes r → (line : ℕ) (kind : PatternKind) → r ≡ Err (faults.Bad line kind) → IsBadPattern bytes line kind
  bad_read (Ok w) h line kind e = cc
  bad_read (Err faults.NoMemory) h line kind e = cc
  bad_read (Err (faults.Document l k)) h line kind e = cc
  bad_read (Err (faults.Bad l k)) h line kind e =
      let a : l ≡ line = cc in
      let b : k ≡ kind = cc in
      subst (λ z. IsBadPattern bytes z kind) a (subst (λ z. IsBadPattern bytes l z) b h)

  pub refused_document : (r : Result W PatternFault) → AnswersWatch n p bytes r → (line : ℕ) (kind : Fault) → IsBadDocument bytes line kind
      → (r ≡ Err (faults.Document line kind)) ⊎ (r ≡ Err faults.NoMemory)
  refused_document (Ok w) h line kind b = absurd (watch_refused bytes (n w) (p w) line kind few h b)
  refused_document (Err faults.NoMemory) h line kind b = inr refl
  refused_document (Err (faults.Document l k)) h line kind b = (let t = same_refused bytes l line k kind few h b in inl (rw (t.0, t.1) refl))
  refused_document (Err (faults.Bad l k)) h line kind b = absurd (bad_refused bytes l k line kind few h b)

  pub refused_pattern : (r : Result W PatternFault) → AnswersWatch n p bytes r → (line : ℕ) (kind : PatternKind) → IsBadPattern bytes line kind
      → (r ≡ Err (faults.Bad line kind)) ⊎ (r ≡ Err faults.NoMemory)
  refused_pattern (Ok w) h line kind b = absurd (watch_bad bytes (n w) (p w) line kind few h b)
  refused_pattern (Err faults.NoMemory) h line kind b = inr refl
  refused_pattern (Err (faults.Document l k)) h line kind b = absurd (bad_refused bytes line kind l k few b h)
  refused_pattern (Err (faults.Bad l k)) h line kind b = (let t = same_bad bytes l line k kind few h b in inl (rw (t.0, t.1) refl))

module _ {W : Type 0} (n : W → NetParts) (p : W → List PatternParts) (bytes : List ℕ) where
  -- a document that is refused
  pub refused_first : (d : List ℕ) (l : List (List ℕ)) (e : PatternFault) → IsParted bytes d l → ReadsDocument d (Err e) → AnswersWatch n p bytes (Err e)
  refused_first d l faults.NoMemory a h = tt
  refused_first d l (faults.Bad line kind) a h = absurd h
  refused_first d l (faults.Document line kind) a h = record { document = d; later = l; parted = a; bad = h }

no_patterns : (net : NetParts) (d : List ℕ) → patterns_in net d [] ≡ Ok []
unfolding end_rule
no_patterns net d = refl

-- all of an input is its document
pub all_read : (bytes : List ℕ) (net : NetParts) (patterns : List PatternParts) → IsNoLine (codes "patterns") (lines bytes) → IsNetOf bytes net → patterns ≡ [] → IsWatchOf bytes net patterns
all_read bytes net patterns none w e = record {
  document = bytes;
  later = [];
  parted = inr (none, refl, refl);
  well_formed = w;
  read = no_patterns net bytes ∙ ap Ok (sym e);
}
