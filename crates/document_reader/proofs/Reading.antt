-- Proves that what the reader answers is what the document gives.
use Rattle.std.proofs.Common.{◌≡◌, ◌⊎◌, inl, inr, ℕ, ◌+◌, List, ◌∷◌, refl, ap, Result, Ok, Err}
use Rattle.std.specs.Prelude.{IfOk, IsOk}
use Rattle.net_model.specs.Parts.{NetParts}
use Rattle.document_reader.specs.Net.{IsBadAt, IsNetOf, ReadsNet}
use Rattle.document_reader.specs.Places.{document_of, line_rule, read_from}
use Rattle.document_reader.specs.declared.fault.Fault.{Fault}
use Rattle.document_reader.specs.declared.fault.InputFault.{InputFault}
use Rattle.document_reader.specs.declared.fault.InputFault.TheVariants as inputs
use Rattle.document_reader.specs.declared.state.State.{State}

pub net_read : (bytes : List ℕ) (r : Result NetParts InputFault) → ReadsNet r (document_of bytes) → IfOk r (λ net. IsNetOf bytes net)
net_read bytes (Ok net) h = record { state = h.0; read = h.1; holds = h.2 }
net_read bytes (Err e) h = tt

no_fault : (d : Result State (ℕ × Fault)) (s : State) (x : ℕ × Fault) → d ≡ Ok s → d ≡ Err x → ⊥
no_fault d s x p q = cc

pub given_read : (bytes : List ℕ) (r : Result NetParts InputFault) → ReadsNet r (document_of bytes) → (net : NetParts) → IsNetOf bytes net → IsOk r ⊎ (r ≡ Err inputs.NoMemory)
given_read bytes (Ok x) h net n = inl refl
given_read bytes (Err inputs.NoMemory) h net n = inr refl
given_read bytes (Err (inputs.Bad line kind)) h net n = absurd (no_fault (document_of bytes) n.state (line, kind) n.read h)

pub bad_read : (bytes : List ℕ) (r : Result NetParts InputFault) → ReadsNet r (document_of bytes) → (line : ℕ) (kind : Fault) → r ≡ Err (inputs.Bad line kind) → IsBadAt bytes line kind
bad_read bytes (Ok net) h line kind e = cc
bad_read bytes (Err inputs.NoMemory) h line kind e = cc
bad_read bytes (Err (inputs.Bad l k)) h line kind e = cc

pub refused_read : (bytes : List ℕ) (r : Result NetParts InputFault) → ReadsNet r (document_of bytes) → (line : ℕ) (kind : Fault) → IsBadAt bytes line kind → (r ≡ Err (inputs.Bad line kind)) ⊎ (r ≡ Err inputs.NoMemory)
refused_read bytes (Ok net) h line kind e = absurd (both (document_of bytes) h.0 line kind h.1 e)
  where
    both : (d : Result State (ℕ × Fault)) (s : State) (line : ℕ) (kind : Fault) → d ≡ Ok s → d ≡ Err (line, kind) → ⊥
    both d s line kind p q = cc
refused_read bytes (Err inputs.NoMemory) h line kind e = inr refl
refused_read bytes (Err (inputs.Bad l k)) h line kind e = inl (same (document_of bytes) l line k kind h e)
  where
    pair : (d : Result State (ℕ × Fault)) (x y : ℕ × Fault) → d ≡ Err x → d ≡ Err y → x ≡ y
    pair d x y p q = cc

    same : {A : Type 0} (d : Result State (ℕ × Fault)) (l line : ℕ) (k kind : Fault) → d ≡ Err (l, k) → d ≡ Err (line, kind) → (let r : Result A InputFault = Err (inputs.Bad l k) in r) ≡ Err (inputs.Bad line kind)
    same d l line k kind p q =
        let e : (l, k) ≡ (line, kind) = pair d (l, k) (line, kind) p q in
        ap (λ (x : ℕ × Fault). Err (inputs.Bad x.0 x.1)) e

-- a line that is accepted leaves the rest to read
pub next_read : (n : ℕ) (s t : State) (ls rest : List (List ℕ)) (l : List ℕ) → ls ≡ l ∷ rest → line_rule s n l ≡ Ok t → read_from n s ls ≡ read_from (n + 1) t rest
next_read n s t ls rest l e f = rw (e, f) refl
