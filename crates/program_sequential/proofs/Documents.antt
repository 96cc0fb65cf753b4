-- What a document says, it says once.
use Rattle.std.proofs.Common.{◌≡◌, ℕ, List, map, Result, Ok, Err, sym, ap, ◌∙◌}
use Rattle.net_model.specs.Parts.{NetParts}
use Rattle.document_reader.specs.declared.fault.Fault.{Fault}
use Rattle.document_reader.specs.declared.state.State.{State}
use Rattle.document_reader.specs.Net.{IsNetOf, IsBadAt, client_of}

unok : (s t : State) → ◌≡◌ {A = Result State (ℕ × Fault)} (Ok s) (Ok t) → s ≡ t
unok s t e = cc

-- two nets of one document have the same clients
pub same-clients : (input : List ℕ) (a b : NetParts) → IsNetOf input a → IsNetOf input b → a.clients ≡ b.clients
same-clients input a b p q =
    p.holds.clients ∙ ap (λ (s : State). map client_of s.clients) (unok p.state q.state (sym p.read ∙ q.read)) ∙ sym q.holds.clients

-- and the same semantics
pub same-semantics : (input : List ℕ) (a b : NetParts) → IsNetOf input a → IsNetOf input b → a.semantics ≡ b.semantics
same-semantics input a b p q =
    p.holds.semantics ∙ ap (λ (s : State). s.semantics) (unok p.state q.state (sym p.read ∙ q.read)) ∙ sym q.holds.semantics

-- a document with a net has no line at fault
pub net-or-bad : (input : List ℕ) (net : NetParts) (line : ℕ) (kind : Fault) → IsNetOf input net → IsBadAt input line kind → ⊥
net-or-bad input net line kind of bad = go (sym of.read ∙ bad)
  where
    go : ◌≡◌ {A = Result State (ℕ × Fault)} (Ok of.state) (Err (line, kind)) → ⊥
    go e = absurd cc

pub same-bad : (input : List ℕ) (l line : ℕ) (k kind : Fault) → IsBadAt input l k → IsBadAt input line kind → (l ≡ line) × (k ≡ kind)
same-bad input l line k kind a b = go (sym a ∙ b)
  where
    pair : ◌≡◌ {A = Result State (ℕ × Fault)} (Err (l, k)) (Err (line, kind)) → ◌≡◌ {A = ℕ × Fault} (l, k) (line, kind)
    pair e = cc

    go : ◌≡◌ {A = Result State (ℕ × Fault)} (Err (l, k)) (Err (line, kind)) → (l ≡ line) × (k ≡ kind)
    go e = (ap (λ (z : ℕ × Fault). z.0) (pair e), ap (λ (z : ℕ × Fault). z.1) (pair e))
