-- Proves in which row of an index a pair is found.
use Rattle.std.proofs.Common.{◌≡◌, ◌∙◌, ap, sym, ℕ, List}
use Rattle.std.proofs.Common.{subst}
use Rattle.filter_values.specs.declared.value.Kind.{Kind}
use Rattle.filter_values.specs.declared.value.Kind.TheVariants as kinds
use Rattle.filter_constraints.specs.declared.op.Op.{Op}
use Rattle.filter_constraints.specs.Constraint.{ConstraintParts, IsConstraint, IsTest}
use Rattle.match_index.specs.Pairs.{test_of, Test}
use Rattle.match_index.specs.Keys.{key_of, test_at}
use Rattle.match_index.proofs.Codes.{encode}

pub the-test : (c : ConstraintParts) (op : Op) (k : List ℕ) → c.kind ≡ kinds.Str → IsConstraint c → op ≡ c.op → k ≡ key_of c.operand → test_at op k ≡ test_of c
the-test c op k n w b e = ap {B = Test} (λ x. test_at x k) b ∙ ap (test_at c.op) e ∙ encode c.op c.operand (subst (λ (kind : Kind). IsTest kind c.op c.operand) n w) ∙ ap {B = Test} (λ (kind : Kind). record { kind = kind; op = c.op; operand = c.operand }) (sym n)
