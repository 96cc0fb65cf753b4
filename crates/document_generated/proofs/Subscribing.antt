-- A generated subscription is one or two constraints, written by their canonical text.
use Rattle.std.proofs.Common.{◌≡◌, ℕ, ◌<◌, ◌≤◌, ◌==◌, Bool, true, false, refl, sym, ap, ◌∙◌, arith, List, [], ◌∷◌, ◌++◌, length, append_assoc, append-nil}
use Rattle.std.specs.Prelude.{Some, None, pos, codes}
use Rattle.std.specs.declared.option.Option.{Option}
use Rattle.std.specs.Fmt.{decimal}
use Rattle.base.specs.Text.{labelled}
use Rattle.filter_values.specs.Name.{IsName, is_name}
use Rattle.filter_values.proofs.NameTests.{tested_name}
use Rattle.filter_values.specs.declared.value.Value.{Value}
use Rattle.filter_values.specs.declared.value.Value.TheVariants as values
use Rattle.filter_values.specs.declared.value.Kind.TheVariants as kinds
use Rattle.filter_constraints.specs.declared.op.Op.{Op}
use Rattle.filter_constraints.specs.declared.op.Op.TheVariants as ops
use Rattle.filter_constraints.specs.Constraint.{ConstraintParts, IsTest}
use Rattle.filter_types.specs.Canonical.{AreConstraints}
use Rattle.filter_text.specs.FilterText.{test_text as written, constraint_text, constraints_text, AreNamed}
use Rattle.filter_text.specs.MessageText.{Each}
use Rattle.document_format.proofs.LineLaws.{ended}
use Rattle.document_format.proofs.PartLaws.{IsConstraintIn}
use Rattle.document_generate.specs.Lines.{test_text, prefix_text, subscribe_text, subscribe_line}
use Rattle.document_generated.proofs.Leading.{number-short, append-short}
use Rattle.document_generated.proofs.ClientLines.{numbered-name}
use Rattle.document_generated.proofs.Letters.{IsDrawnLetter, letter-is, letters-text, letters-plain}
use Rattle.document_generated.proofs.EdgeLines.{draw-below}
use Rattle.document_generate.specs.Draws.{draw, letter, after}

-- what the number of an operator and an operand make
record IsTested (operator operand : ℕ) : Type 0 where
  pub op : Op
  pub value : Option Value
  pub test : IsTest kinds.Int op value
  pub text : test_text operator operand ≡ 32 ∷ codes "int" ++ 32 ∷ written op value
  pub short : length (test_text operator operand) ≤ 10

is-tested : (operator operand : ℕ) → operand < 100 → IsTested operator operand
unfolding test_text
is-tested operator operand l = go (operator == 0) refl (operator == 1) refl (operator == 2) refl
  where
    go : (p : Bool) → (operator == 0) ≡ p → (q : Bool) → (operator == 1) ≡ q → (r : Bool) → (operator == 2) ≡ r → IsTested operator operand
    go true p q qe r re = record { op = ops.Ge; value = Some (values.Int (pos operand)); test = (tt, omega (arith, l)); text = rw p refl; short = rw p (omega (arith, number-short operand l)) }
    go false p true qe r re = record { op = ops.Lt; value = Some (values.Int (pos operand)); test = (tt, omega (arith, l)); text = rw (p, qe) refl; short = rw (p, qe) (omega (arith, number-short operand l)) }
    go false p false qe true re = record { op = ops.Eq; value = Some (values.Int (pos operand)); test = (tt, omega (arith, l)); text = rw (p, qe, re) refl; short = rw (p, qe, re) (omega (arith, number-short operand l)) }
    go false p false qe false re = record { op = ops.Any; value = None; test = refl; text = rw (p, qe, re) refl; short = rw (p, qe, re) (omega arith) }

-- a line of a subscription, by its constraints
pub record IsSubscribing (text : List ℕ) : Type 0 where
  pub first : ConstraintParts
  pub others : List ConstraintParts
  pub each : Each (IsConstraintIn 1) (first ∷ others)
  pub few : length others < 9
  pub named : AreNamed (first ∷ others)
  pub whole : AreConstraints (first ∷ others)
  pub same : ended (codes "subscribe" ++ 32 ∷ constraints_text (first ∷ others)) ≡ text
  pub short : length text ≤ 100

-- the second constraint
abbrev beginning : ℕ → ConstraintParts
beginning b = record { name = codes "t"; kind = kinds.Str; op = ops.Prefix; operand = Some (values.Str (b ∷ [])) }

prefix-short : (wanted : Bool) (b : ℕ) → length (prefix_text wanted b) ≤ 18
unfolding prefix_text
prefix-short true b = omega arith
prefix-short false b = omega arith

text-short : (attribute operator operand : ℕ) (wanted : Bool) (b : ℕ) → attribute < 8 → operand < 100 → length (subscribe_text attribute operator operand wanted b) ≤ 42
unfolding subscribe_text labelled
text-short attribute operator operand wanted b l k =
    let one = append-short (codes "subscribe a") (decimal attribute) 11 2 (omega arith) (number-short attribute (omega (arith, l))) in
    let two = append-short (codes "subscribe a" ++ decimal attribute) (test_text operator operand) 13 10 one (is-tested operator operand k).short in
    let three = append-short (codes "subscribe a" ++ decimal attribute ++ test_text operator operand) (prefix_text wanted b) 23 18 two (prefix-short wanted b) in
    append-short (codes "subscribe a" ++ decimal attribute ++ test_text operator operand ++ prefix_text wanted b) (codes "\n") 41 1 three (omega arith)

-- the texts, joined piece by piece
one-joined : (a t : List ℕ) → ended (codes "subscribe" ++ 32 ∷ ((97 ∷ a) ++ 32 ∷ (codes "int" ++ 32 ∷ t) ++ [])) ≡ codes "subscribe a" ++ a ++ (32 ∷ codes "int" ++ 32 ∷ t) ++ [] ++ codes "\n"
one-joined a t = simp append_assoc

two-joined : (a t p : List ℕ) → ended (codes "subscribe" ++ 32 ∷ ((97 ∷ a) ++ 32 ∷ (codes "int" ++ 32 ∷ t) ++ (p ++ []))) ≡ codes "subscribe a" ++ a ++ (32 ∷ codes "int" ++ 32 ∷ t) ++ p ++ codes "\n"
two-joined a t p = ap (λ z. codes "subscribe a" ++ a ++ (32 ∷ codes "int" ++ 32 ∷ t) ++ z ++ codes "\n") (append-nil p)

prefix-same : (b : ℕ) → IsDrawnLetter b → codes "; " ++ constraint_text (beginning b) ≡ prefix_text true b
unfolding constraint_text prefix_text
prefix-same b is = ap (λ z. codes "; t str prefix " ++ z) (letters-plain (b ∷ []) (is, tt))

subscribing : (attribute operator operand : ℕ) (wanted : Bool) (b : ℕ) → attribute < 8 → operand < 100 → IsDrawnLetter b → IsSubscribing (subscribe_text attribute operator operand wanted b)
unfolding subscribe_text labelled constraint_text constraints_text prefix_text is_name
subscribing attribute operator operand wanted b l k is = go wanted
  where
    name : IsName (97 ∷ decimal attribute)
    name = numbered-name 97 attribute refl (omega (arith, l))

    name-t : IsName (codes "t")
    name-t = tested_name (codes "t") refl

    test-b : IsTest kinds.Str ops.Prefix (Some (values.Str (b ∷ [])))
    test-b = (omega arith, letters-text (b ∷ []) (omega arith) (is, tt))

    t : IsTested operator operand
    t = is-tested operator operand k

    c : ConstraintParts
    c = record { name = 97 ∷ decimal attribute; kind = kinds.Int; op = t.op; operand = t.value }

    go : (wanted : Bool) → IsSubscribing (subscribe_text attribute operator operand wanted b)
    go false = record {
      first = c;
      others = [];
      each = ((name, t.test, refl), tt);
      few = omega arith;
      named = (name, tt);
      whole = (t.test, tt);
      same = rw t.text (one-joined (decimal attribute) (written t.op t.value));
      short = omega (arith, text-short attribute operator operand false b l k);
    }
    go true = record {
      first = c;
      others = beginning b ∷ [];
      each = ((name, t.test, refl), ((name-t, test-b, refl), tt));
      few = omega arith;
      named = (name, (name-t, tt));
      whole = (t.test, (test-b, tt));
      same =
          two-joined (decimal attribute) (written t.op t.value) (codes "; " ++ constraint_text (beginning b))
          ∙ ap (λ z. codes "subscribe a" ++ decimal attribute ++ z ++ (codes "; " ++ constraint_text (beginning b)) ++ codes "\n") (sym t.text)
          ∙ ap (λ z. codes "subscribe a" ++ decimal attribute ++ test_text operator operand ++ z ++ codes "\n") (prefix-same b is);
      short = omega (arith, text-short attribute operator operand true b l k);
    }

pub drawn-subscribing : (s : ℕ) → IsSubscribing (subscribe_line s)
unfolding subscribe_line
drawn-subscribing s = subscribing (draw s 8) (draw (after 1 s) 4) (draw (after 2 s) 100) (draw (after 3 s) 2 == 1) (letter (after 4 s))
    (draw-below s 8 (omega arith)) (draw-below (after 2 s) 100 (omega arith)) (letter-is (after 4 s))
