-- Texts of letters from `a` (97) to `f` (102), and attributes named by a letter and a number.
use Rattle.std.proofs.Common.{◌≡◌, ℕ, zero, suc, ◌≤◌, true, refl, ap, arith, List, [], ◌∷◌, ◌++◌, length}
use Rattle.std.specs.List.{list_all, flat_map}
use Rattle.std.specs.Str.{IsAscii}
use Rattle.std.proofs.lemmas.Str.{IsUtf8-from_ascii, is_utf8-from_IsUtf8}
use Rattle.std.proofs.lemmas.Bool.Decides.{nat_tests}
use Rattle.base.proofs.Numbers.{neq-eqb}
use Rattle.filter_values.specs.Text.{IsText, is_open_byte}
use Rattle.filter_text.specs.MessageText.{Each}
use Rattle.filter_text.specs.ValueText.{escape, string_text}
use Rattle.document_generate.specs.Draws.{letter}
use Rattle.document_generated.proofs.EdgeLines.{draw-below}

-- a letter from `a` to `f`
abbrev pub IsDrawnLetter : ℕ → Type 0
IsDrawnLetter b = (97 ≤ b) × (b ≤ 102)

pub letter-is : (s : ℕ) → IsDrawnLetter (letter s)
unfolding letter
letter-is s = (omega arith, omega (arith, draw-below s 6 (omega arith)))

letters-ascii : (t : List ℕ) → Each IsDrawnLetter t → IsAscii t
letters-ascii [] h i = omega arith
letters-ascii (b ∷ t) h zero = omega (arith, h.0.1)
letters-ascii (b ∷ t) h (suc i) = letters-ascii t h.1 i

letters-open : (t : List ℕ) → Each IsDrawnLetter t → list_all is_open_byte t ≡ true
letters-open [] h = refl
letters-open (b ∷ t) h = rw (here b h.0.0 h.0.1, letters-open t h.1) refl
  where
    here : (b : ℕ) → 97 ≤ b → b ≤ 102 → is_open_byte b ≡ true
    here b l k = grind (arith, nat_tests)

pub letters-text : (t : List ℕ) → length t ≤ 1024 → Each IsDrawnLetter t → IsText t
letters-text t l h = record { short = l; utf8 = is_utf8-from_IsUtf8 t (IsUtf8-from_ascii t (letters-ascii t h)); open_bytes = letters-open t h }

-- letters are written as themselves
pub letters-plain : (t : List ℕ) → Each IsDrawnLetter t → string_text t ≡ 34 ∷ t ++ 34 ∷ []
letters-plain t h = ap (λ z. 34 ∷ z ++ 34 ∷ []) (plain t h)
  where
    one : (b : ℕ) → 97 ≤ b → escape b ≡ b ∷ []
    one b l = rw (neq-eqb b 34 (λ e. omega (arith, e, l)), neq-eqb b 92 (λ e. omega (arith, e, l)), neq-eqb b 10 (λ e. omega (arith, e, l)), neq-eqb b 9 (λ e. omega (arith, e, l))) refl

    plain : (t : List ℕ) → Each IsDrawnLetter t → flat_map escape t ≡ t
    plain [] h = refl
    plain (b ∷ t) h = rw (one b h.0.0, plain t h.1) refl
