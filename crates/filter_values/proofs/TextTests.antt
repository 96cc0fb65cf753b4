-- Proves that the test of a text accepts exactly texts.
use Rattle.std.proofs.Common.{◌≡◌, ℕ, Bool, true, false, refl, arith, List, length}
use Rattle.std.specs.Prelude.{nat_le, ◌&&◌}
use Rattle.std.specs.List.{list_all}
use Rattle.std.specs.Str.{is_utf8}
use Rattle.std.proofs.lemmas.Bool.Decides.{nat_tests}
use Rattle.filter_values.specs.Text.{IsText, is_open_byte, is_text}

pub text_tested : (t : List ℕ) → IsText t → is_text t ≡ true
text_tested t is = let a = is.short in let b = is.utf8 in let c = is.open_bytes in grind (arith, nat_tests)

pub tested_text : (t : List ℕ) → is_text t ≡ true → IsText t
tested_text t e = go (nat_le (length t) 1024) refl (is_utf8 t) refl (list_all is_open_byte t) refl e
  where
    go : (p : Bool) → nat_le (length t) 1024 ≡ p → (q : Bool) → is_utf8 t ≡ q → (r : Bool) → list_all is_open_byte t ≡ r → (p && (q && r)) ≡ true → IsText t
    go true p true q true r e = record { short = grind (arith, nat_tests); utf8 = q; open_bytes = r }
    go true p true q false r e = absurd cc
    go true p false q s r e = absurd cc
    go false p q qe s r e = absurd cc
