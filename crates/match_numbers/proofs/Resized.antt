-- A list of words that is cut or filled up with nought has the same bits.
use Rattle.std.proofs.Common.{◌≡◌, ◌∙◌, ℕ, ◌*◌, ◌/◌, ◌%◌, ◌<◌, ◌≤◌, inl, inr, List, length, get_or, sym, ap, arith}
use Rattle.std.specs.Int.{bit_at}
use Rattle.std.proofs.lemmas.Bool.{cases_lt}
use Rattle.std.proofs.lemmas.List.{get_or_past}
use Rattle.base_bits.specs.Words.{bit}

pub bit-resized : (mid old new : List ℕ) (long n k : ℕ) → mid ≡ old → long ≡ length old → k < 64 * n → ((j d : ℕ) → j < n → j < long → get_or new j d ≡ get_or mid j d) → ((j d : ℕ) → long ≤ j → j < n → get_or new j d ≡ 0) → bit new k ≡ bit old k
unfolding bit
bit-resized mid old new long n k e m l same zero = elim (cases_lt (k / 64) (length old)) [
  | inl b ↦ ap (λ w. bit_at w (k % 64)) (same (k / 64) 0 (omega (arith, l)) (omega (arith, m, b)) ∙ ap (λ (xs : List ℕ). get_or xs (k / 64) 0) e)
  | inr b ↦ ap (λ w. bit_at w (k % 64)) (zero (k / 64) 0 (omega (arith, m, b)) (omega (arith, l)) ∙ sym (get_or_past old (k / 64) 0 b))
]
