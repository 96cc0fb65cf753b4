-- Sums of bits, and what a number of five bits says.
use Rattle.std.proofs.Common.{◌≡◌, ◌↔◌, ℕ, ◌+◌, ◌*◌, ◌%◌, ◌<◌, min, max, bit_and, bit_or, bit_xor, arith}
use Rattle.std.specs.Int.{bit_at}
use Rattle.match_cells.specs.declared.counts.Counts.{Counts}
use Rattle.match_cells.specs.Counts.{count_at}
use Rattle.std.proofs.lemmas.Nat.Bits.{bit_at-lt, bit_at-zero, bit_at_or, bit_at_and, bit_at_xor}

pub half-bits : (a b q : ℕ) → bit_at (bit_xor a b) q + 2 * bit_at (bit_and a b) q ≡ bit_at a q + bit_at b q
half-bits a b q = omega (arith, bit_at_xor a b q, bit_at_and a b q, bit_at-lt a q, bit_at-lt b q)

sum-of : (x y z e s m n c : ℕ) → x < 2 → y < 2 → z < 2 → e ≡ (x + y) % 2 → s ≡ (e + z) % 2 → m ≡ min x y → n ≡ min e z → c ≡ max m n → s + 2 * c ≡ x + y + z
sum-of x y z e s m n c a b d i j k l o = omega arith

pub full-bits : (a b c q : ℕ) → bit_at (bit_xor (bit_xor a b) c) q + 2 * bit_at (bit_or (bit_and a b) (bit_and (bit_xor a b) c)) q ≡ bit_at a q + bit_at b q + bit_at c q
full-bits a b c q =
    sum-of (bit_at a q) (bit_at b q) (bit_at c q) (bit_at (bit_xor a b) q) (bit_at (bit_xor (bit_xor a b) c) q) (bit_at (bit_and a b) q) (bit_at (bit_and (bit_xor a b) c) q) (bit_at (bit_or (bit_and a b) (bit_and (bit_xor a b) c)) q)
    (bit_at-lt a q) (bit_at-lt b q) (bit_at-lt c q) (bit_at_xor a b q) (bit_at_xor (bit_xor a b) c q) (bit_at_and a b q) (bit_at_and (bit_xor a b) c q)
    (bit_at_or (bit_and a b) (bit_and (bit_xor a b) c) q)

-- the carries of one more, from the lowest bit on
pub one-more : (a b c d e w p q r s t u v x y z : ℕ) → a < 2 → b < 2 → c < 2 → d < 2 → e < 2 → p < 2 → q < 2 → r < 2 → s < 2 → t < 2 → p + 2 * u ≡ a + w → q + 2 * v ≡ b + u → r + 2 * x ≡ c + v → s + 2 * y ≡ d + x → t + 2 * z ≡ e + y
    → p + 2 * q + 4 * r + 8 * s + 16 * t ≡ (a + 2 * b + 4 * c + 8 * d + 16 * e + w) % 32
one-more a b c d e w p q r s t u v x y z la lb lc ld le lp lq lr ls lt h i j k l = omega arith

-- those of up to four more
pub four-more : (a b c d e w1 w2 w3 w4 m p q r s t u u2 v x y z : ℕ) → p < 2 → q < 2 → r < 2 → s < 2 → t < 2 → m + 2 * u ≡ a + w1 + w2 → p + 2 * u2 ≡ m + w3 + w4 → q + 2 * v ≡ b + u + u2 → r + 2 * x ≡ c + v → s + 2 * y ≡ d + x → t + 2 * z ≡ e + y
    → p + 2 * q + 4 * r + 8 * s + 16 * t ≡ (a + 2 * b + 4 * c + 8 * d + 16 * e + (w1 + w2 + w3 + w4)) % 32
four-more a b c d e w1 w2 w3 w4 m p q r s t u u2 v x y z lp lq lr ls lt h g i j k l = omega arith

-- where one of five bits differs
pub none-differs : (a b c d e p q r s t u v w x y : ℕ) → a < 2 → b < 2 → c < 2 → d < 2 → e < 2 → p < 2 → q < 2 → r < 2 → s < 2 → t < 2
    → u ≡ (a + p) % 2 → v ≡ (b + q) % 2 → w ≡ (c + r) % 2 → x ≡ (d + s) % 2 → y ≡ (e + t) % 2
    → max (max (max (max u v) w) x) y ≡ 0 ↔ a + 2 * b + 4 * c + 8 * d + 16 * e ≡ p + 2 * q + 4 * r + 8 * s + 16 * t
none-differs a b c d e p q r s t u v w x y la lb lc ld le lp lq lr ls lt hu hv hw hx hy = (λ z. omega arith, λ z. omega arith)

pub count-small : (c : Counts) (q : ℕ) → count_at c q < 32
unfolding count_at
count-small c q = omega (arith, bit_at-lt c.ones q, bit_at-lt c.twos q, bit_at-lt c.fours q, bit_at-lt c.eights q, bit_at-lt c.sixteens q)

pub count-zero : (q : ℕ) → count_at (record { ones = 0; twos = 0; fours = 0; eights = 0; sixteens = 0 }) q ≡ 0
unfolding count_at
count-zero q = omega (arith, bit_at-zero q)
