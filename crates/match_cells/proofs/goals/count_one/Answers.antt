use Rattle.std.proofs.Common.{◌≡◌, ◌≢◌, ◌<◌, ◌*◌, ◌/◌, ◌%◌, ◌^◌, ◌∙◌, ℕ, get_or, set, inl, inr, ap, arith}
use Rattle.std.specs.Int.{bit_at}
use Rattle.std.proofs.lemmas.Bool.{cases_eq}
use Rattle.std.proofs.lemmas.List.{get_or-set_same, get_or-set_other}
use Rattle.std.proofs.lemmas.Nat.Bits.{bit_at-pow_other}
use Rattle.std.proofs.Math.Nat.{mod-eq_of_lt}
use Rattle.std.proofs.Math.Pow.{pow-lt}
use Rattle.match_cells.specs.declared.counts.Counts.{Counts}
use Rattle.match_cells.specs.Counts.{count_at}
use Rattle.match_cells.proofs.Adding.{count-small}
use Rattle.match_cells.proofs.goals.count_one.Goals as goal

one-bit : (q : ℕ) → q < 64 → 1 * 2 ^ q % 2 ^ 64 ≡ 2 ^ q
one-bit q l = ap (λ z. z % 2 ^ 64) (one-times (2 ^ q)) ∙ mod-eq_of_lt (pow-lt l)
  where
    one-times : (n : ℕ) → 1 * n ≡ n
    one-times n = omega arith

pub returns-clause-others : goal.returns-clause-others
returns-clause-others c i n =
    let z : Counts = record { ones = 0; twos = 0; fours = 0; eights = 0; sixteens = 0 } in
    let k = c.args.k in
    let counts = c.args.counts.now in
    elim (cases_eq (i / 64) (k / 64)) [
      | inl e ↦
          let m : i % 64 ≢ k % 64 = λ q. n (omega arith) in
          let x : bit_at (1 * 2 ^ (k % 64) % 2 ^ 64) (i % 64) ≡ 0 = ap (λ b. bit_at b (i % 64)) (one-bit (k % 64) (omega arith)) ∙ bit_at-pow_other (k % 64) (i % 64) m in
          let y : count_at (get_or (set counts (k / 64) c.with.result) (i / 64) z) (i % 64) ≡ count_at c.with.result (i % 64) = ap (λ j. count_at (get_or (set counts (k / 64) c.with.result) j z) (i % 64)) e ∙ ap (λ (w : Counts). count_at w (i % 64)) (get_or-set_same counts (k / 64) c.with.result z (omega arith)) in
          let o : count_at (get_or counts (i / 64) z) (i % 64) ≡ count_at (get_or counts (k / 64) z) (i % 64) = ap (λ j. count_at (get_or counts j z) (i % 64)) e in
          omega (arith, y, o, c.with.ensures (i % 64), x, count-small (get_or counts (k / 64) z) (i % 64))
      | inr d ↦ ap (λ (w : Counts). count_at w (i % 64)) (get_or-set_other counts (k / 64) (i / 64) c.with.result z d)
    ]
