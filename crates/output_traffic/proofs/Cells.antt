-- Cells of a table of counts: one more at a place.
use Rattle.std.proofs.Common.{◌≡◌, ℕ, ◌+◌, ◌*◌, ◌^◌, ◌≤◌, ◌<◌, List, length, get_or, set, sym, ap, ◌∙◌, arith, get_or-set_other}
use Rattle.std.proofs.lemmas.Grind.{get_or-set_at}
use Rattle.base.specs.Numbers.{count}
use Rattle.base.proofs.Numbers.{Same, Is, Not, compare}
use Rattle.output_traffic.specs.Counts.{count_at, is_direction}

pub raised : (cells : List ℕ) (a b from to : ℕ) → length cells ≡ 4225 → a ≤ 64 → b ≤ 64 → from ≤ 64 → to ≤ 64
    → count_at (set cells (a * 65 + b) (get_or cells (a * 65 + b) 0 + 1)) from to ≡ count_at cells from to + count (is_direction a b from to)
raised cells a b from to long la lb lf lt = go (compare a from) (compare b to)
  where
    other : (from * 65 + to ≡ a * 65 + b → ⊥) → get_or (set cells (a * 65 + b) (get_or cells (a * 65 + b) 0 + 1)) (from * 65 + to) 0 ≡ get_or cells (from * 65 + to) 0
    other n = get_or-set_other cells (a * 65 + b) (from * 65 + to) (get_or cells (a * 65 + b) 0 + 1) 0 n

    go : Same a from → Same b to → count_at (set cells (a * 65 + b) (get_or cells (a * 65 + b) 0 + 1)) from to ≡ count_at cells from to + count (is_direction a b from to)
    go (Is p v) (Is q w) =
        let place : from * 65 + to ≡ a * 65 + b = omega (arith, p, q) in
        let inside : a * 65 + b < length cells = omega (arith, long, la, lb) in
        let there = get_or-set_at cells (a * 65 + b) (from * 65 + to) (get_or cells (a * 65 + b) 0 + 1) 0 place inside in
        rw (v, w) (there ∙ ap (λ z. get_or cells z 0 + 1) (sym place))
    go (Is p v) (Not n w) = rw (v, w) (omega (arith, other (λ e. n (omega (arith, e, la, lb, lf, lt)))))
    go (Not n v) q = rw v (omega (arith, other (λ e. n (omega (arith, e, la, lb, lf, lt)))))

-- a cell that counts no further stays as it is
pub filled : (cells : List ℕ) (a b from to : ℕ) → length cells ≡ 4225 → a ≤ 64 → b ≤ 64 → from ≤ 64 → to ≤ 64
    → 2 ^ 32 ≤ get_or cells (a * 65 + b) 0 + 1 → count_at cells from to + count (is_direction a b from to) < 2 ^ 32
    → count_at (set cells (a * 65 + b) (get_or cells (a * 65 + b) 0)) from to ≡ count_at cells from to + count (is_direction a b from to)
filled cells a b from to long la lb lf lt full small = go (compare a from) (compare b to) small
  where
    other : (from * 65 + to ≡ a * 65 + b → ⊥) → get_or (set cells (a * 65 + b) (get_or cells (a * 65 + b) 0)) (from * 65 + to) 0 ≡ get_or cells (from * 65 + to) 0
    other n = get_or-set_other cells (a * 65 + b) (from * 65 + to) (get_or cells (a * 65 + b) 0) 0 n

    Counted : Type 0
    Counted = count_at cells from to + count (is_direction a b from to) < 2 ^ 32
        → count_at (set cells (a * 65 + b) (get_or cells (a * 65 + b) 0)) from to ≡ count_at cells from to + count (is_direction a b from to)

    go : Same a from → Same b to → Counted
    go (Is p v) (Is q w) =
        let place : from * 65 + to ≡ a * 65 + b = omega (arith, p, q) in
        let there = ap (λ z. get_or cells z 0) place in
        rw (v, w) (λ less. absurd (omega (arith, less, there, full)))
    go (Is p v) (Not n w) = rw (v, w) (λ less. omega (arith, other (λ e. n (omega (arith, e, la, lb, lf, lt)))))
    go (Not n v) q = rw v (λ less. omega (arith, other (λ e. n (omega (arith, e, la, lb, lf, lt)))))
