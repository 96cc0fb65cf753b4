use Rattle.std.proofs.Common.{◌≡◌, ℕ, max, bit_or, bit_xor, ap, ◌∙◌, sym}
use Rattle.std.specs.Int.{bit_at}
use Rattle.std.proofs.lemmas.Nat.Bits.{bit_at-lt, bit_at_or, bit_at_xor}
use Rattle.match_cells.specs.Counts.{count_at}
use Rattle.match_cells.proofs.Adding.{none-differs}
use Rattle.match_cells.proofs.counts.Counts.differ.Goals as goal

or-five : (u v w x y q : ℕ) → bit_at (bit_or (bit_or (bit_or (bit_or u v) w) x) y) q ≡ max (max (max (max (bit_at u q) (bit_at v q)) (bit_at w q)) (bit_at x q)) (bit_at y q)
or-five u v w x y q =
    bit_at_or (bit_or (bit_or (bit_or u v) w) x) y q
    ∙ ap (λ z. max z (bit_at y q)) (bit_at_or (bit_or (bit_or u v) w) x q ∙ ap (λ z. max z (bit_at x q)) (bit_at_or (bit_or u v) w q ∙ ap (λ z. max z (bit_at w q)) (bit_at_or u v q)))

pub returns : goal.returns
unfolding count_at
returns c q =
    let a = c.args.self in
    let b = c.args.other in
    let n =
    none-differs _ _ _ _ _ _ _ _ _ _ _ _ _ _ _
    (bit_at-lt a.ones q) (bit_at-lt a.twos q) (bit_at-lt a.fours q) (bit_at-lt a.eights q) (bit_at-lt a.sixteens q)
    (bit_at-lt b.ones q) (bit_at-lt b.twos q) (bit_at-lt b.fours q) (bit_at-lt b.eights q) (bit_at-lt b.sixteens q)
    (bit_at_xor a.ones b.ones q) (bit_at_xor a.twos b.twos q) (bit_at_xor a.fours b.fours q) (bit_at_xor a.eights b.eights q) (bit_at_xor a.sixteens b.sixteens q) in
    let e = or-five (bit_xor a.ones b.ones) (bit_xor a.twos b.twos) (bit_xor a.fours b.fours) (bit_xor a.eights b.eights) (bit_xor a.sixteens b.sixteens) q in
    (λ z. n.0 (sym e ∙ z), λ z. e ∙ n.1 z)
