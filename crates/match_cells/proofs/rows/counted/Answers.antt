use Rattle.std.proofs.Common.{◌≡◌, ◌+◌, ◌/◌, ◌%◌, ◌∙◌, sym, arith, get_or}
use Rattle.std.specs.Int.{bit_at}
use Rattle.std.specs.List.{sum_by}
use Rattle.base_bits.specs.Words.{bit}
use Rattle.match_cells.specs.Counts.{count_at}
use Rattle.match_cells.proofs.Written.{say-more}
use Rattle.match_cells.proofs.rows.counted.Goals as goal

pub loop-i-preserved : goal.loop-i-preserved
loop-i-preserved c =
    say-more
    (λ j q. (count_at (get_or c.args.first.now j (record { ones = 0; twos = 0; fours = 0; eights = 0; sixteens = 0 })) q + sum_by (λ row. bit_at (get_or row.items j 0) q) c.args.rows.now) % 32 ≡ count_at (get_or c.args.goals.now j (record { ones = 0; twos = 0; fours = 0; eights = 0; sixteens = 0 })) q)
    c.loop-i.into c.loop-i.i c.same.result (omega arith) c.loop-i.invariant
    (λ q m. let s = c.same.ensures q m in (λ z. sym (c.sum_at.ensures q) ∙ s.0 z, λ z. s.1 (c.sum_at.ensures q ∙ z)))

pub returns-clause-bits : goal.returns-clause-bits
unfolding bit
returns-clause-bits c k l = c.loop-i.invariant (k / 64) (k % 64) (omega arith) (omega arith)
