use Rattle.std.proofs.Common.{◌*◌, ◌/◌, ◌%◌, ◌^◌, ◌∙◌, get_or, bit_or, arith, w64}
use Rattle.std.proofs.lemmas.Nat.Bits.{bit_at_set_same, bit_at_set_other}
use Rattle.base_bits.proofs.Bits.{set-same, set-other}
use Rattle.match_cells.proofs.first.put.Goals as goal

pub returns-clause-there : goal.returns-clause-there
returns-clause-there c =
    let i = c.args.k in
    let w = get_or c.args.words.now (i / 64) 0 in
    set-same c.args.words.now i (bit_or w (1 * 2 ^ (i % 64) % 18446744073709551616)) c.requires ∙ bit_at_set_same w64 w (i % 64) (omega arith)

pub returns-clause-others : goal.returns-clause-others
returns-clause-others c k n =
    let i = c.args.k in
    let w = get_or c.args.words.now (i / 64) 0 in
    set-other c.args.words.now i k (bit_or w (1 * 2 ^ (i % 64) % 18446744073709551616)) c.requires n (λ q. bit_at_set_other w64 w (i % 64) (omega arith) (k % 64) q)
