use Rattle.std.proofs.Common.{arith}
use Rattle.base.specs.Signature.{marks_from}
use Rattle.net_tables.specs.Words.{byte_signs}
use Rattle.net_tables.proofs.Asked.{byte-step}
use Rattle.net_tables.proofs.words.with_bytes.Goals as goal

pub loop-byte-preserved : goal.loop-byte-preserved
loop-byte-preserved c =
    byte-step c.args.name.now c.args.bytes.now c.loop-byte.byte-index c.loop-byte.marks c.name_bit-named.result c.byte_bit.result c.with_bit-marks.result
    (marks_from (λ s. s) c.args.marks (byte_signs c.args.name.now c.args.bytes.now)) (omega (arith, c.loop-byte-test.true)) c.name_bit-named.ensures.place c.byte_bit.ensures.place
    c.with_bit-marks.ensures c.loop-byte.invariant
