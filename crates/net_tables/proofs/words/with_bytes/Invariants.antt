use Rattle.std.proofs.Common.{◌≡◌, drop}
use Rattle.base.specs.Signature.{marks_from}
use Rattle.net_tables.specs.Words.{byte_signs}
use Rattle.net_tables.proofs.words.with_bytes.Given as goal

abbrev pub invariant-loop-byte : goal.invariant-loop-byte
invariant-loop-byte l =
    marks_from (λ s. s) l.marks (byte_signs l.name (drop l.byte-index l.bytes)) ≡ marks_from (λ s. s) l.fn.marks (byte_signs l.name l.bytes)
