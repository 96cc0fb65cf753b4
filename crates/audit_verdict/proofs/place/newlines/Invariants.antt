use Rattle.std.proofs.Common.{◌≡◌, ◌+◌, ◌≤◌, drop, filter, length, nat_eq}
use Rattle.audit_verdict.proofs.place.newlines.Given as goal

abbrev pub invariant-loop-byte : goal.invariant-loop-byte
invariant-loop-byte l = (l.count + length (filter (nat_eq 10) (drop l.byte-index l.bytes)) ≡ length (filter (nat_eq 10) l.bytes)) × (l.count ≤ l.byte-index)
