use Rattle.std.proofs.Common.{◌≡◌, ◌-◌, ◌≤◌, ◌++◌, ◌<◌, false, vec_len}
use Rattle.std.specs.Io.KnownBytes.{Consumes}
use Rattle.base_devices.proofs.whole.read_all.Given as goal

-- the bytes so far are those that the source gave, and where there are any it has not ended
abbrev pub invariant-loop-bytes : goal.invariant-loop-bytes
invariant-loop-bytes g l = (g.S.Source.given l.source ≡ g.S.Source.given l.initial.source ++ l.bytes.items) × Consumes (g.S.Source.left l.initial.source) (g.S.Source.left l.source) l.bytes.items × (vec_len l.bytes ≤ l.limit) × (g.S.Source.faults l.initial.source ≡ g.S.Source.faults l.source) × (0 < vec_len l.bytes → g.S.Source.ended l.source ≡ false)

abbrev pub decreases-loop-bytes : goal.decreases-loop-bytes
decreases-loop-bytes g l = l.limit - vec_len l.bytes
