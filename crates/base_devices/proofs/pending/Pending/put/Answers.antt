use Rattle.std.proofs.Common.{[]}
use Rattle.base_devices.specs.Pending.{outlet, Went}
use Rattle.base_devices.proofs.Outlets.{went-then, went-kept, went-nothing}
use Rattle.base_devices.proofs.pending.Pending.put.Goals as goal
use Rattle.base_devices.proofs.pending.Pending.put.Goals.{then-bytes-len, else-bytes-len}

pub returns-else-bytes-gt-ROOM : goal.returns-else-bytes-gt-ROOM
returns-else-bytes-gt-ROOM g c =
    let old = outlet (g.K.Sink.state c.args.sink.now) c.args.self.now in
    let middle = outlet (g.K.Sink.state c.if-bytes-len.sink) c.if-bytes-len.self in
    let first : Went old middle [] = elim c.if-bytes-len.branch [
      | then-bytes-len w ↦ rw (w.self-is, w.sink-is) w.flush.ensures.went
      | else-bytes-len w ↦ rw (w.self-is, w.sink-is) (went-nothing old)
    ] in
    let new = outlet (g.K.Sink.state c.if-bytes-len.sink) c.keep.new.self in
    let second : Went middle new c.args.bytes.now =
    rw c.keep.ensures (went-kept (g.K.Sink.state c.if-bytes-len.sink) c.if-bytes-len.self c.args.bytes.now) in
    went-then old middle new [] c.args.bytes.now first second

pub returns-then-bytes-gt-ROOM : goal.returns-then-bytes-gt-ROOM
returns-then-bytes-gt-ROOM g c =
    let old = outlet (g.K.Sink.state c.args.sink.now) c.args.self.now in
    let middle = outlet (g.K.Sink.state c.if-bytes-len.sink) c.if-bytes-len.self in
    let first : Went old middle [] = elim c.if-bytes-len.branch [
      | then-bytes-len w ↦ rw (w.self-is, w.sink-is) w.flush.ensures.went
      | else-bytes-len w ↦ rw (w.self-is, w.sink-is) (went-nothing old)
    ] in
    went-then old middle (outlet (g.K.Sink.state c.send.new.sink) c.send.new.self) [] c.args.bytes.now first c.send.ensures
