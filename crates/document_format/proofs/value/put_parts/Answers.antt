use Rattle.std.proofs.Common.{subst}
use Rattle.base_devices.specs.Pending.{outlet, Went}
use Rattle.base_devices.proofs.Outlets.{went-then, went-nothing}
use Rattle.document_format.proofs.Chain.{first_part, no_part}
use Rattle.document_format.proofs.value.put_parts.Goals as goal

pub returns-in-empty : goal.returns-in-empty
returns-in-empty g c =
    let old = outlet (g.K.Sink.state c.args.sink.now) c.args.out.now in
    subst (Went old old) (no_part g.P.Part.text c.args.parts.now c.in-empty.len_below) (went-nothing old)

pub returns-in-len1-up : goal.returns-in-len1-up
returns-in-len1-up g c =
    let new = outlet (g.K.Sink.state c.put_later.new.sink) c.put_later.new.out in
    subst (Went (outlet (g.K.Sink.state c.args.sink.now) c.args.out.now) new) (first_part g.P.Part.text c.args.parts.now c.first-item.result c.in-len1-up.len_at_least)
    (went-then _ _ _ _ _ (rw c.first-item.is at c.put.ensures) c.put_later.ensures)
