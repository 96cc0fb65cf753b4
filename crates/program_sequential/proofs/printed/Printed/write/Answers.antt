use Rattle.std.proofs.Common.{true, false, ◌++◌, subst}
use Rattle.base_devices.specs.Whole.{TookPart}
use Rattle.base_devices.specs.Pending.{outlet, drained, Went}
use Rattle.base_devices.proofs.Outlets.{cut-short, went-finished, went-grew}
use Rattle.program_sequential.specs.Showing.{body_text}
use Rattle.program_sequential.proofs.printed.Printed.write.Goals as goal

pub returns-clause-err : goal.returns-clause-err
returns-clause-err g c =
    let state = g.K.Sink.state in
    let p = c.self.inside in
    let old = outlet (state c.args.sink.now) p.pending in
    let first = outlet (state c.put.new.sink) c.put.new.out in
    let put = outlet (state c.put-2.new.sink) c.put-2.new.self in
    let new = outlet (state c.finish.new.sink) (drained true) in
    let text = body_text p.body ++ p.rest.items in
    let rest : Went first put p.rest.items = rw c.deref.ensures.value at c.put-2.ensures in
    let all : Went old new text = went-finished old first put new (body_text p.body) p.rest.items c.put.ensures rest c.in-Err.ensures.err in
    let went : Went (outlet (state c.args.sink.now) (drained false)) new text = rw c.self.invariant at all in
    subst (λ z. TookPart (state c.args.sink.now).taken (state c.finish.new.sink).taken z.text) c.self.view_is
    (cut-short (state c.args.sink.now) (state c.finish.new.sink) text went).0

pub returns-clause-held : goal.returns-clause-held
returns-clause-held g c =
    let state = g.K.Sink.state in
    let p = c.self.inside in
    let old = outlet (state c.args.sink.now) p.pending in
    let first = outlet (state c.put.new.sink) c.put.new.out in
    let put = outlet (state c.put-2.new.sink) c.put-2.new.self in
    let new = outlet (state c.finish.new.sink) (drained true) in
    let text = body_text p.body ++ p.rest.items in
    let rest : Went first put p.rest.items = rw c.deref.ensures.value at c.put-2.ensures in
    let all : Went old new text = went-finished old first put new (body_text p.body) p.rest.items c.put.ensures rest c.in-Err.ensures.err in
    let went : Went (outlet (state c.args.sink.now) (drained false)) new text = rw c.self.invariant at all in
    went-grew (state c.args.sink.now) (state c.finish.new.sink) (drained true) text went

pub returns-in-Ok-clause-held : goal.returns-in-Ok-clause-held
returns-in-Ok-clause-held g c =
    let state = g.K.Sink.state in
    let p = c.self.inside in
    let old = outlet (state c.args.sink.now) p.pending in
    let first = outlet (state c.put.new.sink) c.put.new.out in
    let put = outlet (state c.put-2.new.sink) c.put-2.new.self in
    let new = outlet (state c.finish.new.sink) (drained false) in
    let text = body_text p.body ++ p.rest.items in
    let rest : Went first put p.rest.items = rw c.deref.ensures.value at c.put-2.ensures in
    let all : Went old new text = went-finished old first put new (body_text p.body) p.rest.items c.put.ensures rest c.in-Ok.ensures.ok in
    let went : Went (outlet (state c.args.sink.now) (drained false)) new text = rw c.self.invariant at all in
    went-grew (state c.args.sink.now) (state c.finish.new.sink) (drained false) text went
