use Rattle.std.proofs.Common.{◌≡◌, true, false, [], length}
use Rattle.std.proofs.lemmas.Result.{err_from_is_err_and}
use Rattle.filter_text.specs.Changes.{marked_at, changes_at}
use Rattle.filter_text.proofs.ChangesLoop.{goes_on, stops, fails, ends}
use Rattle.filter_text.proofs.reader.Reader.signed.Goals as goal

pub returns-then-not-marked : goal.returns-then-not-marked
returns-then-not-marked g c =
    let m : (false, c.marked.new.self.rest.now) ≡ marked_at c.args.sign c.loop.self.rest.now = (let t = c.if-not-marked.true in let e = c.marked.ensures in cc) in
    stops g.L.Listed.front c.args.sign (length c.args.self.now.rest.now) c.loop.counter c.loop.read.items c.loop.self.rest.now c.marked.new.self.rest.now (changes_at g.L.Listed.front c.args.sign (length c.args.self.now.rest.now) [] c.args.self.now.rest.now) c.loop-test.true m c.loop.invariant

pub returns-in_err-list : goal.returns-in_err-list
returns-in_err-list g c =
    let m : (true, c.marked.new.self.rest.now) ≡ marked_at c.args.sign c.loop.self.rest.now = (let t = c.if-not-marked.false in let e = c.marked.ensures in cc) in
    let p = err_from_is_err_and c.from_residual.result c.from_residual.ensures.1 in
    rw (p.1, p.2) (fails c.in_err-list.field-0.0 g.L.Listed.front c.args.sign (length c.args.self.now.rest.now) c.loop.counter c.loop.read.items c.loop.self.rest.now c.marked.new.self.rest.now (changes_at g.L.Listed.front c.args.sign (length c.args.self.now.rest.now) [] c.args.self.now.rest.now) c.loop-test.true m c.in_err-list.ensures c.loop.invariant)

pub loop-preserved : goal.loop-preserved
loop-preserved g c =
    let m : (true, c.marked.new.self.rest.now) ≡ marked_at c.args.sign c.loop.self.rest.now = (let t = c.if-not-marked.false in let e = c.marked.ensures in cc) in
    rw c.in_ok-push.ensures.items (goes_on g.L.Listed.front c.args.sign (length c.args.self.now.rest.now) c.loop.counter c.loop.read.items c.loop.self.rest.now c.marked.new.self.rest.now c.braced.new.self.rest.now c.in_ok-list.list (changes_at g.L.Listed.front c.args.sign (length c.args.self.now.rest.now) [] c.args.self.now.rest.now) c.loop-test.true m c.in_ok-list.ensures c.loop.invariant)

pub returns : goal.returns
returns g c = ends g.L.Listed.front c.args.sign (length c.args.self.now.rest.now) c.loop.counter c.loop.read.items c.loop.self.rest.now (changes_at g.L.Listed.front c.args.sign (length c.args.self.now.rest.now) [] c.args.self.now.rest.now) c.loop-test.false c.loop.invariant
