use Rattle.std.proofs.Common.{◌≡◌, Some, true, false, []}
use Rattle.std.proofs.lemmas.Result.{err_from_is_err_and}
use Rattle.document_script.specs.Form.{more_in, parts_in}
use Rattle.document_script.proofs.PartsLoop.{goes_on, stops, ends, breaks, runs_out}
use Rattle.document_script.proofs.tokens.Tokens.parts.Goals as goal

pub returns-in_err-part : goal.returns-in_err-part
returns-in_err-part g c =
    let p = err_from_is_err_and c.from_residual-in_err-part.result c.from_residual-in_err-part.ensures.1 in
    rw (p.1, p.2) (ends c.in_err-part.field-0.0 (g.P.CommandPart.front c.args.version) g.P.CommandPart.keeps g.P.CommandPart.inside g.P.CommandPart.is_beyond g.P.CommandPart.is_empty c.args.most c.loop.counter c.loop.self (parts_in (g.P.CommandPart.front c.args.version) c.args.most [] c.args.self.now) (c.loop.parts.is_full, c.loop.parts.kept.items) c.loop.parts.has_beyond c.loop.parts.has_empty c.loop-test.true c.in_err-part.ensures c.loop.invariant)

pub returns-in-Some-false : goal.returns-in-Some-false
returns-in-Some-false g c =
    let m : more_in c.read.new.left ≡ Some (false, c.more.new.self) = (let t = c.in-Some-false.field-0-test in let e = c.in-Some-false.ensures in cc) in
    stops (g.P.CommandPart.front c.args.version) g.P.CommandPart.keeps g.P.CommandPart.inside g.P.CommandPart.is_beyond g.P.CommandPart.is_empty c.args.most c.loop.counter c.loop.self c.in_ok-part.part c.read.new.left c.more.new.self (parts_in (g.P.CommandPart.front c.args.version) c.args.most [] c.args.self.now) (c.loop.parts.is_full, c.loop.parts.kept.items) (c.put.new.parts.is_full, c.put.new.parts.kept.items) c.loop.parts.has_beyond c.put.new.parts.has_beyond c.loop.parts.has_empty c.put.new.parts.has_empty c.loop-test.true c.in_ok-part.ensures m c.loop.invariant c.in_ok-put.ensures.kept c.in_ok-put.ensures.beyond c.in_ok-put.ensures.empty

pub returns-in-None : goal.returns-in-None
returns-in-None g c = breaks (g.P.CommandPart.front c.args.version) g.P.CommandPart.keeps g.P.CommandPart.inside g.P.CommandPart.is_beyond g.P.CommandPart.is_empty c.args.most c.loop.counter c.loop.self c.in_ok-part.part c.read.new.left (parts_in (g.P.CommandPart.front c.args.version) c.args.most [] c.args.self.now) (c.loop.parts.is_full, c.loop.parts.kept.items) c.loop.parts.has_beyond c.loop.parts.has_empty c.loop-test.true c.in_ok-part.ensures c.in-None.ensures c.loop.invariant

pub loop-preserved : goal.loop-preserved
loop-preserved g c =
    let m : more_in c.read.new.left ≡ Some (true, c.more.new.self) = (let t = c.in-Some-true.field-0-test in let e = c.in-Some-true.ensures in cc) in
    goes_on (g.P.CommandPart.front c.args.version) g.P.CommandPart.keeps g.P.CommandPart.inside g.P.CommandPart.is_beyond g.P.CommandPart.is_empty c.args.most c.loop.counter c.loop.self c.in_ok-part.part c.read.new.left c.more.new.self (parts_in (g.P.CommandPart.front c.args.version) c.args.most [] c.args.self.now) (c.loop.parts.is_full, c.loop.parts.kept.items) (c.put.new.parts.is_full, c.put.new.parts.kept.items) c.loop.parts.has_beyond c.put.new.parts.has_beyond c.loop.parts.has_empty c.put.new.parts.has_empty c.loop-test.true c.in_ok-part.ensures m c.loop.invariant c.in_ok-put.ensures.kept c.in_ok-put.ensures.beyond c.in_ok-put.ensures.empty

pub returns : goal.returns
returns g c = runs_out (g.P.CommandPart.front c.args.version) g.P.CommandPart.keeps g.P.CommandPart.inside g.P.CommandPart.is_beyond g.P.CommandPart.is_empty c.args.most c.loop.counter c.loop.self (parts_in (g.P.CommandPart.front c.args.version) c.args.most [] c.args.self.now) (c.loop.parts.is_full, c.loop.parts.kept.items) c.loop.parts.has_beyond c.loop.parts.has_empty c.loop-test.false c.loop.invariant
