use Rattle.std.proofs.Common.{◌≡◌, true, false, []}
use Rattle.filter_text.specs.Items.{more_at, items_at}
use Rattle.filter_text.proofs.ItemsLoop.{goes_on, stops, runs_out}
use Rattle.filter_text.proofs.reader.Reader.joined.Goals as goal

pub returns-then-not-more : goal.returns-then-not-more
returns-then-not-more g c =
    let m : (false, c.more.new.self.rest.now) ≡ more_at c.read.new.reader.rest.now = (let t = c.if-not-more.true in let e = c.more.ensures in cc) in
    rw c.in_ok-push.ensures.items (stops g.T.Joined.front c.args.most c.loop.counter c.loop.members.items c.loop.self.rest.now c.in_ok-member.member c.read.new.reader.rest.now c.more.new.self.rest.now (items_at g.T.Joined.front c.args.most [] c.args.self.now.rest.now) c.loop-test.true c.in_ok-member.ensures m c.loop.invariant)

pub loop-preserved : goal.loop-preserved
loop-preserved g c =
    let m : (true, c.more.new.self.rest.now) ≡ more_at c.read.new.reader.rest.now = (let t = c.if-not-more.false in let e = c.more.ensures in cc) in
    rw c.in_ok-push.ensures.items (goes_on g.T.Joined.front c.args.most c.loop.counter c.loop.members.items c.loop.self.rest.now c.in_ok-member.member c.read.new.reader.rest.now c.more.new.self.rest.now (items_at g.T.Joined.front c.args.most [] c.args.self.now.rest.now) c.loop-test.true c.in_ok-member.ensures m c.loop.invariant)

pub returns : goal.returns
returns g c = runs_out g.T.Joined.front c.args.most c.loop.counter c.loop.members.items c.loop.self.rest.now (items_at g.T.Joined.front c.args.most [] c.args.self.now.rest.now) c.loop-test.false c.loop.invariant
