use Rattle.std.proofs.Common.{arith}
use Rattle.thread_workers.specs.ServerWorkers.{HasSeenFirst, IsFreePass}
use Rattle.thread_workers.proofs.Passes.{all-less, one-left}
use Rattle.thread_workers.proofs.locking.workers_of.Goals as goal

pub returns : goal.returns
returns c =
    let a = all-less (IsFreePass c.args.lock.now) c.args.passes.items c.pop.new.self.items c.in-Some.links c.in-Some.ensures.items c.requires.passes in
    let b = all-less (IsFreePass c.args.lock.now) c.pop.new.self.items c.pop-2.new.self.items c.in-Some-pop.commands c.in-Some-pop.ensures.items a.0 in
    record {
      lock_for = c.requires.lock;
      spare_of = record {
        count = c.requires.three.1;
        one = one-left c.args.passes.items c.pop.new.self.items c.pop-2.new.self.items c.in-Some.links c.in-Some-pop.commands c.in-Some.ensures.items c.in-Some-pop.ensures.items c.requires.three.0;
        room = omega (arith, c.pop.ensures.capacity, c.pop-2.ensures.capacity, c.requires.three.0, c.args.passes.ok.0, c.args.passes.ok.1);
        own = b.0;
        seen = (all-less (HasSeenFirst c.args.lock.now) c.pop.new.self.items c.pop-2.new.self.items c.in-Some-pop.commands c.in-Some-pop.ensures.items
            (all-less (HasSeenFirst c.args.lock.now) c.args.passes.items c.pop.new.self.items c.in-Some.links c.in-Some.ensures.items c.requires.seen).0).0;
      };
      commands = record { own = b.1.0; free = b.1.1; viewer_is = c.requires.viewers.0 };
      links = record { own = a.1.0; free = a.1.1; viewer_is = c.requires.viewers.1 };
    }
