use Rattle.std.proofs.Common.{◌≡◌, ◌<◌, length, arith}
use Rattle.base_devices.specs.declared.gate.WorkerRole.TheVariants.{Commands, Links}
use Rattle.thread_workers.specs.ServerWorkers.{AreBack, AreBackAt, at_lock, with_both, with_one}
use Rattle.thread_workers.proofs.Pairs.{pairs-long}
use Rattle.thread_workers.proofs.Rows.{beside-back}
use Rattle.thread_workers.proofs.WorkersByThread.{taken-both, taken-last}
use Rattle.thread_workers.proofs.hire.+take_all.Goals as goal

pub take_all-requires : goal.take_all-requires
take_all-requires t c = (
  (let lt : length c.in-Some.others.now < t = omega (arith, c.in-Some.ensures.cases.1, c.decreases) in lt),
  (
    (omega (arith, c.in-Some.ensures.cases.1, c.requires.few)),
    (
      c.requires.threads,
      (
        c.requires.empty,
        (
          omega (arith, c.in-Some.ensures.cases.1, c.requires.room),
          (with_both (length c.args.rows.now.items) (length c.in-Some.others.now) c.in-Some.lock.now c.requires.rows.0, taken-last c.args.locks.now c.in-Some.others.now c.in-Some.lock.now (length c.args.rows.now.items) 0 0 AreBack c.requires.rows.0 c.args.rows.now.items c.in-Some.ensures.cases.0 c.requires.rows.1),
        ),
      ),
    ),
  ),
)

pub take-links-requires-clause-one : goal.take-links-requires-clause-one
take-links-requires-clause-one t c = (at_lock c.in-Some.lock.now Links, (with_one c.thread_of-first.result (at_lock c.in-Some.lock.now Commands) c.requires.rows.0), taken-both c.args.locks.now c.in-Some.others.now c.in-Some.lock.now (length c.args.rows.now.items) c.thread_of-first.result c.thread_of-second.result AreBack c.requires.rows.0 c.take_all.new.rows.items c.len-threads.result (let e : c.len-threads.result ≡ length c.args.rows.now.items = omega (arith, c.len-threads.ensures, c.take_all.new.rows.ok.0, c.take_all.ensures.count) in e) c.thread_of-first.ensures.place c.thread_of-second.ensures.place (c.take_all.ensures.rows (with_both (length c.args.rows.now.items) (length c.in-Some.others.now) c.in-Some.lock.now c.requires.rows.0) (taken-last c.args.locks.now c.in-Some.others.now c.in-Some.lock.now (length c.args.rows.now.items) 0 0 AreBack c.requires.rows.0 c.args.rows.now.items c.in-Some.ensures.cases.0 c.requires.rows.1)))

pub take-commands-requires-clause-one : goal.take-commands-requires-clause-one
take-commands-requires-clause-one t c = (at_lock c.in-Some.lock.now Commands, c.requires.rows.0, (c.take-links.ensures.taken (at_lock c.in-Some.lock.now Links) (with_one c.thread_of-first.result (at_lock c.in-Some.lock.now Commands) c.requires.rows.0) (taken-both c.args.locks.now c.in-Some.others.now c.in-Some.lock.now (length c.args.rows.now.items) c.thread_of-first.result c.thread_of-second.result AreBack c.requires.rows.0 c.take_all.new.rows.items c.len-threads.result (let e : c.len-threads.result ≡ length c.args.rows.now.items = omega (arith, c.len-threads.ensures, c.take_all.new.rows.ok.0, c.take_all.ensures.count) in e) c.thread_of-first.ensures.place c.thread_of-second.ensures.place (c.take_all.ensures.rows (with_both (length c.args.rows.now.items) (length c.in-Some.others.now) c.in-Some.lock.now c.requires.rows.0) (taken-last c.args.locks.now c.in-Some.others.now c.in-Some.lock.now (length c.args.rows.now.items) 0 0 AreBack c.requires.rows.0 c.args.rows.now.items c.in-Some.ensures.cases.0 c.requires.rows.1)))).1)

pub push_reserved-requires : goal.push_reserved-requires
push_reserved-requires t c =
    let s = pairs-long AreBackAt c.in-Some.others.now c.take_all.new.done.items c.take_all.ensures.back in
    omega (arith, s, c.in-Some.ensures.cases.1, c.take_all.new.done.ok.0, c.take_all.ensures.capacity, c.requires.room)

pub returns-clause-rows : goal.returns-clause-rows
returns-clause-rows t c less p = (c.take-commands.ensures.taken (at_lock c.in-Some.lock.now Commands) less (c.take-links.ensures.taken (at_lock c.in-Some.lock.now Links) (with_one c.thread_of-first.result (at_lock c.in-Some.lock.now Commands) less) (taken-both c.args.locks.now c.in-Some.others.now c.in-Some.lock.now (length c.args.rows.now.items) c.thread_of-first.result c.thread_of-second.result AreBack less c.take_all.new.rows.items c.len-threads.result (let e : c.len-threads.result ≡ length c.args.rows.now.items = omega (arith, c.len-threads.ensures, c.take_all.new.rows.ok.0, c.take_all.ensures.count) in e) c.thread_of-first.ensures.place c.thread_of-second.ensures.place (c.take_all.ensures.rows (with_both (length c.args.rows.now.items) (length c.in-Some.others.now) c.in-Some.lock.now less) (taken-last c.args.locks.now c.in-Some.others.now c.in-Some.lock.now (length c.args.rows.now.items) 0 0 AreBack less c.args.rows.now.items c.in-Some.ensures.cases.0 p)))).1).1

pub returns-clause-back : goal.returns-clause-back
returns-clause-back t c =
    let l = (c.take-links.ensures.taken (at_lock c.in-Some.lock.now Links) (with_one c.thread_of-first.result (at_lock c.in-Some.lock.now Commands) c.requires.rows.0) (taken-both c.args.locks.now c.in-Some.others.now c.in-Some.lock.now (length c.args.rows.now.items) c.thread_of-first.result c.thread_of-second.result AreBack c.requires.rows.0 c.take_all.new.rows.items c.len-threads.result (let e : c.len-threads.result ≡ length c.args.rows.now.items = omega (arith, c.len-threads.ensures, c.take_all.new.rows.ok.0, c.take_all.ensures.count) in e) c.thread_of-first.ensures.place c.thread_of-second.ensures.place (c.take_all.ensures.rows (with_both (length c.args.rows.now.items) (length c.in-Some.others.now) c.in-Some.lock.now c.requires.rows.0) (taken-last c.args.locks.now c.in-Some.others.now c.in-Some.lock.now (length c.args.rows.now.items) 0 0 AreBack c.requires.rows.0 c.args.rows.now.items c.in-Some.ensures.cases.0 c.requires.rows.1)))).0 in
    let m = (c.take-commands.ensures.taken (at_lock c.in-Some.lock.now Commands) c.requires.rows.0 (c.take-links.ensures.taken (at_lock c.in-Some.lock.now Links) (with_one c.thread_of-first.result (at_lock c.in-Some.lock.now Commands) c.requires.rows.0) (taken-both c.args.locks.now c.in-Some.others.now c.in-Some.lock.now (length c.args.rows.now.items) c.thread_of-first.result c.thread_of-second.result AreBack c.requires.rows.0 c.take_all.new.rows.items c.len-threads.result (let e : c.len-threads.result ≡ length c.args.rows.now.items = omega (arith, c.len-threads.ensures, c.take_all.new.rows.ok.0, c.take_all.ensures.count) in e) c.thread_of-first.ensures.place c.thread_of-second.ensures.place (c.take_all.ensures.rows (with_both (length c.args.rows.now.items) (length c.in-Some.others.now) c.in-Some.lock.now c.requires.rows.0) (taken-last c.args.locks.now c.in-Some.others.now c.in-Some.lock.now (length c.args.rows.now.items) 0 0 AreBack c.requires.rows.0 c.args.rows.now.items c.in-Some.ensures.cases.0 c.requires.rows.1)))).1).0 in
    beside-back AreBackAt c.args.locks.now c.in-Some.others.now c.in-Some.lock.now c.take_all.new.done.items _ (record { commands = c.take-commands.result; links = c.take-links.result }) c.in-Some.ensures.cases.0 c.push_reserved.ensures.items c.take_all.ensures.back
    (m.0, l.0, m.1)
