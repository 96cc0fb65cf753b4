use Rattle.std.proofs.Common.{All, sym, subst}
use Rattle.thread_workers.specs.ServerWorkers.{IsFreePass}
use Rattle.thread_workers.proofs.Passes.{all-more}
use mathlib.Core.List.{IsPrefix}
use Rattle.base_devices.specs.declared.gate.WorkerRole.TheVariants.{Commands}
use Rattle.thread_lock.specs.Passes.{seen_by}
use Rattle.thread_workers.specs.Work.{EndsWith}
use Rattle.thread_workers.proofs.Passes.{all-less}
use Rattle.thread_workers.proofs.Back.{back-executed, seen-grown}
use Rattle.thread_workers.proofs.locking.unlock.Goals as goal

pub close-requires-clause-own : goal.close-requires-clause-own
close-requires-clause-own c =
    let P = IsFreePass c.args.lock in
    let one = subst (All P) (sym c.push_reserved.ensures.items) (all-more P c.args.spare.passes.items c.args.done.commands.pass c.requires.spare.own (c.requires.back.0.own, c.requires.back.0.free)) in
    subst (All P) (sym c.push_reserved-2.ensures.items) (all-more P c.push_reserved.new.self.items c.args.done.links.pass one (c.requires.back.1.own, c.requires.back.1.free))

pub returns-clause-grown : goal.returns-clause-grown
returns-clause-grown c =
    let a = all-less (λ p. IsPrefix (seen_by p) c.close.result.journal) c.push_reserved-2.new.self.items c.push_reserved.new.self.items c.args.done.links.pass c.push_reserved-2.ensures.items c.close.ensures.list in
    let b = all-less (λ p. IsPrefix (seen_by p) c.close.result.journal) c.push_reserved.new.self.items c.args.spare.passes.items c.args.done.commands.pass c.push_reserved.ensures.items a.0 in
    seen-grown c.args.lock c.close.result c.args.spare.passes.items 0 c.requires.spare.one c.requires.spare.seen b.0

pub returns-clause-executed : goal.returns-clause-executed
returns-clause-executed c some =
    let a = all-less (λ p. IsPrefix (seen_by p) c.close.result.journal) c.push_reserved-2.new.self.items c.push_reserved.new.self.items c.args.done.links.pass c.push_reserved-2.ensures.items c.close.ensures.list in
    let b = all-less (λ p. IsPrefix (seen_by p) c.close.result.journal) c.push_reserved.new.self.items c.args.spare.passes.items c.args.done.commands.pass c.push_reserved.ensures.items a.0 in
    back-executed c.close.result (seen_by c.args.done.commands.pass) c.args.done.commands.fault b.1
    (subst (λ z. EndsWith Commands z (seen_by c.args.done.commands.pass) c.args.done.commands.fault) (sym c.close.ensures.root) c.requires.back.2) some
