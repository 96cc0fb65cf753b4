use Rattle.std.proofs.Common.{◌<◌, length, ap, ◌∙◌, arith}
use Rattle.thread_cell.specs.Cell.{CellParts}
use Rattle.thread_workers.specs.ServerWorkers.{AreWorkersOf}
use Rattle.thread_workers.proofs.Pairs.{pairs-long}
use Rattle.thread_workers.proofs.Rows.{viewers-last, place-less, roots-back, viewers-back, lock-for, lock-viewers, locked-back, viewers-long, locks-long}
use Rattle.std.proofs.Common.{◌++◌, ◌∷◌, [], sym, subst}
use mathlib.Core.List.{IsPrefix}
use Rattle.thread_lock.specs.Passes.{first_value}
use Rattle.thread_cell.specs.Together.{HaveGrown}
use Rattle.thread_cell.proofs.Growing.{grown-same}
use Rattle.thread_workers.proofs.Back.{firsts-more, grown-more, seen-grown}
use Rattle.thread_workers.proofs.locking.+lock_all.Goals as goal
use Rattle.thread_cell.proofs.Emptied.{roots-count}

pub lock_all-requires : goal.lock_all-requires
lock_all-requires t c = (
  (let lt : length c.pop.new.self.items < t = omega (arith, c.in-Some.ensures.cases, c.pop.new.self.ok.0, c.args.cells.now.ok.0, c.decreases) in lt),
  (place-less c.args.cells.now.items c.pop.new.self.items c.in-Some.cell c.in-Some.ensures.items c.args.tables.now c.args.phase c.requires.place, (omega (arith, c.in-Some.ensures.cases, c.pop.new.self.ok.0, c.args.cells.now.ok.0, c.requires.few), ((viewers-last c.args.cells.now.items c.pop.new.self.items c.in-Some.cell c.in-Some.ensures.items c.args.viewers.now.items c.pop-2.new.self.items c.in-Some-pop.both c.in-Some-pop.ensures.items c.requires.viewers).0, (c.requires.empty, (omega (arith, c.in-Some.ensures.cases, c.pop.new.self.ok.0, c.args.cells.now.ok.0, c.requires.room.0), omega (arith, c.in-Some.ensures.cases, c.pop.new.self.ok.0, c.args.cells.now.ok.0, c.requires.room.1)))))),
)

pub push_reserved-requires-then-not-lock_all : goal.push_reserved-requires-then-not-lock_all
push_reserved-requires-then-not-lock_all t c =
    let s = roots-count c.lock_all.new.cells.items c.pop.new.self.items c.if-not-lock_all.ensures.cells.0 in
    omega (arith, s, c.lock_all.new.cells.ok.0, c.pop.new.self.ok.0, c.lock_all.ensures.capacity.0, c.pop.ensures.capacity, c.in-Some.ensures.cases, c.args.cells.now.ok.1)

pub push_reserved-requires-then-not-lock_all-2 : goal.push_reserved-requires-then-not-lock_all-2
push_reserved-requires-then-not-lock_all-2 t c =
    let s = viewers-long c.pop.new.self.items c.lock_all.new.viewers.items c.if-not-lock_all.ensures.cells.1 in
    let r = viewers-long c.args.cells.now.items c.args.viewers.now.items c.requires.viewers in
    omega (arith, s, r, c.lock_all.new.viewers.ok.0, c.pop.new.self.ok.0, c.args.cells.now.ok.0, c.lock_all.ensures.capacity.1, c.pop-2.ensures.capacity, c.in-Some.ensures.cases, c.args.viewers.now.ok.0, c.args.viewers.now.ok.1)

pub returns-then-not-lock_all-clause-cells : goal.returns-then-not-lock_all-clause-cells
returns-then-not-lock_all-clause-cells t c = (
  roots-back c.args.cells.now.items c.pop.new.self.items c.in-Some.cell c.in-Some.ensures.items c.lock_all.new.cells.items _ c.close.result c.push_reserved-then-not-lock_all.ensures.items c.if-not-lock_all.ensures.cells.0
      (c.close.ensures.root ∙ ap (λ (z : CellParts). z.root) c.in-Ok.ensures.lock.0),
  viewers-back c.args.cells.now.items c.pop.new.self.items c.in-Some.cell c.in-Some.ensures.items c.lock_all.new.viewers.items _ c.in-Some-pop.both c.push_reserved-then-not-lock_all-2.ensures.items c.if-not-lock_all.ensures.cells.1
      (viewers-last c.args.cells.now.items c.pop.new.self.items c.in-Some.cell c.in-Some.ensures.items c.args.viewers.now.items c.pop-2.new.self.items c.in-Some-pop.both c.in-Some-pop.ensures.items c.requires.viewers).1,
)

pub workers_of-requires-clause-lock : goal.workers_of-requires-clause-lock
workers_of-requires-clause-lock t c =
    lock-for c.args.cells.now.items c.pop.new.self.items c.in-Some.cell c.in-Some.ensures.items c.args.tables.now c.args.phase c.len.result c.in-Ok.made.0 c.in-Ok.ensures.lock.0 c.requires.place (c.len.ensures ∙ c.pop.new.self.ok.0)

pub workers_of-requires-clause-viewers : goal.workers_of-requires-clause-viewers
workers_of-requires-clause-viewers t c =
    lock-viewers c.args.cells.now.items c.pop.new.self.items c.in-Some.cell c.in-Some.ensures.items c.in-Ok.made.0 c.in-Some-pop.both c.in-Ok.ensures.lock.0
    (viewers-last c.args.cells.now.items c.pop.new.self.items c.in-Some.cell c.in-Some.ensures.items c.args.viewers.now.items c.pop-2.new.self.items c.in-Some-pop.both c.in-Some-pop.ensures.items c.requires.viewers).1

pub push_reserved-requires-2 : goal.push_reserved-requires-2
push_reserved-requires-2 t c =
    let s = pairs-long (AreWorkersOf c.args.tables.now c.args.phase) c.lock_all.new.locks.items c.lock_all.new.all_workers.items c.if-not-lock_all.ensures.locked.0 in
    let m = locks-long c.lock_all.new.locks.items c.pop.new.self.items c.if-not-lock_all.ensures.locked.1 in
    omega (arith, s, m, c.lock_all.new.all_workers.ok.0, c.pop.new.self.ok.0, c.args.cells.now.ok.0, c.in-Some.ensures.cases, c.lock_all.ensures.room.1, c.requires.room.1)

pub push_reserved-requires-3 : goal.push_reserved-requires-3
push_reserved-requires-3 t c =
    let m = locks-long c.lock_all.new.locks.items c.pop.new.self.items c.if-not-lock_all.ensures.locked.1 in
    omega (arith, m, c.lock_all.new.locks.ok.0, c.pop.new.self.ok.0, c.args.cells.now.ok.0, c.in-Some.ensures.cases, c.lock_all.ensures.room.0, c.requires.room.0)

pub returns-clause-locked : goal.returns-clause-locked
returns-clause-locked t c =
    locked-back c.args.cells.now.items c.pop.new.self.items c.in-Some.cell c.in-Some.ensures.items c.args.tables.now c.args.phase c.lock_all.new.locks.items _ c.lock_all.new.all_workers.items _ c.in-Ok.made.0 c.workers_of.result c.push_reserved-3.ensures.items
    c.push_reserved-2.ensures.items c.if-not-lock_all.ensures.locked.0 c.workers_of.ensures c.if-not-lock_all.ensures.locked.1 c.in-Ok.ensures.lock.0

pub workers_of-requires-clause-seen : goal.workers_of-requires-clause-seen
workers_of-requires-clause-seen t c k d lt = (c.in-Ok.ensures.passes k d lt).1.0 ∙ ap (λ (z : CellParts). z.journal) (sym c.in-Ok.ensures.lock.0)

pub returns-clause-values : goal.returns-clause-values
returns-clause-values t c =
    firsts-more c.push_reserved-3.new.self.items c.lock_all.new.locks.items c.in-Ok.made.0 c.push_reserved-3.ensures.items
    ∙ ap (λ l. l ++ first_value c.in-Ok.made.0 ∷ []) c.if-not-lock_all.ensures.values
    ∙ ap (λ (z : CellParts). c.pop.new.self.items ++ z ∷ []) c.in-Ok.ensures.lock.0
    ∙ sym c.in-Some.ensures.items

pub returns-then-not-lock_all-clause-values : goal.returns-then-not-lock_all-clause-values
returns-then-not-lock_all-clause-values t c =
    subst (λ l. HaveGrown l c.push_reserved-then-not-lock_all.new.self.items) (sym c.in-Some.ensures.items)
    (subst (λ l. HaveGrown (c.pop.new.self.items ++ c.in-Some.cell ∷ []) l) (sym c.push_reserved-then-not-lock_all.ensures.items)
    (grown-more c.pop.new.self.items c.lock_all.new.cells.items c.in-Some.cell c.close.result c.if-not-lock_all.ensures.values
    (subst (λ (z : CellParts). IsPrefix z.journal c.close.result.journal) c.in-Ok.ensures.lock.0
    (seen-grown c.in-Ok.made.0 c.close.result c.in-Ok.made.1.items 2 (omega (arith, c.in-Ok.ensures.numbers.0, c.in-Ok.made.1.ok.0))
    (λ k d lt. (c.in-Ok.ensures.passes k d lt).1.0 ∙ ap (λ (z : CellParts). z.journal) (sym c.in-Ok.ensures.lock.0)) c.close.ensures.list))))

pub returns-in-Err-clause-values : goal.returns-in-Err-clause-values
returns-in-Err-clause-values t c =
    subst (λ l. HaveGrown c.args.cells.now.items l)
    (sym (c.push_reserved.ensures.items ∙ ap (λ (z : CellParts). c.pop.new.self.items ++ z ∷ []) c.in-Err.ensures.back ∙ sym c.in-Some.ensures.items)) (grown-same c.args.cells.now.items)
