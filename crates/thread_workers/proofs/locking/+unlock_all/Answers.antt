use Rattle.std.proofs.Common.{◌<◌, length, sym, subst, arith}
use Rattle.thread_cell.specs.declared.held.Root.{Root}
use Rattle.thread_workers.specs.ServerWorkers.{AreBackAt, AreViewersOf, AreSpareOf}
use Rattle.thread_workers.proofs.Rows.{beside-last, viewers-back, viewers-long, locks-long}
use Rattle.std.proofs.Common.{◌++◌, ◌∷◌, [], map}
use Rattle.thread_lock.specs.Passes.{first_value}
use Rattle.filter_text.specs.MessageText.{Each}
use Rattle.thread_cell.specs.Together.{HaveGrown}
use Rattle.thread_workers.specs.Journals.{HasExecuted}
use Rattle.thread_workers.proofs.Back.{firsts-more, grown-more, each-more}
use Rattle.thread_workers.proofs.locking.+unlock_all.Goals as goal

pub unlock-cell-requires-clause-spare : goal.unlock-cell-requires-clause-spare
unlock-cell-requires-clause-spare t c =
    (beside-last AreSpareOf c.args.locks.now.items c.pop.new.self.items c.in-Some.lock c.args.spares.items c.pop-2.new.self.items c.in-Some-pop.spare c.in-Some.ensures.items c.in-Some-pop.ensures.items c.requires.spares).1

pub unlock-cell-requires-clause-back : goal.unlock-cell-requires-clause-back
unlock-cell-requires-clause-back t c =
    (beside-last AreBackAt c.args.locks.now.items c.pop.new.self.items c.in-Some.lock c.args.done.items c.pop-3.new.self.items c.in-Some-pop-2.both c.in-Some.ensures.items c.in-Some-pop-2.ensures.items c.requires.back).1

pub unlock_all-rest-requires : goal.unlock_all-rest-requires
unlock_all-rest-requires t c = (
  (let lt : length c.pop.new.self.items < t = omega (arith, c.in-Some.ensures.cases, c.pop.new.self.ok.0, c.args.locks.now.ok.0, c.decreases) in lt),
  (
    (beside-last AreSpareOf c.args.locks.now.items c.pop.new.self.items c.in-Some.lock c.args.spares.items c.pop-2.new.self.items c.in-Some-pop.spare c.in-Some.ensures.items c.in-Some-pop.ensures.items c.requires.spares).0,
    (
      (beside-last AreBackAt c.args.locks.now.items c.pop.new.self.items c.in-Some.lock c.args.done.items c.pop-3.new.self.items c.in-Some-pop-2.both c.in-Some.ensures.items c.in-Some-pop-2.ensures.items c.requires.back).0,
      (c.requires.empty, (omega (arith, c.in-Some.ensures.cases, c.pop.new.self.ok.0, c.args.locks.now.ok.0, c.requires.room.0), omega (arith, c.in-Some.ensures.cases, c.pop.new.self.ok.0, c.args.locks.now.ok.0, c.requires.room.1))),
    ),
  ),
)

pub push_reserved-requires-2 : goal.push_reserved-requires-2
push_reserved-requires-2 t c =
    let s = viewers-long c.unlock_all-rest.new.cells.items c.unlock_all-rest.new.viewers.items c.unlock_all-rest.ensures.viewers in
    let m = locks-long c.pop.new.self.items c.unlock_all-rest.new.cells.items (sym c.unlock_all-rest.ensures.roots) in
    omega (arith, s, m, c.unlock_all-rest.new.viewers.ok.0, c.pop.new.self.ok.0, c.args.locks.now.ok.0, c.in-Some.ensures.cases, c.unlock_all-rest.ensures.capacity.1, c.requires.room.1)

pub returns-then-rest-clause-viewers : goal.returns-then-rest-clause-viewers
returns-then-rest-clause-viewers t c =
    viewers-back c.push_reserved.new.self.items c.unlock_all-rest.new.cells.items c.unlock-cell.result.0 c.push_reserved.ensures.items c.unlock_all-rest.new.viewers.items _ c.unlock-cell.result.1 c.push_reserved-2.ensures.items c.unlock_all-rest.ensures.viewers
    (subst (λ (z : Root). AreViewersOf z c.unlock-cell.result.1) (sym c.unlock-cell.ensures.root) c.unlock-cell.ensures.viewers)

pub returns-else-rest-clause-viewers : goal.returns-else-rest-clause-viewers
returns-else-rest-clause-viewers t c =
    viewers-back c.push_reserved.new.self.items c.unlock_all-rest.new.cells.items c.unlock-cell.result.0 c.push_reserved.ensures.items c.unlock_all-rest.new.viewers.items _ c.unlock-cell.result.1 c.push_reserved-2.ensures.items c.unlock_all-rest.ensures.viewers
    (subst (λ (z : Root). AreViewersOf z c.unlock-cell.result.1) (sym c.unlock-cell.ensures.root) c.unlock-cell.ensures.viewers)

pub returns-then-rest-clause-grown : goal.returns-then-rest-clause-grown
returns-then-rest-clause-grown t c =
    subst (λ l. HaveGrown l c.push_reserved.new.self.items) (sym (firsts-more c.args.locks.now.items c.pop.new.self.items c.in-Some.lock c.in-Some.ensures.items))
    (subst (λ l. HaveGrown (map first_value c.pop.new.self.items ++ first_value c.in-Some.lock ∷ []) l) (sym c.push_reserved.ensures.items)
    (grown-more (map first_value c.pop.new.self.items) c.unlock_all-rest.new.cells.items (first_value c.in-Some.lock) c.unlock-cell.result.0 c.unlock_all-rest.ensures.grown c.unlock-cell.ensures.grown))

pub returns-else-rest-clause-grown : goal.returns-else-rest-clause-grown
returns-else-rest-clause-grown t c =
    subst (λ l. HaveGrown l c.push_reserved.new.self.items) (sym (firsts-more c.args.locks.now.items c.pop.new.self.items c.in-Some.lock c.in-Some.ensures.items))
    (subst (λ l. HaveGrown (map first_value c.pop.new.self.items ++ first_value c.in-Some.lock ∷ []) l) (sym c.push_reserved.ensures.items)
    (grown-more (map first_value c.pop.new.self.items) c.unlock_all-rest.new.cells.items (first_value c.in-Some.lock) c.unlock-cell.result.0 c.unlock_all-rest.ensures.grown c.unlock-cell.ensures.grown))

pub returns-then-rest-clause-executed : goal.returns-then-rest-clause-executed
returns-then-rest-clause-executed t c here =
    subst (λ l. Each HasExecuted l) (sym c.push_reserved.ensures.items)
    (each-more HasExecuted c.unlock_all-rest.new.cells.items c.unlock-cell.result.0 (c.unlock_all-rest.ensures.executed c.if-rest.true) (c.unlock-cell.ensures.executed (c.had_both-here.ensures here)))
