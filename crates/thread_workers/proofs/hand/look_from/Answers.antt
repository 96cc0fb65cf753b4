use Rattle.std.proofs.Common.{sym, subst}
use Rattle.thread_cell.specs.declared.held.Root.{Root}
use Rattle.net_model.specs.declared.turn.Act.TheVariants.{Receive}
use Rattle.thread_cell.specs.Asked.{Suits}
use Rattle.thread_workers.specs.WorkerHandles.{CanMatch}
use Rattle.thread_workers.proofs.Lists.{prefix-of}
use Rattle.thread_workers.proofs.Waiting.{looked-matchable, some-gives}
use Rattle.thread_workers.proofs.hand.look_from.Goals as goal

pub returns-in-Some-clause-grows : goal.returns-in-Some-clause-grows
returns-in-Some-clause-grows g c = prefix-of c.args.cell.now.journal c.look.new.self.journal c.look.ensures.still.journal

pub returns-in-Some-clause-tried : goal.returns-in-Some-clause-tried
returns-in-Some-clause-tried g c = (
  subst (Suits (Receive c.args.from)) (sym c.look.ensures.root) c.requires,
  subst (λ (z : Root). CanMatch z c.in-Some.number) (sym c.look.ensures.root)
      (some-gives (CanMatch c.args.cell.now.root) c.look.result c.in-Some.number c.in-Some.is (looked-matchable _ _ _ c.lemma_kept.ensures c.args.from _ _ c.look.result c.look.ensures.looked)),
  tt,
)
