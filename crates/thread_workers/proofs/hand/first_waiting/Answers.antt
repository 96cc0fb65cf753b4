use Rattle.std.proofs.Common.{◌≤◌, suc, arith}
use Rattle.net_model.specs.declared.turn.Act.TheVariants.{Command}
use Rattle.thread_cell.specs.Asked.{Suits}
use Rattle.thread_cell.specs.Cell.{IsPast}
use Rattle.thread_cell.proofs.Leftover.{place-more}
use Rattle.thread_workers.proofs.hand.first_waiting.Goals as goal

pub loop-client-init : goal.loop-client-init
loop-client-init c client low lt suits = absurd (omega (arith, low, lt))

pub loop-client-preserved : goal.loop-client-preserved
loop-client-preserved c client low lt suits =
    place-more (λ k. c.args.from ≤ k → Suits (Command k) c.args.cell.now.root → IsPast (suc c.args.cell.now.root.phase) k c.args.cell.now.held.core.clients) c.loop-client.client
    (λ k l f s. c.loop-client.invariant k f l s) (λ f s. c.is_waiting.ensures.past c.if-is_waiting.false s) client (omega (arith, lt)) low suits

pub returns-clause-past : goal.returns-clause-past
returns-clause-past c client low lt suits = c.loop-client.invariant client low (omega (arith, lt, c.loop-client-test.false)) suits
