use Rattle.std.proofs.Common.{◌≡◌, true, false, refl}
use Rattle.thread_cell.proofs.Phased.{past-by, past-next, past-none}
use Rattle.thread_cell.proofs.phases.is_past.Goals as goal

pub returns-in-Some : goal.returns-in-Some
returns-in-Some c = (
  λ t. past-by c.args.core.now c.args.client c.args.phase c.requires.stands _ c.session.ensures.session c.session.ensures.client (c.in-Some.own, c.in-Some.field-0-1.now) c.in-Some.ensures.next t,
  λ p. past-next c.args.core.now c.args.client c.args.phase c.requires.stands _ c.session.ensures.session c.session.ensures.client (c.in-Some.own, c.in-Some.field-0-1.now) c.in-Some.ensures.next p,
)

pub returns-in-None : goal.returns-in-None
returns-in-None c = (
  λ t. past-none c.args.core.now c.args.client c.args.phase c.requires.stands _ c.session.ensures.session c.session.ensures.client (λ lt. (let e : false ≡ true = c.in-None.ensures.left.1 lt in cc)),
  λ p. refl,
)
