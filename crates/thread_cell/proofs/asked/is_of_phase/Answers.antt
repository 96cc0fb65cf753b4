use Rattle.std.proofs.Common.{◌≡◌, true, false, eqb-true, eq-eqb}
use Rattle.thread_cell.proofs.Phased.{of-phase, left-of}
use Rattle.thread_cell.proofs.asked.is_of_phase.Goals as goal

pub returns-in-Some : goal.returns-in-Some
returns-in-Some c =
    let p = of-phase c.args.core.now c.args.client c.args.phase c.requires.stands _ c.session.ensures.session c.session.ensures.client (c.in-Some.own, c.in-Some.field-0-1.now) c.in-Some.ensures.next in
    ((λ t. p.0 (eqb-true c.in-Some.own c.args.phase t)), (λ h. eq-eqb c.in-Some.own c.args.phase (p.1 h)))

pub returns-in-None : goal.returns-in-None
returns-in-None c = (
  (λ t. absurd (let e : false ≡ true = t in cc)),
  (λ h. absurd (let e : false ≡ true = c.in-None.ensures.left.1 (left-of c.args.core.now c.args.client c.args.phase c.requires.stands _ c.session.ensures.session c.session.ensures.client h) in cc)),
)
