use Rattle.std.proofs.Common.{◌≡◌, nat_le, true, false, arith}
use Rattle.std.proofs.lemmas.Bool.Decides.{nat_tests}
use Rattle.thread_cell.proofs.Phased.{past-by, past-none}
use Rattle.thread_cell.proofs.coming.next_at.Goals as goal

pub returns-in-Some-clause-from : goal.returns-in-Some-clause-from
returns-in-Some-clause-from c =
    let t : nat_le c.in-Some.own c.in-Some.own ≡ true = grind (arith, nat_tests) in
    past-by c.args.core.now c.args.client c.in-Some.own c.requires.stands _ c.session.ensures.session c.session.ensures.client (c.in-Some.own, c.in-Some.field-0-1.now) c.in-Some.ensures.next t

pub returns-in-None-clause-from : goal.returns-in-None-clause-from
returns-in-None-clause-from c = λ phase.
    past-none c.args.core.now c.args.client phase c.requires.stands _ c.session.ensures.session c.session.ensures.client (λ lt. (let e : false ≡ true = c.in-None.ensures.left.1 lt in cc))
