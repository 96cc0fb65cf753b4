use Rattle.std.proofs.Common.{◌≡◌, Err, arith}
use Rattle.std.proofs.lemmas.Grind.{common_steps}
use Rattle.program_sequential.proofs.Ended.{if-ok, no-refusal, without-net, done-without-net, net-at-fault, turn-at-fault, net-refused, net-done}
use Rattle.program_sequential.proofs.printed.of_document.Goals as goal

pub returns-in_err-net-clause-bad : goal.returns-in_err-net-clause-bad
returns-in_err-net-clause-bad c = λ line kind e.
    net-at-fault c.args.query c.args.bytes.now line kind (c.in_err-net.ensures.bad line kind (grind (arith, common_steps, e, c.from_residual.ensures.1)))

pub returns-in_err-net-clause-refused : goal.returns-in_err-net-clause-refused
returns-in_err-net-clause-refused c = λ line kind m.
    let s : c.from_residual.result ≡ Err c.in_err-net.field-0.0 = grind (arith, common_steps, c.from_residual.ensures.1) in
    without-net c.args.bytes.now c.in_err-net.field-0.0 c.from_residual.result s c.in_err-net.ensures.given c.in_err-net.ensures.refused c.args.query line kind m

pub returns-in_err-net-clause-done : goal.returns-in_err-net-clause-done
returns-in_err-net-clause-done c = λ d.
    let s : c.from_residual.result ≡ Err c.in_err-net.field-0.0 = grind (arith, common_steps, c.from_residual.ensures.1) in
    done-without-net c.args.bytes.now c.in_err-net.field-0.0 c.from_residual.result s c.in_err-net.ensures.given c.args.query d

pub returns-clause-printed : goal.returns-clause-printed
returns-clause-printed c = if-ok c.of_net.result _ _ (λ p h. h c.args.bytes.now c.in_ok-net.ensures.net) c.of_net.ensures.printed

pub returns-clause-bad : goal.returns-clause-bad
returns-clause-bad c = λ line kind e.
    turn-at-fault c.of_net.result c.args.bytes.now c.in_ok-net.net c.in_ok-net.ensures.net c.args.query line kind (c.of_net.ensures.bad line kind e)

pub returns-clause-refused : goal.returns-clause-refused
returns-clause-refused c = λ line kind m.
    net-refused c.of_net.result c.args.bytes.now c.in_ok-net.net c.in_ok-net.ensures.net c.args.query line kind
    (λ b. no-refusal c.in_ok-net.net line kind (c.in_ok-net.ensures.refused line kind b)) c.of_net.ensures.permitted c.of_net.ensures.bad m

pub returns-clause-done : goal.returns-clause-done
returns-clause-done c = λ d.
    net-done c.of_net.result c.args.bytes.now c.in_ok-net.net c.in_ok-net.ensures.net c.args.query c.of_net.ensures.bad d
