use Rattle.std.proofs.Common.{◌≡◌, nat_le, ◌++◌, [], ◌∷◌, take, get_or, true, false, sym, ap, ◌∙◌, append_assoc, arith}
use Rattle.std.proofs.lemmas.List.{append-nil}
use Rattle.std.proofs.lemmas.Option.{slice_get-get_or}
use Rattle.std.proofs.lemmas.Bool.Decides.{nat_tests}
use Rattle.server_spec.proofs.Taken.{take-all}
use Rattle.thread_cell.specs.Kept.{clients_among}
use Rattle.thread_cell.proofs.Reached.{taken-client}
use Rattle.thread_cell.proofs.starting.put_above.Goals as goal
use Rattle.thread_cell.proofs.starting.put_above.Goals.{then-not-is_link+in_ok-push, else-not-is_link}

pub loop-interface-preserved : goal.loop-interface-preserved
loop-interface-preserved c =
    let x = get_or c.args.interfaces.now c.loop-interface.interface-index 0 in
    let at = slice_get-get_or c.args.interfaces.now c.loop-interface.interface-index 0 c.loop-interface-test.true in
    let l : c.is_link.result ≡ nat_le x 64 = c.is_link.ensures in
    elim c.if-not-is_link.branch [
      | then-not-is_link+in_ok-push w ↦
          (let n = w.if-not-is_link.true in
          rw w.all-is (w.in_ok-push.ensures.items ∙ ap (λ l. l ++ x ∷ []) c.loop-interface.invariant ∙ append_assoc c.args.all.now.items (clients_among (take c.loop-interface.interface-index c.args.interfaces.now)) (x ∷ [])
          ∙ ap (λ l. c.args.all.now.items ++ l) (sym (taken-client c.args.interfaces.now c.loop-interface.interface-index x at true (grind (arith, nat_tests, n, l))))))
      | else-not-is_link w ↦
          (let n = w.if-not-is_link.false in
          rw w.all-is (c.loop-interface.invariant ∙ ap (λ l. c.args.all.now.items ++ l) (sym (append-nil (clients_among (take c.loop-interface.interface-index c.args.interfaces.now))) ∙ sym (taken-client c.args.interfaces.now c.loop-interface.interface-index x at false (grind (arith, nat_tests, n, l))))))
    ]

pub returns : goal.returns
returns c = c.loop-interface.invariant ∙ ap (λ l. c.args.all.now.items ++ clients_among l) (take-all c.args.interfaces.now c.loop-interface.interface-index c.loop-interface-test.false)
