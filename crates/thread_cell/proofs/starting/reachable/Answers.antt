use Rattle.std.proofs.Common.{◌≡◌, ◌++◌, ◌∷◌, [], sym, ap, ◌∙◌, arith}
use Rattle.std.specs.List.{range_with_len}
use Rattle.thread_cell.specs.Kept.{clients_among}
use Rattle.thread_cell.proofs.Reached.{range-more, reachable}
use Rattle.thread_cell.proofs.starting.reachable.Goals as goal

pub loop-link-preserved : goal.loop-link-preserved
loop-link-preserved c = c.in_ok-push.ensures.items ∙ ap (λ l. l ++ c.loop-link.link ∷ []) c.loop-link.invariant ∙ ap (λ n. range_with_len 0 c.loop-link.link ++ n ∷ []) (omega arith) ∙ sym (range-more 0 c.loop-link.link)

pub returns : goal.returns
returns c =
    let end : c.loop-link.link ≡ 65 = omega (arith, c.loop-link-test.false) in
    reachable c.args.core.now.interfaces c.put_above.new.all.items c.interfaces.ensures.rising c.interfaces.ensures.low
    (c.in_ok-put_above.ensures ∙ ap (λ l. l ++ clients_among c.interfaces.result.now) (c.loop-link.invariant ∙ ap (range_with_len 0) end) ∙ ap (λ l. range_with_len 0 65 ++ clients_among l) c.interfaces.ensures.interfaces)
