use Rattle.std.proofs.Common.{◌++◌, ◌∷◌, [], ◌+◌, map, ap, sym, subst, ◌∙◌}
use Rattle.std.proofs.lemmas.List.{map-append}
use Rattle.thread_cell.specs.Lanes.{AreNone}
use Rattle.thread_cell.proofs.Rows.{none-more}
use Rattle.thread_cell.proofs.lanes.rows_for.Goals as goal

pub loop-preserved : goal.loop-preserved
loop-preserved c =
    subst (λ l. AreNone (c.loop.counter + 1) l)
    (ap (λ l. map (λ r. r.items) c.loop.rows.items ++ l ∷ []) (sym c.new.ensures.items) ∙ sym (map-append (λ r. r.items) c.loop.rows.items (c.new.result ∷ [])) ∙ ap (map (λ r. r.items)) (sym c.in_ok-push.ensures.items))
    (none-more c.loop.counter _ c.loop.invariant)
