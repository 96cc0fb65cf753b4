use Rattle.std.proofs.Common.{◌≡◌, All, [], ◌∷◌, Some, sym, subst, ap, ◌∙◌, ◌++◌}
use Rattle.atomic_table.specs.Table.{opening}
use Rattle.thread_lock.specs.Rule.{Kept, opener, view_in}
use Rattle.thread_lock.specs.Passes.{IsFresh}
use Rattle.thread_lock.proofs.Keeps.{open_keeps}
use Rattle.thread_lock.proofs.lock.TurnLock.make.Goals as goal

pub new-requires : goal.new-requires
new-requires g c = let root = g.T.Standing.root in let list = g.T.Standing.list in let n = c.args.passes in
    let is : c.of.result.value ≡ c.args.value = c.of.ensures in
    let slots : c.push_reserved.new.self.items ≡ Some c.args.value ∷ [] = c.push_reserved.ensures.items ∙ ap (λ l. l ++ Some c.args.value ∷ []) c.in-Ok-with_capacity.ensures.items in
    subst (λ y. Kept root list (root y) n (opening (0 ∷ []) c.push_reserved.new.self.items (opener (root y) (list y) n))) (sym is)
    (subst (λ s. Kept root list (root c.args.value) n (opening (0 ∷ []) s (opener (root c.args.value) (list c.args.value) n))) (sym slots) (open_keeps root list n c.args.value))

pub returns-in-Ok-new-clause-passes : goal.returns-in-Ok-new-clause-passes
returns-in-Ok-new-clause-passes g c = let root = g.T.Standing.root in let list = g.T.Standing.list in
    let is : c.in-Ok-new.table.shared.key.value.value ≡ c.args.value = ap (λ k. k.value.value) c.in-Ok-new.ensures.ok.5 ∙ c.of.ensures in
    subst (λ y. All (λ p. ((p.badge.table_id ≡ c.in-Ok-new.table.shared.table_id) × ((view_in p.badge.views).root ≡ Some (root c.in-Ok-new.table.shared.key.value.value))) × IsFresh (list y) p) c.split_off-made.result.items) is c.split_off-made.ensures.passes
