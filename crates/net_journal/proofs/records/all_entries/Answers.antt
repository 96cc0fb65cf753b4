use Rattle.std.proofs.Common.{◌≡◌, ◌∷◌, true, All, suc, subst, arith, rules}
use Rattle.std.proofs.lemmas.Grind.{common_steps}
use Rattle.net_journal.proofs.records.all_entries.Goals as goal

rest : (c : goal.In_ok-push) → c.loop-journal.journal-iterator.rest.items ≡ c.in-Some.journal ∷ c.next.new.self.rest.items
rest c = search rules

pub loop-journal-preserved : goal.loop-journal-preserved
loop-journal-preserved c =
    let h : All (λ journal. journal.kept ≡ true) (c.in-Some.journal ∷ c.next.new.self.rest.items) = subst (All (λ journal. journal.kept ≡ true)) (rest c) c.loop-journal.invariant.1 in
    (grind (arith, common_steps, c.loop-journal.invariant.0), λ k d lt. h (suc k) d (omega (arith, lt)))
