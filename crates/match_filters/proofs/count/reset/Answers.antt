use Rattle.std.proofs.Common.{◌/◌, ◌%◌, ◌∙◌, inl, inr, refl, ap, arith}
use Rattle.std.proofs.lemmas.Bool.{cases_lt}
use Rattle.std.proofs.lemmas.List.{get_or_past}
use Rattle.match_cells.specs.declared.counts.Counts.{Counts}
use Rattle.match_cells.specs.Counts.{count_at}
use Rattle.match_cells.proofs.Adding.{count-zero}
use Rattle.match_filters.proofs.count.reset.Goals as goal

pub returns-clause-none : goal.returns-clause-none
returns-clause-none c k =
    let none : Counts = record { ones = 0; twos = 0; fours = 0; eights = 0; sixteens = 0 } in
    let new = c.resize.new.self.items in
    elim (cases_lt (k / 64) c.args.span) [
      | inl l ↦ ap (λ (x : Counts). count_at x (k % 64)) (c.in_ok-resize.ensures.by_index.1 (k / 64) none refl (omega (arith, c.clear.ensures.len)) l) ∙ c.zero.ensures (k % 64)
      | inr l ↦ ap (λ (x : Counts). count_at x (k % 64)) (get_or_past new (k / 64) none (omega (arith, l, c.in_ok-resize.ensures.len))) ∙ count-zero (k % 64)
    ]
