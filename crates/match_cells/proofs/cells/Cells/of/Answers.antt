use Rattle.std.proofs.Common.{◌+◌, ◌*◌, ◌∙◌, List, [], ◌∷◌, ℕ, ap, sym, subst, length, arith}
use Rattle.std.proofs.lemmas.List.{with_items_is}
use Rattle.match_cells.specs.Cells.{AreTold}
use Rattle.match_cells.specs.Walks.{IsCounted}
use Rattle.match_cells.proofs.cells.Cells.of.Goals as goal

pub loop-c-init : goal.loop-c-init
loop-c-init c =
    let w = with_items_is c.in_ok-lost.lost c.begin.new.lost (omega arith) in (
      omega (arith, ap length w, c.in_ok-history.ensures.length, c.deref_mut.ensures.len, c.in_ok-lost.ensures.len),
      c.in_ok-history.ensures.wide,
      subst (λ (z : List ℕ). IsCounted c.args.groups.now 0 z c.in_ok-history.history) (sym w) c.in_ok-history.ensures.counted,
      ap length c.in_ok-ends.ensures.items,
      subst (λ (z : List ℕ). AreTold c.args.groups.now c.in_ok-history.history z) (sym (c.in_ok-ends.ensures.items ∙ ap (λ (n : ℕ). n ∷ []) c.len.ensures)) c.in_ok-history.ensures.told,
    )

pub loop-c-preserved : goal.loop-c-preserved
loop-c-preserved c =
    let w = with_items_is c.loop-c.lost c.pass.new.lost (omega arith) in (
      omega (arith, ap length w, c.in_ok-pass.ensures.length, c.deref_mut-in-loop-c.ensures.len, c.loop-c.invariant.0),
      c.in_ok-pass.ensures.first ∙ c.loop-c.invariant.1,
      subst (λ (z : List ℕ). IsCounted c.args.groups.now (2 * (c.loop-c.c + 1)) z c.pass.new.history) (sym w) c.in_ok-pass.ensures.counted,
      c.in_ok-pass.ensures.long,
      c.in_ok-pass.ensures.told,
    )
