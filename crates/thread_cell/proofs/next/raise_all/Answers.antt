use Rattle.std.proofs.Common.{◌<◌, ◌+◌, ℕ, length, get_or, sym, ◌∙◌, arith}
use Rattle.thread_cell.specs.Cell.{CellParts}
use Rattle.thread_cell.specs.Relinking.{HasRaised}
use Rattle.thread_cell.proofs.Places.{found, below-found}
use Rattle.thread_cell.proofs.Onward.{same-step, set-step, left-step, below-next}
use Rattle.thread_cell.proofs.next.raise_all.Goals as goal

pub enter_phase-requires-clause-clock : goal.enter_phase-requires-clause-clock
enter_phase-requires-clause-clock c =
    let long = c.loop-k.invariant.same.long in
    let lt : c.loop-k.k < length c.args.cells.now = omega (arith, c.loop-k-test.true) in
    (c.requires.can c.loop-k.k (get_or c.loop-k.cells c.loop-k.k c.index-cells-k.result) (sym (c.loop-k.invariant.left c.loop-k.k (omega arith)) ∙ found c.loop-k.cells c.loop-k.k c.index-cells-k.result (omega (arith, lt, long)))).not_above

pub enter_phase-requires-clause-phase : goal.enter_phase-requires-clause-phase
enter_phase-requires-clause-phase c =
    let long = c.loop-k.invariant.same.long in
    let lt : c.loop-k.k < length c.args.cells.now = omega (arith, c.loop-k-test.true) in
    (c.requires.can c.loop-k.k (get_or c.loop-k.cells c.loop-k.k c.index-cells-k.result) (sym (c.loop-k.invariant.left c.loop-k.k (omega arith)) ∙ found c.loop-k.cells c.loop-k.k c.index-cells-k.result (omega (arith, lt, long)))).not_later

pub enter_phase-requires-clause-through : goal.enter_phase-requires-clause-through
enter_phase-requires-clause-through c =
    let long = c.loop-k.invariant.same.long in
    let lt : c.loop-k.k < length c.args.cells.now = omega (arith, c.loop-k-test.true) in
    (c.requires.can c.loop-k.k (get_or c.loop-k.cells c.loop-k.k c.index-cells-k.result) (sym (c.loop-k.invariant.left c.loop-k.k (omega arith)) ∙ found c.loop-k.cells c.loop-k.k c.index-cells-k.result (omega (arith, lt, long)))).through

pub enter_phase-requires-clause-tree : goal.enter_phase-requires-clause-tree
enter_phase-requires-clause-tree c =
    let long = c.loop-k.invariant.same.long in
    let lt : c.loop-k.k < length c.args.cells.now = omega (arith, c.loop-k-test.true) in
    (c.requires.can c.loop-k.k (get_or c.loop-k.cells c.loop-k.k c.index-cells-k.result) (sym (c.loop-k.invariant.left c.loop-k.k (omega arith)) ∙ found c.loop-k.cells c.loop-k.k c.index-cells-k.result (omega (arith, lt, long)))).tree

pub loop-k-preserved : goal.loop-k-preserved
loop-k-preserved c =
    let long = c.loop-k.invariant.same.long in
    let lt : c.loop-k.k < length c.args.cells.now = omega (arith, c.loop-k-test.true) in
    let within : c.loop-k.k < length c.loop-k.cells = omega (arith, lt, long) in
    let Raises : ℕ → ℕ → CellParts → CellParts → Type 0 = λ n j a b. j < n → HasRaised c.args.phase c.args.clock a b in
    record {
      same = same-step c.args.cells.now c.loop-k.cells c.loop-k.k c.index-cells-k.result c.enter_phase.new.self within (c.loop-k.invariant.left c.loop-k.k (omega arith))
          (record { net = c.enter_phase.ensures.entered.net; server = c.enter_phase.ensures.entered.server; keeps = c.enter_phase.ensures.entered.keeps; viewer = c.enter_phase.ensures.entered.viewer; journal = c.enter_phase.ensures.journal }) c.loop-k.invariant.same;
      raised = λ j a b less ea eb.
          set-step (Raises c.loop-k.k) (Raises (c.loop-k.k + 1)) c.args.cells.now c.loop-k.cells c.loop-k.k c.index-cells-k.result c.enter_phase.new.self within (c.loop-k.invariant.left c.loop-k.k (omega arith))
          (λ now. record { entered = c.enter_phase.ensures.entered; core = c.enter_phase.ensures.core; lanes = c.enter_phase.ensures.lanes })
          (λ i a b other before less. before (below-next i c.loop-k.k less other))
          (λ i a b ea eb less. c.loop-k.invariant.raised i a b less ea eb)
          j a b ea eb less;
      left = left-step c.args.cells.now c.loop-k.cells c.loop-k.k c.enter_phase.new.self c.loop-k.invariant.left;
    }

pub returns-clause-raised : goal.returns-clause-raised
returns-clause-raised c k a b ea eb =
    let lt = below-found k c.args.cells.now a ea in
    c.loop-k.invariant.raised k a b (omega (arith, lt, c.loop-k-test.false)) ea eb
