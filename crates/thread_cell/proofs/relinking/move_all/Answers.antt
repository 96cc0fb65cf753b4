use Rattle.std.proofs.Common.{◌≡◌, ◌<◌, ◌+◌, ℕ, List, length, map, get_or, Some, slice_get, Vec, Global, refl, sym, ap, subst, ◌∙◌, arith}
use Rattle.std.proofs.lemmas.Option.{slice_get_read, same_Some}
use Rattle.server_control.specs.Held.{NetHeld, held_in, AreHeldIn}
use Rattle.thread_cell.specs.declared.link.Link.{Link}
use Rattle.thread_cell.specs.Cell.{CellParts}
use Rattle.thread_cell.specs.Relinking.{CanMove, HasMoved}
use Rattle.thread_cell.proofs.Places.{found, below-found}
use Rattle.thread_cell.proofs.Filled.{row-is, rest-set}
use Rattle.thread_cell.proofs.Onward.{same-step, set-step, left-step, below-next}
use Rattle.thread_cell.proofs.relinking.move_all.Goals as goal
use Rattle.std.proofs.lemmas.List.{length-set}

pub enter_on-requires-clause-can : goal.enter_on-requires-clause-can
enter_on-requires-clause-can g c =
    let long = c.loop-k.invariant.same.long in
    let lt : c.loop-k.k < length c.args.cells.now = omega (arith, c.loop-k-test.true) in
    let most = c.requires.given in
    let rows = c.requires.rows in
    let left = c.loop-k.invariant.long in
    let at = sym (c.loop-k.invariant.left c.loop-k.k (omega arith)) ∙ found c.loop-k.cells c.loop-k.k c.index-cells-k.result (omega (arith, lt, long)) in
    let links = slice_get_read c.args.given.now (length c.args.given.now) c.loop-k.k c.index-given-k.result refl (omega (arith, lt, most)) c.index-given-k.is in
    let row : slice_get (map (λ r. r.items) c.args.rows.items) c.loop-k.k ≡ Some c.replace-links.result.items =
    row-is (λ r. r.items) c.loop-k.rows.items c.args.rows.items c.loop-k.k c.index_mut.result.now (omega (arith, lt, rows)) (omega (arith, lt, rows, left)) c.loop-k.invariant.rest
    ∙ ap (λ r. Some r.items) (sym c.index_mut.ensures.value ∙ sym c.replace-links.ensures.value) in
    subst (λ l. CanMove c.args.phase c.args.clock (held_in l) c.replace-links.result.items (get_or c.loop-k.cells c.loop-k.k c.index-cells-k.result)) (sym c.deref.ensures.value) (c.requires.can c.loop-k.k _ c.index-given-k.result c.replace-links.result.items at links row)

pub enter_on-requires-clause-net : goal.enter_on-requires-clause-net
enter_on-requires-clause-net g c =
    let long = c.loop-k.invariant.same.long in
    let lt : c.loop-k.k < length c.args.cells.now = omega (arith, c.loop-k-test.true) in
    let most = c.requires.given in
    let at = sym (c.loop-k.invariant.left c.loop-k.k (omega arith)) ∙ found c.loop-k.cells c.loop-k.k c.index-cells-k.result (omega (arith, lt, long)) in
    let links = slice_get_read c.args.given.now (length c.args.given.now) c.loop-k.k c.index-given-k.result refl (omega (arith, lt, most)) c.index-given-k.is in
    subst (λ l. AreHeldIn (get_or c.loop-k.cells c.loop-k.k c.index-cells-k.result).root.net.value l) (sym c.deref.ensures.value) (c.requires.net c.loop-k.k _ c.index-given-k.result at links)

pub returns-in_err-enter_on-clause-same : goal.returns-in_err-enter_on-clause-same
returns-in_err-enter_on-clause-same g c =
    let long = c.loop-k.invariant.same.long in
    let lt : c.loop-k.k < length c.args.cells.now = omega (arith, c.loop-k-test.true) in
    same-step c.args.cells.now c.loop-k.cells c.loop-k.k c.index-cells-k.result c.enter_on.new.self (omega (arith, lt, long)) (c.loop-k.invariant.left c.loop-k.k (omega arith)) c.enter_on.ensures.same c.loop-k.invariant.same

pub loop-k-preserved : goal.loop-k-preserved
loop-k-preserved g c =
    let long = c.loop-k.invariant.same.long in
    let lt : c.loop-k.k < length c.args.cells.now = omega (arith, c.loop-k-test.true) in
    let most = c.requires.given in
    let rows = c.requires.rows in
    let left = c.loop-k.invariant.long in
    let within : c.loop-k.k < length c.loop-k.cells = omega (arith, lt, long) in
    let links = slice_get_read c.args.given.now (length c.args.given.now) c.loop-k.k c.index-given-k.result refl (omega (arith, lt, most)) c.index-given-k.is in
    let row : slice_get (map (λ r. r.items) c.args.rows.items) c.loop-k.k ≡ Some c.replace-links.result.items =
    row-is (λ r. r.items) c.loop-k.rows.items c.args.rows.items c.loop-k.k c.index_mut.result.now (omega (arith, lt, rows)) (omega (arith, lt, rows, left)) c.loop-k.invariant.rest
    ∙ ap (λ r. Some r.items) (sym c.index_mut.ensures.value ∙ sym c.replace-links.ensures.value) in
    let Moves : ℕ → ℕ → CellParts → CellParts → Type 0 = λ n j a b. j < n → (held : Vec NetHeld Global) (lanes : List Link) → slice_get c.args.given.now j ≡ Some held → slice_get (map (λ r. r.items) c.args.rows.items) j ≡ Some lanes
    → HasMoved c.args.phase c.args.clock (held_in held.items) lanes a b in
    record {
      same = same-step c.args.cells.now c.loop-k.cells c.loop-k.k c.index-cells-k.result c.enter_on.new.self within (c.loop-k.invariant.left c.loop-k.k (omega arith)) c.enter_on.ensures.same c.loop-k.invariant.same;
      moved = λ j a b held lanes less ea eb f r.
          set-step (Moves c.loop-k.k) (Moves (c.loop-k.k + 1)) c.args.cells.now c.loop-k.cells c.loop-k.k c.index-cells-k.result c.enter_on.new.self within (c.loop-k.invariant.left c.loop-k.k (omega arith))
          (λ now held lanes f r.
          subst (λ l. HasMoved c.args.phase c.args.clock (held_in l) lanes (get_or c.loop-k.cells c.loop-k.k c.index-cells-k.result) c.enter_on.new.self) (c.deref.ensures.value ∙ ap (λ (v : Vec NetHeld Global). v.items) (same_Some c.index-given-k.result held (sym links ∙ f)))
          (subst (λ l. HasMoved c.args.phase c.args.clock (held_in c.deref.result.now) l (get_or c.loop-k.cells c.loop-k.k c.index-cells-k.result) c.enter_on.new.self) (same_Some c.replace-links.result.items lanes (sym row ∙ r)) c.in_ok-enter_on.ensures.moved))
          (λ i a b other before less held lanes f r. before (below-next i c.loop-k.k less other) held lanes f r)
          (λ i a b ea eb less held lanes f r. c.loop-k.invariant.moved i a b held lanes less ea eb f r)
          j a b ea eb less held lanes f r;
      left = left-step c.args.cells.now c.loop-k.cells c.loop-k.k c.enter_on.new.self c.loop-k.invariant.left;
      rest = rest-set (λ r. r.items) c.loop-k.rows.items c.args.rows.items c.loop-k.k _ c.loop-k.invariant.rest;
      long = length-set c.loop-k.rows.items c.loop-k.k _ ∙ c.loop-k.invariant.long;
    }

pub returns-clause-moved : goal.returns-clause-moved
returns-clause-moved g c k a b links row ea eb f r =
    let lt = below-found k c.args.cells.now a ea in
    c.loop-k.invariant.moved k a b links row (omega (arith, lt, c.loop-k-test.false)) ea eb f r
