use Rattle.std.proofs.Common.{ℕ, ◌-◌, subst, arith}
use Rattle.thread_cell.specs.Links.{IsNeighbour}
use Rattle.thread_cell.proofs.Gathered.{map-found, numbered, among, has-place, lane-of}
use Rattle.thread_cell.proofs.Emptied.{as-many-links}
use Rattle.thread_cell.specs.Cell.{CellParts}
use Rattle.thread_cell.proofs.finish.giver_of.Goals as goal
use Rattle.base.proofs.Lists.{get-get_or}

pub neighbour-requires : goal.neighbour-requires
neighbour-requires c =
    let at = get-get_or c.args.cells.now c.args.taker c.index-cells-taker.result c.requires.taker c.index-cells-taker.is in
    let b = map-found (λ (h : CellParts). h.root) c.args.taker c.args.cells.now c.index-cells-taker.result at in
    let n = as-many-links c.args.cells.now c.args.taker c.index-cells-taker.result at c.lemma_kept.ensures c.index-cells-taker.result.root b in
    let lt = c.requires.from c.index-cells-taker.result.root b in
    omega arith

pub overflow_sub-giver : goal.overflow_sub-giver
overflow_sub-giver c = numbered c.requires.together.0 c.requires.together.1 c.args.cells.now c.requires.together.2 c.args.taker c.args.from c.neighbour.result c.index-cells-taker.result (get-get_or c.args.cells.now c.args.taker c.index-cells-taker.result c.requires.taker c.index-cells-taker.is) c.lemma_kept.ensures c.neighbour.ensures

pub offset_bounds-cells-giver : goal.offset_bounds-cells-giver
offset_bounds-cells-giver c = let a = among c.requires.together.0 c.requires.together.1 c.args.cells.now c.requires.together.2 c.args.taker c.args.from c.neighbour.result c.index-cells-taker.result (get-get_or c.args.cells.now c.args.taker c.index-cells-taker.result c.requires.taker c.index-cells-taker.is) c.lemma_kept.ensures c.neighbour.ensures in omega arith

pub bounds-cells-giver : goal.bounds-cells-giver
bounds-cells-giver c = among c.requires.together.0 c.requires.together.1 c.args.cells.now c.requires.together.2 c.args.taker c.args.from c.neighbour.result c.index-cells-taker.result (get-get_or c.args.cells.now c.args.taker c.index-cells-taker.result c.requires.taker c.index-cells-taker.is) c.lemma_kept.ensures c.neighbour.ensures

pub unreachable-requires : goal.unreachable-requires
unreachable-requires c =
    let inside = among c.requires.together.0 c.requires.together.1 c.args.cells.now c.requires.together.2 c.args.taker c.args.from c.neighbour.result c.index-cells-taker.result (get-get_or c.args.cells.now c.args.taker c.index-cells-taker.result c.requires.taker c.index-cells-taker.is) c.lemma_kept.ensures c.neighbour.ensures in
    has-place c.requires.together.0 c.requires.together.1 c.args.cells.now c.requires.together.2 c.args.taker c.args.from c.neighbour.result c.index-cells-taker.result (get-get_or c.args.cells.now c.args.taker c.index-cells-taker.result c.requires.taker c.index-cells-taker.is) c.lemma_kept.ensures c.neighbour.ensures c.index-cells-giver.result (get-get_or c.args.cells.now (c.neighbour.result - 1) c.index-cells-giver.result inside c.index-cells-giver.is) c.lemma_kept-2.ensures (subst (λ n. (q : ℕ) → IsNeighbour q n c.index-cells-giver.result.held.links.items → ⊥) c.number.ensures c.in_default.ensures.none)

pub returns : goal.returns
returns c =
    let inside = among c.requires.together.0 c.requires.together.1 c.args.cells.now c.requires.together.2 c.args.taker c.args.from c.neighbour.result c.index-cells-taker.result (get-get_or c.args.cells.now c.args.taker c.index-cells-taker.result c.requires.taker c.index-cells-taker.is) c.lemma_kept.ensures c.neighbour.ensures in
    lane-of c.requires.together.0 c.requires.together.1 c.args.cells.now c.requires.together.2 c.args.taker c.args.from c.neighbour.result c.index-cells-taker.result (get-get_or c.args.cells.now c.args.taker c.index-cells-taker.result c.requires.taker c.index-cells-taker.is) c.lemma_kept.ensures c.neighbour.ensures c.index-cells-giver.result (get-get_or c.args.cells.now (c.neighbour.result - 1) c.index-cells-giver.result inside c.index-cells-giver.is) c.lemma_kept-2.ensures _ (subst (λ n. IsNeighbour c.in-Some.to n c.index-cells-giver.result.held.links.items) c.number.ensures c.in-Some.ensures.some)
