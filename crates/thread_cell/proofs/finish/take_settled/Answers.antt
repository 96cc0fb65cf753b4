use Rattle.std.proofs.Common.{◌<◌, length, get_or, set, sym, subst, ◌∙◌, arith}
use Rattle.std.proofs.lemmas.Grind.{common_steps}
use Rattle.std.proofs.lemmas.Option.{same_Some}
use Rattle.thread_cell.proofs.Places.{found, set-found}
use Rattle.thread_cell.proofs.Splits.{map-set}
use Rattle.thread_cell.specs.Cell.{CellParts}
use Rattle.thread_cell.proofs.Emptied.{same-roots, same-count, roots-count, lane-by-roots, take-idle, takes-now, place-now}
use Rattle.thread_cell.proofs.Worn.{worn-taken}
use Rattle.thread_cell.proofs.Growing.{grown-on, grown-sights, grown-set}
use Rattle.thread_cell.proofs.finish.take_settled.Goals as goal

pub returns-in_err-settle_two-clause-roots : goal.returns-in_err-settle_two-clause-roots
returns-in_err-settle_two-clause-roots g c = same-roots _ _ c.settle_two.ensures.sights

pub take_from_place-requires : goal.take_from_place-requires
take_from_place-requires g c =
    let n = same-count _ _ c.settle_two.ensures.sights in
    let lt : c.args.taker < length c.settle_two.new.all = omega (arith, n, c.requires.taker) in
    let y = found c.settle_two.new.all c.args.taker c.index-cells-taker.result lt in
    let named = takes-now c.args.cells.now c.settle_two.new.all c.giver_of-giver.result.0 c.giver_of-giver.result.1 c.args.taker c.args.from c.giver_of-giver.ensures c.settle_two.ensures.sights (get_or c.settle_two.new.all c.args.taker c.index-cells-taker.result) y in
    subst (λ (h : CellParts). c.args.from < length h.held.links.items) (same_Some _ _ (sym y ∙ found c.settle_two.new.all c.args.taker c.index-cells-taker-2.result lt))
    (place-now (get_or c.settle_two.new.all c.args.taker c.index-cells-taker.result) c.args.from _ c.lemma_kept-2.ensures named)

pub returns-in_default-clause-roots : goal.returns-in_default-clause-roots
returns-in_default-clause-roots g c =
    let n = same-count _ _ c.settle_two.ensures.sights in
    map-set (λ (h : CellParts). h.root) c.settle_two.new.all c.args.taker c.index-cells-taker-2.result c.take_from_place.new.self (omega (arith, n, c.requires.taker)) c.take_from_place.ensures.root
    ∙ same-roots _ _ c.settle_two.ensures.sights

pub returns-in_default-2-clause-roots : goal.returns-in_default-2-clause-roots
returns-in_default-2-clause-roots g c =
    let n = same-count _ _ c.settle_two.ensures.sights in
    map-set (λ (h : CellParts). h.root) c.settle_two.new.all c.args.taker c.index-cells-taker-2.result c.take_from_place.new.self (omega (arith, n, c.requires.taker)) c.take_from_place.ensures.root
    ∙ same-roots _ _ c.settle_two.ensures.sights

pub returns-in_default-2-clause-idle : goal.returns-in_default-2-clause-idle
returns-in_default-2-clause-idle g c =
    let n = same-count _ _ c.settle_two.ensures.sights in
    let lt : c.args.taker < length c.settle_two.new.all = omega (arith, n, c.requires.taker) in
    let within : c.giver_of-giver.result.0 < length c.settle_two.new.all = omega (arith, n, c.giver_of-giver.ensures.within) in
    take-idle c.args.cells.now c.settle_two.new.all c.giver_of-giver.result.0 c.giver_of-giver.result.1 c.args.taker c.args.from c.giver_of-giver.ensures c.settle_two.ensures.sights (get_or c.settle_two.new.all c.giver_of-giver.result.0 c.index-cells-giver.result) (get_or c.settle_two.new.all c.args.taker c.index-cells-taker.result) c.index-cells-taker-2.result c.take_from_place.new.self c.take_from_place.result lt
    (found c.settle_two.new.all c.giver_of-giver.result.0 c.index-cells-giver.result within) (found c.settle_two.new.all c.args.taker c.index-cells-taker.result lt) c.lemma_kept.ensures c.lemma_kept-2.ensures c.in_ok-settle_two.ensures.settled c.take_from_place.ensures.idle

pub settle_two-requires-in-Err-StampsExhausted-clause-lane : goal.settle_two-requires-in-Err-StampsExhausted-clause-lane
settle_two-requires-in-Err-StampsExhausted-clause-lane g c =
    let n = same-count _ _ c.settle_two.ensures.sights in
    lane-by-roots c.args.cells.now (set c.settle_two.new.all c.args.taker c.take_from_place.new.self) c.giver_of-giver.result.0 c.giver_of-giver.result.1 c.args.taker c.args.from
    (map-set (λ (h : CellParts). h.root) c.settle_two.new.all c.args.taker c.index-cells-taker-2.result c.take_from_place.new.self (omega (arith, n, c.requires.taker)) c.take_from_place.ensures.root ∙ same-roots _ _ c.settle_two.ensures.sights) c.giver_of-giver.ensures.lane

pub returns-in_err-settle_two-in-Err-StampsExhausted-clause-roots : goal.returns-in_err-settle_two-in-Err-StampsExhausted-clause-roots
returns-in_err-settle_two-in-Err-StampsExhausted-clause-roots g c =
    let n = same-count _ _ c.settle_two.ensures.sights in
    same-roots _ _ c.settle_two-in-Err-StampsExhausted.ensures.sights ∙ map-set (λ (h : CellParts). h.root) c.settle_two.new.all c.args.taker c.index-cells-taker-2.result c.take_from_place.new.self (omega (arith, n, c.requires.taker)) c.take_from_place.ensures.root ∙ same-roots _ _ c.settle_two.ensures.sights

pub returns-in_ok-settle_two-in-Err-StampsExhausted-clause-roots : goal.returns-in_ok-settle_two-in-Err-StampsExhausted-clause-roots
returns-in_ok-settle_two-in-Err-StampsExhausted-clause-roots g c =
    let n = same-count _ _ c.settle_two.ensures.sights in
    same-roots _ _ c.settle_two-in-Err-StampsExhausted.ensures.sights ∙ map-set (λ (h : CellParts). h.root) c.settle_two.new.all c.args.taker c.index-cells-taker-2.result c.take_from_place.new.self (omega (arith, n, c.requires.taker)) c.take_from_place.ensures.root ∙ same-roots _ _ c.settle_two.ensures.sights

pub returns-in_ok-settle_two-in-Err-StampsExhausted-clause-worn : goal.returns-in_ok-settle_two-in-Err-StampsExhausted-clause-worn
returns-in_ok-settle_two-in-Err-StampsExhausted-clause-worn g c s e =
    let n = same-count _ _ c.settle_two.ensures.sights in
    let lt : c.args.taker < length c.settle_two.new.all = omega (arith, n, c.requires.taker) in
    let r = same-roots _ _ c.settle_two-in-Err-StampsExhausted.ensures.sights ∙ map-set (λ (h : CellParts). h.root) c.settle_two.new.all c.args.taker c.index-cells-taker-2.result c.take_from_place.new.self lt c.take_from_place.ensures.root ∙ same-roots _ _ c.settle_two.ensures.sights in
    let within : c.giver_of-giver.result.0 < length c.settle_two-in-Err-StampsExhausted.new.all = omega (arith, roots-count _ _ r, c.giver_of-giver.ensures.within) in
    let w = c.in-Err-StampsExhausted.ensures.worn s (grind (arith, common_steps, e, c.in-Err-StampsExhausted.field-0-is)) in
    worn-taken (set c.settle_two.new.all c.args.taker c.take_from_place.new.self) c.settle_two-in-Err-StampsExhausted.new.all c.giver_of-giver.result.0 c.giver_of-giver.result.1 c.args.taker c.args.from s c.take_from_place.new.self (get_or c.settle_two-in-Err-StampsExhausted.new.all c.giver_of-giver.result.0 c.index-cells-giver-in-Err-StampsExhausted.result)
    c.settle_two-in-Err-StampsExhausted.ensures.sights (set-found c.settle_two.new.all c.args.taker c.take_from_place.new.self lt) w.1 c.in_ok-settle_two-in-Err-StampsExhausted.ensures.settled c.settle_two-in-Err-StampsExhausted.ensures.next
    (found c.settle_two-in-Err-StampsExhausted.new.all c.giver_of-giver.result.0 c.index-cells-giver-in-Err-StampsExhausted.result within) c.lemma_kept-in-Err-StampsExhausted.ensures

pub returns-in_err-settle_two-clause-grown : goal.returns-in_err-settle_two-clause-grown
returns-in_err-settle_two-clause-grown g c = grown-sights c.args.cells.now c.settle_two.new.all c.settle_two.ensures.sights

pub returns-in_default-clause-grown : goal.returns-in_default-clause-grown
returns-in_default-clause-grown g c =
    let n = same-count _ _ c.settle_two.ensures.sights in
    grown-on c.args.cells.now c.settle_two.new.all (set c.settle_two.new.all c.args.taker c.take_from_place.new.self) (grown-sights c.args.cells.now c.settle_two.new.all c.settle_two.ensures.sights)
    (grown-set c.settle_two.new.all c.args.taker c.index-cells-taker-2.result c.take_from_place.new.self (omega (arith, n, c.requires.taker)) c.take_from_place.ensures.grown)

pub returns-in_default-2-clause-grown : goal.returns-in_default-2-clause-grown
returns-in_default-2-clause-grown g c =
    let n = same-count _ _ c.settle_two.ensures.sights in
    grown-on c.args.cells.now c.settle_two.new.all (set c.settle_two.new.all c.args.taker c.take_from_place.new.self) (grown-sights c.args.cells.now c.settle_two.new.all c.settle_two.ensures.sights)
    (grown-set c.settle_two.new.all c.args.taker c.index-cells-taker-2.result c.take_from_place.new.self (omega (arith, n, c.requires.taker)) c.take_from_place.ensures.grown)

pub returns-in_err-settle_two-in-Err-StampsExhausted-clause-grown : goal.returns-in_err-settle_two-in-Err-StampsExhausted-clause-grown
returns-in_err-settle_two-in-Err-StampsExhausted-clause-grown g c =
    let n = same-count _ _ c.settle_two.ensures.sights in
    grown-on c.args.cells.now (set c.settle_two.new.all c.args.taker c.take_from_place.new.self) c.settle_two-in-Err-StampsExhausted.new.all
    (grown-on c.args.cells.now c.settle_two.new.all (set c.settle_two.new.all c.args.taker c.take_from_place.new.self) (grown-sights c.args.cells.now c.settle_two.new.all c.settle_two.ensures.sights)
    (grown-set c.settle_two.new.all c.args.taker c.index-cells-taker-2.result c.take_from_place.new.self (omega (arith, n, c.requires.taker)) c.take_from_place.ensures.grown))
    (grown-sights (set c.settle_two.new.all c.args.taker c.take_from_place.new.self) c.settle_two-in-Err-StampsExhausted.new.all c.settle_two-in-Err-StampsExhausted.ensures.sights)

pub returns-in_ok-settle_two-in-Err-StampsExhausted-clause-grown : goal.returns-in_ok-settle_two-in-Err-StampsExhausted-clause-grown
returns-in_ok-settle_two-in-Err-StampsExhausted-clause-grown g c =
    let n = same-count _ _ c.settle_two.ensures.sights in
    grown-on c.args.cells.now (set c.settle_two.new.all c.args.taker c.take_from_place.new.self) c.settle_two-in-Err-StampsExhausted.new.all
    (grown-on c.args.cells.now c.settle_two.new.all (set c.settle_two.new.all c.args.taker c.take_from_place.new.self) (grown-sights c.args.cells.now c.settle_two.new.all c.settle_two.ensures.sights)
    (grown-set c.settle_two.new.all c.args.taker c.index-cells-taker-2.result c.take_from_place.new.self (omega (arith, n, c.requires.taker)) c.take_from_place.ensures.grown))
    (grown-sights (set c.settle_two.new.all c.args.taker c.take_from_place.new.self) c.settle_two-in-Err-StampsExhausted.new.all c.settle_two-in-Err-StampsExhausted.ensures.sights)
