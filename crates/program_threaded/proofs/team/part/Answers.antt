use Rattle.std.proofs.Common.{◌≡◌, List, [], ◌∷◌, ◌++◌, length, map, sym, ap, subst, ◌∙◌, arith}
use Rattle.std.proofs.lemmas.List.{append_assoc, length-append}
use Rattle.thread_cell.specs.declared.starting.Started.{Started}
use Rattle.thread_cell.specs.Cell.{CellParts}
use Rattle.thread_cell.specs.Together.{cell_roots}
use Rattle.thread_workers.specs.declared.server_workers.Viewers.{Viewers}
use Rattle.thread_workers.specs.ServerWorkers.{AreViewersOf, Pairwise}
use Rattle.program_threaded.specs.Teams.{HaveViewers}
use Rattle.thread_outcome.proofs.Parts.{first-out}
use Rattle.program_threaded.proofs.Parting.{viewers-more}
use Rattle.program_threaded.proofs.team.part.Goals as goal

pub loop-started-preserved : goal.loop-started-preserved
loop-started-preserved c =
    let old = c.loop-started.started.items in
    let rest = c.remove-cell.new.self.items in
    let one = c.remove-cell.result in
    let i = c.loop-started.invariant in
    let out : old ≡ one ∷ rest = first-out old rest one (let n = c.remove-cell.ensures.len in let k = c.loop-started.started.ok.0 in omega (arith, n, k)) c.remove-cell.ensures.value c.remove-cell.ensures.by_index.2 in
    let viewers : HaveViewers (one ∷ rest) = subst HaveViewers out i.left in
    let long = ap (λ (l : List Started). length l) out in
    let n = ap (λ (l : List CellParts). length l) c.push_reserved.ensures.items ∙ length-append c.loop-started.cells.items (one.cell ∷ []) in
    let m = ap (λ (l : List Viewers). length l) c.push_reserved-in-loop-started.ensures.items ∙ length-append c.loop-started.viewers.items (record { commands = one.commands; links = one.links } ∷ []) in
    let p = c.push_reserved.ensures.capacity in
    let q = c.push_reserved-in-loop-started.ensures.capacity in
    let same = i.long in
    let room = i.room in
    let room_viewers = i.room_viewers in record {
      cells = ap (λ l. l ++ map (λ (s : Started). s.cell) rest) c.push_reserved.ensures.items ∙ append_assoc c.loop-started.cells.items (one.cell ∷ []) (map (λ (s : Started). s.cell) rest)
          ∙ ap (λ l. c.loop-started.cells.items ++ map (λ (s : Started). s.cell) l) (sym out) ∙ i.cells;
      pairs = subst (λ l. Pairwise AreViewersOf (cell_roots l) c.push_reserved-in-loop-started.new.self.items) (sym c.push_reserved.ensures.items)
          (subst (λ l. Pairwise AreViewersOf (cell_roots (c.loop-started.cells.items ++ one.cell ∷ [])) l) (sym c.push_reserved-in-loop-started.ensures.items)
          (viewers-more c.loop-started.cells.items c.loop-started.viewers.items one.cell (record { commands = one.commands; links = one.links }) i.pairs viewers.0));
      left = viewers.1;
      long = omega (arith, n, m, same);
      room = omega (arith, n, long, p, room);
      room_viewers = omega (arith, n, long, q, room_viewers);
    }
