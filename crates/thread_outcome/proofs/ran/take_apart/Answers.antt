use Rattle.std.proofs.Common.{◌≡◌, [], ◌∷◌, length, map, sym, ap, ◌∙◌, arith}
use Rattle.std.proofs.lemmas.List.{length-append, map-append}
use Rattle.net_journal.specs.Journal.{JournalParts}
use Rattle.thread_cell.specs.Together.{keepings}
use Rattle.thread_outcome.specs.Outcome.{cores_of, journals_by}
use Rattle.thread_outcome.proofs.Parts.{first-out, taken-one}
use Rattle.thread_outcome.proofs.ran.take_apart.Goals as goal

pub loop-cells-preserved : goal.loop-cells-preserved
loop-cells-preserved g c =
    let i = c.loop-cells.invariant in
    let old = c.loop-cells.cells.items in
    let rest = c.remove.new.self.items in
    let cell = c.remove.result in
    let out : old ≡ cell ∷ rest = first-out old rest cell (let n = c.remove.ensures.len in let k = c.loop-cells.cells.ok.0 in omega (arith, n, k)) c.remove.ensures.value c.remove.ensures.by_index.2 in
    let core = c.into_parts-core.result.0 in
    let journal = c.into_parts-core.result.1 in
    let cores = c.loop-cells.parts.cores.items in
    let journals = c.loop-cells.parts.journals.items in
    let left = ap (λ l. length l) out in
    let n = ap (λ l. length l) c.push_reserved.ensures.items ∙ length-append cores (core ∷ []) in
    let m = ap (λ l. length l) c.push_reserved-in-loop-cells.ensures.items ∙ length-append journals (journal ∷ []) in
    let p = c.push_reserved.ensures.capacity in
    let q = c.push_reserved-in-loop-cells.ensures.capacity in
    let same = i.long in
    let room = i.room in
    let room_journals = i.room_journals in record {
      cores = taken-one cores_of cores c.push_reserved.new.self.items cell core old rest (cores_of c.args.cells.items) c.push_reserved.ensures.items (ap (λ k. k ∷ cores_of rest) (sym c.into_parts-core.ensures.core)) out i.cores;
      journals = taken-one journals_by (map (λ (j : JournalParts). j.entries) journals) (map (λ (j : JournalParts). j.entries) c.push_reserved-in-loop-cells.new.self.items) cell journal.entries old rest (journals_by c.args.cells.items)
          (ap (map (λ (j : JournalParts). j.entries)) c.push_reserved-in-loop-cells.ensures.items ∙ map-append (λ (j : JournalParts). j.entries) journals (journal ∷ []))
          (ap (λ k. k ∷ journals_by rest) (sym c.into_parts-core.ensures.journal)) out i.journals;
      kept = taken-one keepings (map (λ (j : JournalParts). j.kept) journals) (map (λ (j : JournalParts). j.kept) c.push_reserved-in-loop-cells.new.self.items) cell journal.kept old rest (keepings c.args.cells.items)
          (ap (map (λ (j : JournalParts). j.kept)) c.push_reserved-in-loop-cells.ensures.items ∙ map-append (λ (j : JournalParts). j.kept) journals (journal ∷ []))
          (ap (λ k. k ∷ keepings rest) (sym c.into_parts-core.ensures.kept)) out i.kept;
      long = omega (arith, n, m, same);
      room = omega (arith, n, left, p, room);
      room_journals = omega (arith, n, left, q, room_journals);
    }
