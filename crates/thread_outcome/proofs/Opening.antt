-- Cells before their first step stand between no phase and the first.
use Rattle.std.proofs.Common.{◌≡◌, ◌⊎◌, inl, inr, ℕ, zero, suc, List, [], length, map, Some, None, slice_get, refl, sym, ap, subst, ◌∙◌}
use Rattle.law_machine.specs.Journals.{Cell, opening_cells}
use Rattle.law_routing.specs.Routing.{empty_server}
use Rattle.law_phases.specs.Trees.{net_at}
use Rattle.law_phases.specs.Moments.{opening_moment}
use Rattle.law_phases.specs.Cells.{IsBetween}
use Rattle.law_phases.proofs.Merged.{opens}
use Rattle.net_model.specs.Real.{real}
use Rattle.net_model.specs.Parts.{NetParts, EntryParts}
use Rattle.net_model.specs.Meaning.{journal_of}
use Rattle.net_model.specs.Nets.{phased_net}
use Rattle.net_journal.specs.Merging.{journals_in}
use Rattle.thread_cell.specs.declared.starting.Started.{Started}
use Rattle.thread_cell.specs.Cell.{CellParts, RepresentsCell, machine_in}
use Rattle.thread_cell.specs.declared.link.Link.{Link}
use Rattle.thread_cell.specs.Entered.{RepresentCells}
use Rattle.thread_cell.specs.Started.{AreStarted, IsFreshCell}
use Rattle.thread_cell.proofs.Gathered.{found-map, there-or-not}
use Rattle.thread_outcome.specs.Outcome.{StandBetween, IsAtStart, journals_by}
use Rattle.thread_outcome.proofs.Going.{at-none}
use Rattle.std.proofs.Math.Path.{fun_ext}
use Rattle.base.proofs.Lists.{index-get}

module _ (net : NetParts) (started : List Started) (are : AreStarted net started) where
  abbrev cells : List CellParts
  cells = map (λ s. s.cell) started

  abbrev first : ℕ → Cell (machine_in net 0)
  first = opening_cells (machine_in net 0) (λ server. empty_server real (net_at real (phased_net net) 0))

  no-journal : (k : ℕ) (journal : List EntryParts) → slice_get (journals_by cells) k ≡ Some journal → journal ≡ []
  no-journal k journal e =
      let c = found-map (λ (c : CellParts). c.journal) k cells journal e in
      let s = found-map (λ (s : Started). s.cell) k started c.0 c.1 in
      sym c.2 ∙ ap (λ (c : CellParts). c.journal) (sym s.2) ∙ (are.each k s.0 s.1).1.fresh.journal

  none-yet : (server : ℕ) → journals_in (journals_by cells) server ≡ []
  none-yet zero = refl
  none-yet (suc k) = go (there-or-not (journals_by cells) k)
    where
      go : ((journal : List EntryParts) × (slice_get (journals_by cells) k ≡ Some journal)) ⊎ (slice_get (journals_by cells) k ≡ None) → journals_in (journals_by cells) (suc k) ≡ []
      go (inl (journal, e)) = ap journal_of (index-get (journals_by cells) k journal [] e ∙ no-journal k journal e)
      go (inr e) = ap journal_of (at-none (journals_by cells) k [] e)

  stand-first : RepresentCells net 0 cells first
  stand-first = record {
    stand = λ k cell e.
        let s = found-map (λ (s : Started). s.cell) k started cell e in
        subst (λ (c : CellParts). RepresentsCell net 0 c.held.core c.held.links.items (first (suc k))) s.2 (are.each k s.0 s.1).1.fresh.opening;
    others = λ server beyond link. (refl, refl);
  }

  start-at : (k : ℕ) (cell : CellParts) → slice_get cells k ≡ Some cell → IsAtStart cell
  start-at k cell e =
      let s = found-map (λ (s : Started). s.cell) k started cell e in
      subst IsAtStart s.2 (at-start s.0.cell (are.each k s.0 s.1).0 (are.each k s.0 s.1).1.fresh)
    where
      at-start : {server : ℕ} (cell : CellParts) (links : List Link) → IsFreshCell net server links cell → IsAtStart cell
      at-start cell links fresh = record {
        core = fresh.core;
        links = fresh.lanes;
        before = fresh.before ∙ sym fresh.journal;
      }

  pub first-stands : StandBetween net 0 0 cells
  first-stands = record {
    ends = first;
    stand = stand-first;
    sofar = [];
    between = subst (λ js. IsBetween real (phased_net net) (opening_moment real (phased_net net)).state 0 0 [] js)
        (sym (fun_ext none-yet)) (opens real (phased_net net));
    phase = inr (refl, start-at);
  }
