use Rattle.std.proofs.Common.{◌≡◌, ℕ, List, length, get_or, take, sym, subst, ◌∙◌, arith}
use Rattle.std.specs.List.Sorted.{IsPermutation}
use Rattle.std.proofs.lemmas.Option.{slice_get-get_or, slice_get_within}
use Rattle.base.specs.Sets.{Has}
use Rattle.net_tables.specs.Numbered.{catalogued}
use Rattle.output_flood.specs.Tables.{IsRoom, AreTables, AreAllNumbers, MeetsAt, ordered_from}
use Rattle.output_flood.proofs.Numbered.{scripts_long, all_numbers}
use Rattle.output_flood.proofs.Finding.{met_first, met_next, all_meet, place_within}
use Rattle.output_flood.proofs.meeting.all_met.Goals as goal
use Rattle.base.proofs.Lists.{length-slice_set}

pub first_tables-requires-clause-few_scripts : goal.first_tables-requires-clause-few_scripts
first_tables-requires-clause-few_scripts c =
    let clients = c.args.catalogue.now.clients in
    omega (arith, scripts_long (catalogued clients) 1 c.scripts-scripts.result.now clients c.scripts-scripts.ensures, c.lemma_sound.ensures.sound.few)

pub loop-place-init : goal.loop-place-init
loop-place-init c = record {
  count = c.in_ok-mets.ensures;
  room = subst (λ n. IsRoom n c.in_ok-room.room) c.len.ensures c.in_ok-room.ensures;
  tables = c.in_ok-tables.ensures;
  met = met_first c.args.catalogue.now.clients c.args.publications.now c.in_ok-mets.mets.items c.deref-place-items.result.now;
}

pub publication_at-publication-requires : goal.publication_at-publication-requires
publication_at-publication-requires c =
    let items = c.deref-place-items.result.now in
    let none : ℕ × ℕ = (0, 0) in
    let same = subst (λ (z : List (ℕ × ℕ)). IsPermutation (ordered_from 0 c.args.publications.now) z) (sym c.deref-place-items.ensures.value) c.in_ok-order.ensures in
    place_within c.args.publications.now items c.loop-place.place-index (get_or items c.loop-place.place-index none) same
    (slice_get-get_or items c.loop-place.place-index none c.loop-place-test.true)

pub enter_phase-requires-clause-few_scripts : goal.enter_phase-requires-clause-few_scripts
enter_phase-requires-clause-few_scripts c =
    let clients = c.args.catalogue.now.clients in
    omega (arith, scripts_long (catalogued clients) 1 c.scripts-scripts.result.now clients c.scripts-scripts.ensures, c.lemma_sound.ensures.sound.few)

pub enter_phase-requires-clause-numbers : goal.enter_phase-requires-clause-numbers
enter_phase-requires-clause-numbers c =
    let clients = c.args.catalogue.now.clients in
    subst (λ z. AreAllNumbers (length z) c.scripts-scripts.result.now) (sym c.filters-filters.ensures) (all_numbers (catalogued clients) 1 c.scripts-scripts.result.now clients c.scripts-scripts.ensures)

pub index_mut-requires : goal.index_mut-requires
index_mut-requires c =
    let items = c.deref-place-items.result.now in
    let none : ℕ × ℕ = (0, 0) in
    let at = slice_get_within c.args.publications.now (get_or items c.loop-place.place-index none).1 c.publication_at-publication.result.now c.publication_at-publication.ensures in
    omega (arith, at, c.loop-place.invariant.count)

pub loop-place-preserved : goal.loop-place-preserved
loop-place-preserved c =
    let clients = c.args.catalogue.now.clients in
    let items = c.deref-place-items.result.now in
    let none : ℕ × ℕ = (0, 0) in
    let x = get_or items c.loop-place.place-index none in
    let met = c.in_ok-mets-2.field-0 in
    let same : c.filters-filters.result.now ≡ c.matcher.result.now = c.filters-filters.ensures ∙ sym c.matcher.ensures in
    record {
      count = length-slice_set c.loop-place.mets.items x.1 met ∙ c.loop-place.invariant.count;
      room = subst (λ z. IsRoom (length z) c.met_by.new.room) (sym same) c.met_by.ensures.room;
      tables = c.enter_phase.ensures.tables;
      met = met_next clients c.args.publications.now c.loop-place.mets.items items c.loop-place.place-index x c.publication_at-publication.result.now met
          (slice_get-get_or items c.loop-place.place-index none c.loop-place-test.true) c.publication_at-publication.ensures
          (c.in_ok-mets-2.ensures.met clients c.scripts-scripts.result.now c.matcher.ensures c.scripts-scripts.ensures
          (subst (λ z. AreTables z c.scripts-scripts.result.now c.enter_phase.new.tables) same c.enter_phase.ensures.tables) c.enter_phase.ensures.phase)
          c.loop-place.invariant.met;
    }

pub returns : goal.returns
returns c =
    let clients = c.args.catalogue.now.clients in
    let publications = c.args.publications.now in
    let items = c.deref-place-items.result.now in
    let mets = c.loop-place.mets.items in
    let end : c.loop-place.place-index ≡ length items = omega arith in
    let same = subst (λ (z : List (ℕ × ℕ)). IsPermutation (ordered_from 0 publications) z) (sym c.deref-place-items.ensures.value) c.in_ok-order.ensures in
    all_meet clients publications mets items c.loop-place.invariant.count same
    (subst (λ z. (x : ℕ × ℕ) → Has x (take z items) → MeetsAt clients publications mets x.1) end c.loop-place.invariant.met)
