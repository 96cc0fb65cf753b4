use Rattle.std.proofs.Common.{◌≡◌, ◌<◌, length, slice_get, slice_set, Some, refl, sym, subst, ◌∙◌, arith}
use Rattle.std.proofs.lemmas.Option.{slice_get_read, same_Some}
use Rattle.base.specs.Sets.{Has}
use Rattle.output_flood.specs.declared.filters.ClientFilters.{ClientFilters}
use Rattle.output_flood.specs.Numbers.{IsAt}
use Rattle.output_flood.specs.Tables.{ShowsRow, IsBrought, IsSteady, IsOfPhase}
use Rattle.output_flood.proofs.Finding.{set_same, set_other}
use Rattle.output_flood.proofs.Places.{place_there}
use Rattle.output_flood.proofs.Entering.{ready_next}
use Rattle.output_flood.proofs.tables.enter.Goals as goal
use Rattle.base.proofs.Sets.{get-has}
use Rattle.base.proofs.Lists.{length-slice_set}

place_within : (c : goal.After-as_slice) → c.args.place < length c.args.tables.now.clients.items
place_within c = omega (arith, c.requires.place, c.requires.ready.count)

mine : (c : goal.After-as_slice) → slice_get c.args.tables.now.clients.items c.args.place ≡ Some c.index_mut.result.now
mine c = slice_get_read c.args.tables.now.clients.items (length c.args.tables.now.clients.items) c.args.place c.index_mut.result.now refl (place_within c) c.index_mut.ensures.value

script : (c : goal.After-as_slice) → slice_get c.args.scripts.now c.args.place ≡ Some c.as_slice.result.now
script c = subst (λ z. slice_get c.args.scripts.now c.args.place ≡ Some z) (sym c.as_slice.ensures)
    (slice_get_read c.args.scripts.now (length c.args.scripts.now) c.args.place c.index-scripts-place.result refl c.requires.place c.index-scripts-place.is)

pub enter-requires-clause-sized : goal.enter-requires-clause-sized
enter-requires-clause-sized c = c.requires.ready.going.sized c.args.place c.index_mut.result.now (mine c)

pub enter-requires-clause-at : goal.enter-requires-clause-at
enter-requires-clause-at c = c.requires.ready.going.at c.args.place c.index_mut.result.now c.as_slice.result.now (mine c) (script c)

pub enter-requires-clause-numbers : goal.enter-requires-clause-numbers
enter-requires-clause-numbers c = c.requires.numbers c.as_slice.result.now (get-has c.args.scripts.now c.args.place c.as_slice.result.now (script c))

pub bring-requires-clause-place : goal.bring-requires-clause-place
bring-requires-clause-place c = subst (Has c.args.place) (sym c.requires.ready.every_places) (place_there (length c.args.scripts.now) c.args.place c.requires.place)

pub bring-requires-2-clause-place : goal.bring-requires-2-clause-place
bring-requires-2-clause-place c = subst (Has c.args.place) (sym c.requires.ready.ever_places) (place_there (length c.args.scripts.now) c.args.place c.requires.place)

pub bring-requires-clause-shown : goal.bring-requires-clause-shown
bring-requires-clause-shown c =
    let clients = c.args.tables.now.clients.items in
    let at = slice_get_read clients (length clients) c.args.place c.index.result.now refl (omega (arith, c.requires.place, c.requires.ready.count)) c.index.ensures in
    subst (ShowsRow c.args.tables.now.every.pairs c.args.place) (sym c.copy_from.ensures.members) (c.requires.ready.shown.at_every c.args.place c.index.result.now at)

pub bring-requires-2-clause-shown : goal.bring-requires-2-clause-shown
bring-requires-2-clause-shown c =
    let clients = c.args.tables.now.clients.items in
    let at = slice_get_read clients (length clients) c.args.place c.index-2.result.now refl (omega (arith, c.requires.place, c.requires.ready.count)) c.index-2.ensures in
    subst (ShowsRow c.args.tables.now.ever.pairs c.args.place) (sym c.copy_from-2.ensures.members) (c.requires.ready.shown.at_some c.args.place c.index-2.result.now at)

client : (c : goal.After-are_same) → c.index-client.result.now ≡ c.enter.new.self
client c =
    let clients = slice_set c.args.tables.now.clients.items c.args.place c.enter.new.self in
    let long : c.args.place < length clients = omega (arith, c.requires.place, c.requires.ready.count, length-slice_set c.args.tables.now.clients.items c.args.place c.enter.new.self) in
    set_same c.args.tables.now.clients.items c.args.place c.enter.new.self c.index-client.result.now
    (slice_get_read clients (length clients) c.args.place c.index-client.result.now refl long c.index-client.ensures)

pub returns-clause-ready : goal.returns-clause-ready
returns-clause-ready c =
    ready_next c.args.filters.now c.args.scripts.now c.args.tables.now _ c.args.place c.enter.new.self refl c.bring.ensures.same c.bring-2.ensures.same
    (subst (λ (z : ClientFilters). IsBrought c.args.place z.every.members c.args.tables.now.every.pairs c.bring.new.table.pairs) (client c) c.bring.ensures.brought)
    (subst (λ (z : ClientFilters). IsBrought c.args.place z.ever.members c.args.tables.now.ever.pairs c.bring-2.new.table.pairs) (client c) c.bring-2.ensures.brought)
    c.enter.ensures.sized
    (λ steps at. subst (λ z. IsAt c.args.filters.now z c.enter.new.self) (same_Some _ _ (sym (script_at c) ∙ at)) c.enter.ensures.at) c.requires.ready
  where
    script_at : (c : goal.After-are_same) → slice_get c.args.scripts.now c.args.place ≡ Some c.as_slice.result.now
    script_at c = subst (λ z. slice_get c.args.scripts.now c.args.place ≡ Some z) (sym c.as_slice.ensures)
        (slice_get_read c.args.scripts.now (length c.args.scripts.now) c.args.place c.index-scripts-place.result refl c.requires.place c.index-scripts-place.is)

pub returns-clause-others : goal.returns-clause-others
returns-clause-others c = λ q n. set_other c.args.tables.now.clients.items q c.args.place c.enter.new.self n

pub returns-clause-mine : goal.returns-clause-mine
returns-clause-mine c = λ client steps at of.
    subst (λ (z : ClientFilters). IsOfPhase c.args.filters.now c.args.phase steps z) (sym (set_same c.args.tables.now.clients.items c.args.place c.enter.new.self client at))
    (subst (λ z. IsOfPhase c.args.filters.now c.args.phase z c.enter.new.self) (same_Some _ _ (sym (script_at c) ∙ of)) (record { every = c.enter.ensures.every; ever = c.enter.ensures.ever }))
  where
    script_at : (c : goal.After-are_same) → slice_get c.args.scripts.now c.args.place ≡ Some c.as_slice.result.now
    script_at c = subst (λ z. slice_get c.args.scripts.now c.args.place ≡ Some z) (sym c.as_slice.ensures)
        (slice_get_read c.args.scripts.now (length c.args.scripts.now) c.args.place c.index-scripts-place.result refl c.requires.place c.index-scripts-place.is)

pub returns-clause-steady : goal.returns-clause-steady
returns-clause-steady c e one at =
    subst IsSteady (client c ∙ sym (set_same c.args.tables.now.clients.items c.args.place c.enter.new.self one at)) (c.are_same.ensures.same e)
