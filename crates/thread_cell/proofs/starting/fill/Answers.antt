use Rattle.std.proofs.Common.{◌≡◌, ◌≤◌, length, map, Some, slice_get, sym, ap, subst, ◌∙◌, arith, add-one}
use Rattle.std.proofs.lemmas.List.{length-map, length-set}
use Rattle.filter_text.specs.MessageText.{Each}
use Rattle.thread_cell.proofs.Rows.{each-end}
use Rattle.thread_cell.proofs.Filled.{one-more, all-started, row-server, row-is, rest-set}
use Rattle.thread_cell.proofs.starting.fill.Goals as goal
use Rattle.net_model.proofs.SoundNets.{tree-count}

pub start_one-requires-clause-among : goal.start_one-requires-clause-among
start_one-requires-clause-among g c =
    let n = length-map c.args.rows.items (λ r. r.items) in
    let v = c.len-place-end.ensures in
    rw add-one (row-server c.args.tables.now (map (λ r. r.items) c.args.rows.items) c.loop-place.place (c.requires.lanes.long ∙ tree-count c.args.tables.now.trees c.requires.sound.trees 0) (omega (arith, n, v)))

pub start_one-requires-clause-names : goal.start_one-requires-clause-names
start_one-requires-clause-names g c =
    let v = c.len-place-end.ensures in
    let l = c.loop-place.invariant.long in
    let at : slice_get (map (λ r. r.items) c.args.rows.items) c.loop-place.place ≡ Some c.replace-links.result.items =
    row-is (λ r. r.items) c.loop-place.rows.items c.args.rows.items c.loop-place.place c.index_mut.result.now (omega (arith, v)) (omega (arith, v, l)) c.loop-place.invariant.rest
    ∙ ap (λ r. Some r.items) (sym c.index_mut.ensures.value ∙ sym c.replace-links.ensures.value) in
    rw add-one (c.requires.lanes.names c.loop-place.place c.replace-links.result.items at)

pub start_one-requires-clause-new : goal.start_one-requires-clause-new
start_one-requires-clause-new g c =
    let v = c.len-place-end.ensures in
    let l = c.loop-place.invariant.long in
    let at : slice_get (map (λ r. r.items) c.args.rows.items) c.loop-place.place ≡ Some c.replace-links.result.items =
    row-is (λ r. r.items) c.loop-place.rows.items c.args.rows.items c.loop-place.place c.index_mut.result.now (omega (arith, v)) (omega (arith, v, l)) c.loop-place.invariant.rest
    ∙ ap (λ r. Some r.items) (sym c.index_mut.ensures.value ∙ sym c.replace-links.ensures.value) in
    c.requires.lanes.new c.loop-place.place c.replace-links.result.items at

pub loop-place-preserved : goal.loop-place-preserved
loop-place-preserved g c =
    let v = c.len-place-end.ensures in
    let l = c.loop-place.invariant.long in
    let at : slice_get (map (λ r. r.items) c.args.rows.items) c.loop-place.place ≡ Some c.replace-links.result.items =
    row-is (λ r. r.items) c.loop-place.rows.items c.args.rows.items c.loop-place.place c.index_mut.result.now (omega (arith, v)) (omega (arith, v, l)) c.loop-place.invariant.rest
    ∙ ap (λ r. Some r.items) (sym c.index_mut.ensures.value ∙ sym c.replace-links.ensures.value) in
    record {
      keeps = subst (λ l. Each (λ s. s.cell.root.keeps ≡ c.args.keeps) l) (sym c.push_reserved.ensures.items)
          (each-end (λ s. s.cell.root.keeps ≡ c.args.keeps) c.loop-place.started.items c.in_ok-start_one.field-0 c.loop-place.invariant.keeps c.in_ok-start_one.ensures.keeps);
      made = one-more c.args.tables.now (map (λ r. r.items) c.args.rows.items) c.loop-place.place c.loop-place.started.items c.push_reserved.new.self.items c.in_ok-start_one.field-0 c.replace-links.result.items c.push_reserved.ensures.items at c.in_ok-start_one.ensures.started c.loop-place.invariant.made;
      rest = rest-set (λ r. r.items) c.loop-place.rows.items c.args.rows.items c.loop-place.place _ c.loop-place.invariant.rest;
      long = length-set c.loop-place.rows.items c.loop-place.place _ ∙ c.loop-place.invariant.long;
      room = subst (λ n. length c.args.rows.items ≤ n) (sym c.push_reserved.ensures.capacity) c.loop-place.invariant.room;
    }

pub returns : goal.returns
returns g c =
    let n = length-map c.args.rows.items (λ r. r.items) in
    let v = c.len-place-end.ensures in
    record {
      keeps = c.loop-place.invariant.keeps;
      started = all-started c.args.tables.now (map (λ r. r.items) c.args.rows.items) c.loop-place.place c.loop-place.started.items (c.requires.lanes.long ∙ tree-count c.args.tables.now.trees c.requires.sound.trees 0) c.requires.lanes.ends (omega (arith, n, v)) c.loop-place.invariant.made;
    }
