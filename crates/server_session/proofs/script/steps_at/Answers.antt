use Rattle.std.proofs.Common.{◌≤◌, ◌+◌, ℕ, List, length, sym, subst, arith}
use Rattle.net_model.specs.Parts.{NetParts}
use Rattle.net_tables.specs.declared.numbered.NumberedCommand.{NumberedCommand}
use Rattle.net_tables.specs.Numbered.{catalogued, AreNumbered, AllNumbered}
use Rattle.server_session.proofs.Steps.{client-steps, all-long}
use Rattle.server_session.proofs.script.steps_at.Goals as goal
use Rattle.base.proofs.Lists.{get-get_or}

pub offset_bounds-scripts-place : goal.offset_bounds-scripts-place
offset_bounds-scripts-place c =
    let few = subst (λ (z : NetParts). length z.clients ≤ 1024) c.catalogue.ensures c.lemma_sound.ensures.sound.few in
    omega (arith, few, c.requires)

pub bounds-scripts-place : goal.bounds-scripts-place
bounds-scripts-place c =
    let all = subst (λ (z : NetParts). AllNumbered (catalogued z.clients) 1 c.scripts-scripts.result.now z.clients) c.catalogue-2.ensures c.scripts-scripts.ensures in
    let long = all-long (catalogued c.args.tables.now.clients) 1 c.scripts-scripts.result.now c.args.tables.now.clients all in
    omega (arith, long, c.requires)

pub returns : goal.returns
returns c k e =
    let all = subst (λ (z : NetParts). AllNumbered (catalogued z.clients) 1 c.scripts-scripts.result.now z.clients) c.catalogue-2.ensures c.scripts-scripts.ensures in
    let long = all-long (catalogued c.args.tables.now.clients) 1 c.scripts-scripts.result.now c.args.tables.now.clients all in
    let at = get-get_or c.scripts-scripts.result.now c.args.place c.index-scripts-place.result (omega (arith, long, c.requires)) c.index-scripts-place.is in
    subst (λ (z : List (ℕ × NumberedCommand)). AreNumbered (catalogued c.args.tables.now.clients) (1 + c.args.place) 0 z k.script) (sym c.as_slice.ensures)
    (client-steps (catalogued c.args.tables.now.clients) 1 c.scripts-scripts.result.now c.args.tables.now.clients all c.args.place c.index-scripts-place.result k at e)
