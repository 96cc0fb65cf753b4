use Rattle.std.proofs.Common.{◌≡◌, ◌&&◌, Bool, true, false, refl, arith}
use Rattle.output_flood.proofs.Entering.{upto_next, all_of, tables_of}
use Rattle.output_flood.proofs.Steady.{steady_next, all_steady}
use Rattle.output_flood.proofs.tables.enter_phase.Goals as goal

pub loop-place-init : goal.loop-place-init
loop-place-init c = record {
  room = c.requires.room;
  ready = c.requires.tables.ready;
  upto = λ q steps client l at has. absurd (omega (arith, l));
  steady = λ e q client l at. absurd (omega (arith, l));
}

both : (a b : Bool) → (a && b) ≡ true → (a ≡ true) × (b ≡ true)
both true true e = (e, e)
both true false e = absurd cc
both false b e = absurd cc

pub loop-place-preserved : goal.loop-place-preserved
loop-place-preserved c = record {
  room = c.enter-own.ensures.room;
  ready = c.enter-own.ensures.ready;
  upto = upto_next c.args.filters.now c.loop-place.place c.args.phase c.args.scripts.now c.loop-place.tables.clients.items c.enter-own.new.tables.clients.items
      c.enter-own.ensures.others c.enter-own.ensures.mine c.loop-place.invariant.upto;
  steady = λ e. let b = both c.loop-place.steady c.enter-own.result e in
      steady_next c.loop-place.place c.loop-place.tables.clients.items c.enter-own.new.tables.clients.items
      c.enter-own.ensures.others (c.enter-own.ensures.steady b.1) (c.loop-place.invariant.steady b.0);
}

pub returns-clause-tables : goal.returns-clause-tables
returns-clause-tables c =
    tables_of c.args.filters.now c.args.scripts.now c.args.phase c.loop-place.tables _ refl refl refl refl c.loop-place.invariant.ready
    (all_of c.args.filters.now c.args.phase c.loop-place.place c.args.scripts.now c.loop-place.tables.clients.items c.loop-place-test.false c.loop-place.invariant.upto)
    (λ e. all_steady c.loop-place.place c.loop-place.tables.clients.items (omega (arith, c.loop-place-test.false, c.loop-place.invariant.ready.count)) (c.loop-place.invariant.steady e))
