use Rattle.std.proofs.Common.{◌≡◌, ◌<◌, ◌∙◌, not, List, length, get_or, refl, sym, ap, subst, arith}
use Rattle.base.specs.Sets.{member, put_in}
use Rattle.base_bits.specs.Rows.{Numbers}
use Rattle.base_bits.specs.Grid.{with_number, row_of}
use Rattle.match_routes.specs.Installed.{Installed, pair_before}
use Rattle.match_routes.specs.Rows.{pairs_of}
use Rattle.match_routes.specs.Columns.{AreColumns, ArePresent, rows_from}
use Rattle.match_routes.proofs.ByPlace.{IsSpot, spot-member, put-columns, put-installed}
use Rattle.match_routes.proofs.Presence.{put-present}
use Rattle.match_routes.proofs.forwarding.Forwarding.put.Goals as goal

at : (c : goal.After-insert-2) → IsSpot c.self.inside.width c.self.inside.interfaces.items c.self.inside.columns.rows c.place-place.result c.args.interface c.args.number (row_of c.self.inside.columns.rows c.args.number)
at c = record {
  kept = c.self.invariant.0;
  within = subst (λ xs. c.place-place.result < length xs) c.deref.ensures.value c.place-place.ensures.within;
  here = subst (λ xs. get_or xs c.place-place.result 0 ≡ c.args.interface) c.deref.ensures.value c.place-place.ensures.here;
  known = omega (arith, c.requires.number, ap (λ (p : Installed). p.width) c.self.view_is, c.self.invariant.0.long);
  stands = refl;
}

pub overflow_cast-place : goal.overflow_cast-place
overflow_cast-place c =
    let l = subst (λ xs. c.place-place.result < length xs) c.deref.ensures.value c.place-place.ensures.within in
    omega (arith, l, c.self.invariant.0.few)

pub insert-requires-2-clause-row : goal.insert-requires-2-clause-row
insert-requires-2-clause-row c = omega (arith, c.requires.number, ap (λ (p : Installed). p.width) c.self.view_is, c.self.invariant.0.long)

pub insert-requires-2-clause-number : goal.insert-requires-2-clause-number
insert-requires-2-clause-number c =
    let l = subst (λ xs. c.place-place.result < length xs) c.deref.ensures.value c.place-place.ensures.within in
    omega (arith, l, c.self.invariant.1)

pub invariant_of-self : goal.invariant_of-self
invariant_of-self c =
    let new = with_number c.place-place.result (row_of c.self.inside.columns.rows c.args.number) in
    let e = sym c.insert-2.ensures.rows in (
      subst (AreColumns c.self.inside.width c.self.inside.interfaces.items) e (put-columns (at c) new refl refl),
      c.insert-2.ensures.width ∙ c.self.invariant.1,
      subst (ArePresent c.self.inside.width c.insert.new.self) e
          (put-present c.self.inside.columns.rows c.args.number new (at c).known c.self.inside.width c.self.inside.present c.self.invariant.2 c.insert.new.self c.insert.ensures.width c.insert.ensures.members),
    )

pub returns-clause-fresh : goal.returns-clause-fresh
returns-clause-fresh c =
    c.insert-2.ensures.fresh ∙ ap not (spot-member (at c))
    ∙ ap (λ (p : Installed). not (member pair_before (c.args.interface, c.args.number) p.pairs)) c.self.view_is

pub returns-clause-pairs : goal.returns-clause-pairs
returns-clause-pairs c =
    ap (λ (rows : List Numbers). pairs_of c.self.inside.interfaces.items (rows_from 0 c.self.inside.interfaces.items rows)) c.insert-2.ensures.rows
    ∙ put-installed (at c) (with_number c.place-place.result (row_of c.self.inside.columns.rows c.args.number)) refl refl
    ∙ ap (λ (p : Installed). put_in pair_before (c.args.interface, c.args.number) p.pairs) c.self.view_is
