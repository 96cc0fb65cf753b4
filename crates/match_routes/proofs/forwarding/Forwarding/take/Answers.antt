use Rattle.std.proofs.Common.{◌≡◌, ◌<◌, ◌∷◌, [], ◌∙◌, List, length, get_or, refl, sym, ap, subst, arith}
use Rattle.base.specs.Sets.{member, minus}
use Rattle.base_bits.specs.Rows.{Numbers}
use Rattle.base_bits.specs.Grid.{without_number, row_of}
use Rattle.match_routes.specs.Installed.{Installed, pair_before}
use Rattle.match_routes.specs.Rows.{pairs_of}
use Rattle.match_routes.specs.Columns.{AreColumns, ArePresent, rows_from}
use Rattle.match_routes.proofs.ByPlace.{IsSpot, spot-member, take-columns, take-installed}
use Rattle.match_routes.proofs.Presence.{less-present, less-of}
use Rattle.match_routes.proofs.forwarding.Forwarding.take.Goals as goal

at : (c : goal.After-remove) → IsSpot c.self.inside.width c.self.inside.interfaces.items c.self.inside.columns.rows c.place-place.result c.args.interface c.args.number (row_of c.self.inside.columns.rows c.args.number)
at c = record {
  kept = c.self.invariant.0;
  within = subst (λ xs. c.place-place.result < length xs) c.deref.ensures.value c.place-place.ensures.within;
  here = subst (λ xs. get_or xs c.place-place.result 0 ≡ c.args.interface) c.deref.ensures.value c.place-place.ensures.here;
  known = omega (arith, c.requires.number, ap (λ (p : Installed). p.width) c.self.view_is, c.self.invariant.0.long);
  stands = refl;
}

pub overflow_cast-place : goal.overflow_cast-place
overflow_cast-place c =
    let l = subst (λ xs. c.place-place.result < length xs) c.deref.ensures.value c.place-place.ensures.within in
    omega (arith, l, c.self.invariant.0.few)

pub remove-requires-clause-row : goal.remove-requires-clause-row
remove-requires-clause-row c = omega (arith, c.requires.number, ap (λ (p : Installed). p.width) c.self.view_is, c.self.invariant.0.long)

pub remove-requires-clause-number : goal.remove-requires-clause-number
remove-requires-clause-number c =
    let l = subst (λ xs. c.place-place.result < length xs) c.deref.ensures.value c.place-place.ensures.within in
    omega (arith, l, c.self.invariant.1)

pub invariant_of-self : goal.invariant_of-self
invariant_of-self c =
    let old = row_of c.self.inside.columns.rows c.args.number in
    let new = without_number c.place-place.result old in
    let e = sym c.remove.ensures.rows in (
      subst (AreColumns c.self.inside.width c.self.inside.interfaces.items) e (take-columns (at c) new refl refl),
      c.remove.ensures.width ∙ c.self.invariant.1,
      subst (ArePresent c.self.inside.width c.self.inside.present) e
          (less-present c.self.inside.columns.rows c.args.number new (at c).known c.self.inside.width c.self.inside.present c.self.invariant.2 (less-of c.place-place.result new old refl)),
    )

pub returns-clause-had : goal.returns-clause-had
returns-clause-had c =
    c.remove.ensures.had ∙ spot-member (at c)
    ∙ ap (λ (p : Installed). (member pair_before (c.args.interface, c.args.number) p.pairs)) c.self.view_is

pub returns-clause-pairs : goal.returns-clause-pairs
returns-clause-pairs c =
    ap (λ (rows : List Numbers). pairs_of c.self.inside.interfaces.items (rows_from 0 c.self.inside.interfaces.items rows)) c.remove.ensures.rows
    ∙ take-installed (at c) (without_number c.place-place.result (row_of c.self.inside.columns.rows c.args.number)) refl refl
    ∙ ap (λ (p : Installed). minus pair_before p.pairs ((c.args.interface, c.args.number) ∷ [])) c.self.view_is
