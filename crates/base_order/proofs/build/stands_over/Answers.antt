use Rattle.std.proofs.Common.{◌≡◌, ◌<◌, ◌∙◌, ℕ, Bool, List, length, ap, arith}
use Rattle.std.specs.Prelude.{get_or}
use Rattle.base_bits.specs.Rows.{Numbers, is_in}
use Rattle.base_bits.proofs.Passing.{is_in-passing}
use Rattle.base_order.specs.Order.{covers_at, covered_row, covered_rows}
use Rattle.base_order.proofs.Rows.{rows-long, row-at}
use Rattle.base_order.proofs.build.stands_over.Goals as goal

module _ {T : Type 0} (covers : T → T → Bool) (items : List T) (rows : List Numbers) (are : rows ≡ covered_rows covers items (length items)) where
  long : length rows ≡ length items
  long = rows-long (covered_row covers items) (length items) rows are

  -- a row of one number tells which others it covers
  told : (i j : ℕ) (row : Numbers) (b : Bool) → i < length items → j < length items → row ≡ get_or rows i row → b ≡ is_in j row.members → b ≡ covers_at covers items i j
  told i j row b one other is e =
      e ∙ (ap (λ (z : Numbers). is_in j z.members) (row-at (covered_row covers items) (length items) rows i row are one is)
      ∙ is_in-passing (λ j. covers_at covers items i j) (length items) j other)

  wide : (i : ℕ) (row : Numbers) → i < length items → row ≡ get_or rows i row → row.width ≡ length items
  wide i row one is = ap (λ (z : Numbers). z.width) (row-at (covered_row covers items) (length items) rows i row are one is)

pub bounds-covered-i : goal.bounds-covered-i
bounds-covered-i g c = let r = c.requires in omega (arith, long g.T.Cover.covering c.args.items.now c.args.covered.now r.covered)

pub has-up-requires : goal.has-up-requires
has-up-requires g c =
    let r = c.requires in
    omega (arith, wide g.T.Cover.covering c.args.items.now c.args.covered.now r.covered c.args.i c.index-covered-i.result r.one c.index-covered-i.is)

pub bounds-covered-j : goal.bounds-covered-j
bounds-covered-j g c = let r = c.requires in omega (arith, long g.T.Cover.covering c.args.items.now c.args.covered.now r.covered)

pub has-down-requires : goal.has-down-requires
has-down-requires g c =
    let r = c.requires in
    omega (arith, wide g.T.Cover.covering c.args.items.now c.args.covered.now r.covered c.args.j c.index-covered-j.result r.other c.index-covered-j.is)

pub returns-then-i-j : goal.returns-then-i-j
returns-then-i-j g c =
    let r = c.requires in
    let up = told g.T.Cover.covering c.args.items.now c.args.covered.now r.covered c.args.i c.args.j c.index-covered-i.result c.has-up.result r.one r.other c.index-covered-i.is c.has-up.ensures in
    grind (arith, up, c.if-up.true, c.if-i-j.true)

pub returns-else-i-j : goal.returns-else-i-j
returns-else-i-j g c =
    let r = c.requires in
    let up = told g.T.Cover.covering c.args.items.now c.args.covered.now r.covered c.args.i c.args.j c.index-covered-i.result c.has-up.result r.one r.other c.index-covered-i.is c.has-up.ensures in
    let down = told g.T.Cover.covering c.args.items.now c.args.covered.now r.covered c.args.j c.args.i c.index-covered-j.result c.has-down.result r.other r.one c.index-covered-j.is c.has-down.ensures in
    grind (arith, up, down, c.if-up.true, c.if-i-j.false)

pub returns-else-up : goal.returns-else-up
returns-else-up g c =
    let r = c.requires in
    let up = told g.T.Cover.covering c.args.items.now c.args.covered.now r.covered c.args.i c.args.j c.index-covered-i.result c.has-up.result r.one r.other c.index-covered-i.is c.has-up.ensures in
    grind (arith, up, c.if-up.false)
