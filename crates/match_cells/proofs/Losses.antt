-- How many asks are missed in a cell and in the next one.
use Rattle.std.proofs.Common.{◌≡◌, ◌∙◌, ℕ, zero, suc, ◌+◌, ◌*◌, ◌^◌, ◌<◌, ◌≤◌, List, [], ◌∷◌, length, take, get_or, refl, sym, ap, arith}
use Rattle.std.specs.Prelude.{Vec}
use Rattle.std.specs.List.{sum_by}
use Rattle.std.specs.declared.alloc.Global.{Global}
use Rattle.std.proofs.lemmas.List.Sums.{sum_by-cons, count_by-le-length, sum_by-le-sum_by, sum_by-take-le, get_or-le-sum_by}
use Rattle.match_cells.specs.declared.ask.Ask.{Ask}
use Rattle.match_cells.specs.declared.ask.Side.{Side}
use Rattle.match_cells.specs.declared.ask.Side.TheVariants as sides
use Rattle.match_cells.specs.Asks.{missed, missed_below}
use Rattle.match_cells.specs.Cells.{Groups, lost_in, total}

pub lost-first : (k : ℕ) (groups : Groups) → lost_in k groups 0 ≡ sum_by (λ (g : Vec Ask Global). missed_below k g.items) groups
lost-first k [] = refl
lost-first k (g ∷ gs) = ap (λ z. missed_below k g.items + z) (lost-first k gs) ∙ sym (sum_by-cons (λ (h : Vec Ask Global). missed_below k h.items) g gs)

missed-le : (side : Side) (k : ℕ) (asks : List Ask) → missed side k asks ≤ length asks
missed-le side k asks = count_by-le-length _ asks

pub lost-le : (k : ℕ) (groups : Groups) (cell : ℕ) → lost_in k groups cell ≤ total groups
lost-le k [] cell = omega arith
lost-le k (g ∷ gs) zero = omega (arith, lost-le k gs zero, missed-le sides.Below k g.items, sum_by-cons (λ (h : Vec Ask Global). length h.items) g gs)
lost-le k (g ∷ gs) (suc zero) = omega (arith, lost-le k gs zero, missed-le sides.At k g.items, sum_by-cons (λ (h : Vec Ask Global). length h.items) g gs)
lost-le k (g ∷ gs) (suc (suc cell)) = omega (arith, lost-le k gs cell, missed-le sides.Above k g.items, sum_by-cons (λ (h : Vec Ask Global). length h.items) g gs)

pub lost-at : (k : ℕ) (groups : Groups) (c cell : ℕ) (d : Vec Ask Global) → cell ≡ 2 * c → c < length groups → lost_in k groups (suc cell) + missed sides.Below k (get_or groups c d).items ≡ lost_in k groups cell + missed sides.At k (get_or groups c d).items
lost-at k [] c cell d e l = absurd (omega arith)
lost-at k (g ∷ gs) zero zero d e l = omega arith
lost-at k (g ∷ gs) zero (suc cell) d e l = absurd (omega arith)
lost-at k (g ∷ gs) (suc c) zero d e l = absurd (omega arith)
lost-at k (g ∷ gs) (suc c) (suc zero) d e l = absurd (omega arith)
lost-at k (g ∷ gs) (suc c) (suc (suc cell)) d e l = omega (arith, lost-at k gs c cell d (omega arith) (omega arith))

pub lost-past : (k : ℕ) (groups : Groups) (c cell : ℕ) (d : Vec Ask Global) → cell ≡ 2 * c → c < length groups → lost_in k groups (suc (suc cell)) + missed sides.At k (get_or groups c d).items ≡ lost_in k groups (suc cell) + missed sides.Above k (get_or groups c d).items
lost-past k [] c cell d e l = absurd (omega arith)
lost-past k (g ∷ gs) zero zero d e l = omega arith
lost-past k (g ∷ gs) zero (suc cell) d e l = absurd (omega arith)
lost-past k (g ∷ gs) (suc c) zero d e l = absurd (omega arith)
lost-past k (g ∷ gs) (suc c) (suc zero) d e l = absurd (omega arith)
lost-past k (g ∷ gs) (suc c) (suc (suc cell)) d e l = omega (arith, lost-past k gs c cell d (omega arith) (omega arith))

-- what is missed at one operand is part of it
pub part-below : (k : ℕ) (groups : Groups) (c cell : ℕ) (d : Vec Ask Global) → cell ≡ 2 * c → c < length groups → missed sides.Below k (get_or groups c d).items ≤ lost_in k groups cell
part-below k [] c cell d e l = absurd (omega arith)
part-below k (g ∷ gs) zero zero d e l = omega arith
part-below k (g ∷ gs) zero (suc cell) d e l = absurd (omega arith)
part-below k (g ∷ gs) (suc c) zero d e l = absurd (omega arith)
part-below k (g ∷ gs) (suc c) (suc zero) d e l = absurd (omega arith)
part-below k (g ∷ gs) (suc c) (suc (suc cell)) d e l = omega (arith, part-below k gs c cell d (omega arith) (omega arith))

pub part-at : (k : ℕ) (groups : Groups) (c cell : ℕ) (d : Vec Ask Global) → cell ≡ 2 * c → c < length groups → missed sides.At k (get_or groups c d).items ≤ lost_in k groups (suc cell)
part-at k [] c cell d e l = absurd (omega arith)
part-at k (g ∷ gs) zero zero d e l = omega arith
part-at k (g ∷ gs) zero (suc cell) d e l = absurd (omega arith)
part-at k (g ∷ gs) (suc c) zero d e l = absurd (omega arith)
part-at k (g ∷ gs) (suc c) (suc zero) d e l = absurd (omega arith)
part-at k (g ∷ gs) (suc c) (suc (suc cell)) d e l = omega (arith, part-at k gs c cell d (omega arith) (omega arith))

pub fits-below : (k n : ℕ) (groups : Groups) (c : ℕ) (d : Vec Ask Global) → c < length groups → n ≡ sum_by (λ (g : Vec Ask Global). missed_below k g.items) (take c groups) → total groups < 2 ^ 31 → n + length (get_or groups c d).items < 2 ^ 32
fits-below k n groups c d l e few =
    let a = sum_by-le-sum_by (λ (g : Vec Ask Global). missed_below k g.items) (λ (g : Vec Ask Global). length g.items) (take c groups) (λ g. missed-le sides.Below k g.items) in
    let b = sum_by-take-le (λ (g : Vec Ask Global). length g.items) groups c in
    let f = get_or-le-sum_by (λ (g : Vec Ask Global). length g.items) groups c d l in
    omega (arith, e, few, a, b, f)

pub fits-lost : (k n : ℕ) (groups : Groups) (cell c : ℕ) (d : Vec Ask Global) → c < length groups → n ≡ lost_in k groups cell → total groups < 2 ^ 31 → n + length (get_or groups c d).items < 2 ^ 32
fits-lost k n groups cell c d l e few =
    let b = lost-le k groups cell in
    let f = get_or-le-sum_by (λ (g : Vec Ask Global). length g.items) groups c d l in
    omega (arith, e, few, b, f)
