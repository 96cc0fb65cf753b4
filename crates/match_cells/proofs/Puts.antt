-- An ask more, at a new operand or at one that is there.
use Rattle.std.proofs.Common.{◌≡◌, ◌&&◌, ◌==◌, ◌∙◌, ℕ, zero, suc, ◌+◌, ◌*◌, ◌/◌, ◌%◌, ◌<◌, ◌≤◌, not, cond, List, [], ◌∷◌, ◌++◌, length, get_or, set, refl, ap, ap₂, arith}
use Rattle.std.specs.Prelude.{Vec}
use Rattle.std.specs.List.{insert}
use Rattle.std.specs.declared.alloc.Global.{Global}
use Rattle.std.specs.declared.cmp.Ordering.{Ordering}
use Rattle.std.specs.declared.cmp.Ordering.TheVariants.{Equal}
use Rattle.std.proofs.lemmas.List.Sums.{sum_by-cons, sum_by_push}
use Rattle.match_cells.specs.declared.ask.Ask.{Ask}
use Rattle.match_cells.specs.declared.ask.Side.{Side}
use Rattle.match_cells.specs.Asks.{met, missed}
use Rattle.match_cells.specs.Cells.{Groups}
use Rattle.match_cells.specs.Places.{side_of, IsCell, missed_by}
use Rattle.base.proofs.Bools.{is_eq-equal}

-- what one more ask adds
abbrev pub more_missed : Side → ℕ → Ask → ℕ
more_missed side k a = cond ((a.id == k) && not (met side a)) 1 0

missed-push : (side : Side) (k : ℕ) (asks : List Ask) (a : Ask) → missed side k (asks ++ a ∷ []) ≡ more_missed side k a + missed side k asks
missed-push side k asks a = omega (arith, sum_by_push (λ b. cond {A = ℕ} ((b.id == k) && not (met side b)) 1 0) asks a)

module _ {K : Type 0} (order : K → K → Ordering) where
  pub missed-insert : (x : K) (k : ℕ) (cuts : List K) (groups : Groups) (p : ℕ) (key : K) (g : Vec Ask Global) → length cuts ≡ length groups → p ≤ length cuts → missed_by order x k (insert cuts p key) (insert groups p g) ≡ missed (side_of (order key x)) k g.items + missed_by order x k cuts groups
  missed-insert x k [] [] zero key g e l = refl
  missed-insert x k [] [] (suc p) key g e l = absurd (omega arith)
  missed-insert x k [] (h ∷ gs) p key g e l = absurd (omega arith)
  missed-insert x k (u ∷ us) [] p key g e l = absurd (omega arith)
  missed-insert x k (u ∷ us) (h ∷ gs) zero key g e l = refl
  missed-insert x k (u ∷ us) (h ∷ gs) (suc p) key g e l = omega (arith, missed-insert x k us gs p key g (omega arith) (omega arith))

  pub missed-set : (x : K) (k : ℕ) (cuts : List K) (groups : Groups) (p : ℕ) (d : K) (f g : Vec Ask Global) (a : Ask) → length cuts ≡ length groups → p < length cuts → g.items ≡ (get_or groups p f).items ++ a ∷ []
      → missed_by order x k cuts (set groups p g) ≡ more_missed (side_of (order (get_or cuts p d) x)) k a + missed_by order x k cuts groups
  missed-set x k [] groups p d f g a e l m = absurd (omega arith)
  missed-set x k (u ∷ us) [] p d f g a e l m = absurd (omega arith)
  missed-set x k (u ∷ us) (h ∷ gs) zero d f g a e l m = omega (arith, ap (missed (side_of (order u x)) k) m, missed-push (side_of (order u x)) k h.items a)
  missed-set x k (u ∷ us) (h ∷ gs) (suc p) d f g a e l m = omega (arith, missed-set x k us gs p d f g a (omega arith) (omega arith) m)

  missed-one : (side : Side) (k : ℕ) (a : Ask) → missed side k (a ∷ []) ≡ more_missed side k a
  missed-one side k a = omega (arith, sum_by-cons (λ b. cond {A = ℕ} ((b.id == k) && not (met side b)) 1 0) a [])

  pub put-new : (x : K) (k : ℕ) (cuts more : List K) (groups others : Groups) (p : ℕ) (key : K) (g : Vec Ask Global) (a : Ask) → length cuts ≡ length groups → p ≤ length cuts → more ≡ insert cuts p key → others ≡ insert groups p g → g.items ≡ a ∷ []
      → missed_by order x k more others ≡ more_missed (side_of (order key x)) k a + missed_by order x k cuts groups
  put-new x k cuts more groups others p key g a e l f h m =
      ap₂ (missed_by order x k) f h
      ∙ (missed-insert x k cuts groups p key g e l ∙ ap (λ z. z + missed_by order x k cuts groups) (ap (missed (side_of (order key x)) k) m ∙ missed-one (side_of (order key x)) k a))

  pub put-there : ((y z : K) → order y z ≡ Equal → y ≡ z) → (x : K) (k : ℕ) (cuts : List K) (groups : Groups) (cell : ℕ) (key : K) (f g : Vec Ask Global) (a : Ask) → length cuts ≡ length groups → IsCell order key cuts cell → cell ≤ 2 * length cuts → cell % 2 ≡ 1
      → f ≡ get_or groups (cell / 2) f → g.items ≡ f.items ++ a ∷ [] → missed_by order x k cuts (set groups (cell / 2) g) ≡ more_missed (side_of (order key x)) k a + missed_by order x k cuts groups
  put-there exact x k cuts groups cell key f g a e is l odd h m =
      let p : ℕ = cell / 2 in
      let inside : p < length cuts = omega arith in
      let same : get_or cuts p key ≡ key = exact (get_or cuts p key) key (is_eq-equal (order (get_or cuts p key) key) (is.there key p inside (omega arith))) in
      missed-set x k cuts groups p key f g a e inside (m ∙ ap (λ (v : Vec Ask Global). v.items ++ a ∷ []) h)
      ∙ ap (λ (y : K). more_missed (side_of (order y x)) k a + missed_by order x k cuts groups) same
