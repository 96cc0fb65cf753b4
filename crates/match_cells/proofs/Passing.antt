-- From a cell to the next one.
use Rattle.std.proofs.Common.{◌≡◌, ◌↔◌, ◌==◌, ◌∙◌, ℕ, suc, ◌+◌, ◌*◌, ◌<◌, inl, inr, Bool, cond, nat_lt, List, [], ◌∷◌, ◌++◌, length, get_or, refl, sym, ap, subst, arith, eq-eqb, length-append}
use Rattle.std.specs.Prelude.{Vec}
use Rattle.std.specs.declared.alloc.Global.{Global}
use Rattle.std.proofs.lemmas.Bool.{cases_lt, ltb-true, lt-ltb}
use Rattle.std.proofs.lemmas.List.{get_or_append_left, get_or_push}
use Rattle.std.proofs.lemmas.List.Sums.{get_or-le-sum_by}
use Rattle.base_bits.specs.Words.{bit}
use Rattle.match_cells.specs.Changes.{Past, after, present, Continues}
use Rattle.match_cells.specs.declared.ask.Ask.{Ask}
use Rattle.match_cells.specs.declared.ask.Side.TheVariants as sides
use Rattle.match_cells.specs.Asks.{missed, own}
use Rattle.match_cells.specs.Cells.{Groups, asked, IsMet, AreTold}
use Rattle.match_cells.specs.Moves.{Show, AreMembers}
use Rattle.match_cells.specs.Walks.{IsCounted}
use Rattle.match_cells.proofs.Losses.{lost-at, lost-past}

own-some : (asks : List Ask) (i : ℕ) (d : Ask) → i < length asks → 0 < own (get_or asks i d).id asks
own-some asks i d l =
    let k = (get_or asks i d).id in
    let h = get_or-le-sum_by (λ (a : Ask). cond (a.id == k) 1 0) asks i d l in
    let e : ◌≡◌ {A = ℕ} (cond (k == k) 1 0) 1 = rw (eq-eqb k k refl) refl in
    omega (arith, h, e)

module _ (groups : Groups) (c : ℕ) (d : Vec Ask Global) (inside : c < length groups) (asks : List Ask) (is : asks ≡ (get_or groups c d).items) where
  are-asked : AreMembers (λ k. nat_lt 0 (asked k groups)) asks
  are-asked e i l =
      let k = (get_or asks i e).id in
      let h = get_or-le-sum_by (λ (g : Vec Ask Global). own k g.items) groups c d inside in
      lt-ltb 0 (asked k groups) (omega (arith, h, own-some asks i e l, ap (own k) is))

  module _ (cell : ℕ) (even : cell ≡ 2 * c) (counts new : List ℕ) (h g : Past) (shows : (members : ℕ → Bool) → AreMembers members asks → Show members counts (present h) → Show members new (present g)) where
    pub counted-at : IsCounted groups cell counts h → ((k : ℕ) → get_or new k 0 + missed sides.Below k asks ≡ get_or counts k 0 + missed sides.At k asks) → IsCounted groups (suc cell) new g
    counted-at was moved =
        record {
          each = λ k. omega (arith, moved k, was.each k, lost-at k groups c cell d even inside, ap (missed sides.Below k) is, ap (missed sides.At k) is);
          shows = shows (λ k. nat_lt 0 (asked k groups)) are-asked was.shows;
        }

    pub counted-past : IsCounted groups (suc cell) counts h → ((k : ℕ) → get_or new k 0 + missed sides.At k asks ≡ get_or counts k 0 + missed sides.Above k asks) → IsCounted groups (suc (suc cell)) new g
    counted-past was moved =
        record {
          each = λ k. omega (arith, moved k, was.each k, lost-past k groups c cell d even inside, ap (missed sides.At k) is, ap (missed sides.Above k) is);
          shows = shows (λ k. nat_lt 0 (asked k groups)) are-asked was.shows;
        }

-- the words now are those of the cell
pub met-now : (groups : Groups) (cell : ℕ) (counts : List ℕ) (h : Past) → IsCounted groups cell counts h → (k : ℕ) → (bit (present h) k ≡ 1) ↔ IsMet groups cell k
met-now groups cell counts h is k =
    let s = is.shows k in
    (λ b. let p = s.0 b in (ltb-true 0 (asked k groups) p.0, sym (is.each k) ∙ p.1), λ m. s.1 (lt-ltb 0 (asked k groups) m.0, is.each k ∙ m.1))

pub told-more : (groups : Groups) (cell : ℕ) (counts ends more : List ℕ) (n : ℕ) (h g : Past) → AreTold groups h ends → Continues h g → length ends ≡ cell → IsCounted groups cell counts g → more ≡ ends ++ n ∷ [] → n ≡ length g.changes → AreTold groups g more
told-more groups cell counts ends more n h g told goes long is e f i l = elim (cases_lt i (length ends)) [
  | inl m ↦
      let was = told i m in
      let x : get_or more i 0 ≡ get_or ends i 0 = ap (λ z. get_or z i 0) e ∙ get_or_append_left ends (n ∷ []) 0 i m in (
        omega (arith, was.0, x, goes.longer),
        λ k. subst (λ (r : ℕ). (bit (after g.first g.changes r) k ≡ 1) ↔ IsMet groups i k) (sym x) (subst (λ (w : List ℕ). (bit w k ≡ 1) ↔ IsMet groups i k) (sym (goes.same (get_or ends i 0) was.0)) (was.1 k)),
      )
  | inr m ↦
      let q : i ≡ cell = omega (arith, l, ap length e, length-append ends (n ∷ []), m, long) in
      let x : get_or more i 0 ≡ length g.changes = ap (λ z. get_or z i 0) e ∙ (get_or_push ends n 0 i (omega (arith, q, long)) ∙ f) in (
        omega (arith, x),
        λ k. subst (λ (r : ℕ). (bit (after g.first g.changes r) k ≡ 1) ↔ IsMet groups i k) (sym x) (subst (λ (z : ℕ). (bit (present g) k ≡ 1) ↔ IsMet groups z k) (sym q) (met-now groups cell counts g is k)),
      )
]
