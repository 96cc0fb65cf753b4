-- Proves that each step on the mark keeps its rule.
use Rattle.std.proofs.Common.{◌≡◌, ◌≢◌, ℕ, ◌+◌, ◌≤◌, Bool, true, false, [], ◌∷◌, ◌++◌, set, get_or, sym, refl, ap, ◌∙◌, subst, ⊎_elim, arith, length-set, get_or-set_same, le_refl, eqb}
use mathlib.Core.Logic.{dite}
use mathlib.Core.Option.{some}
use native.Mathlib.Decide.{ℕ_discrete}
use prog.Atomic.{either}
use lib.ListN.{get_elem?}
use Rattle.atomic_table.specs.Table.{State, Me, keeps, Allows, Splits}
use Rattle.atomic_table.proofs.Lists.{at_set, at_snoc, exchanged}
use Rattle.thread_lane.specs.declared.mark.View.{View}
use Rattle.thread_lane.specs.Mark.{putter, taker, FitsWord, Marked, Raised, Looked}
use Rattle.std.proofs.lemmas.Bool.{both_ways}

abbrev U : Type 0
U = Unit {0}

-- one view changes, and it puts exactly where it did
set_marked : (s : State U View) (id m : ℕ) (v w : View) → Marked s → get_elem? s.views id ≡ some v → w.puts ≡ v.puts → FitsWord m w
    → ((j : ℕ) (u : View) → j ≢ id → get_elem? s.views j ≡ some u → FitsWord m u)
    → Marked record { words = set s.words 0 m; homes = s.homes; views = set s.views id w }
set_marked s id m v w k at same mine others =
    let word : get_or (set s.words 0 m) 0 0 ≡ m = get_or-set_same s.words 0 m 0 (omega (arith, k.one_word)) in
    let was : (j : ℕ) (u : View) → get_elem? (set s.views id w) j ≡ some u → u.puts ≡ true → (z : View) × (get_elem? s.views j ≡ some z) × (z.puts ≡ true)
    = λ j u e p. ⊎_elim (λ (t : (j ≡ id) × (w ≡ u)). (v, ap (λ i. get_elem? s.views i) t.0 ∙ at, sym same ∙ ap (λ (z : View). z.puts) t.1 ∙ p)) (λ (t : (j ≢ id) × (get_elem? s.views j ≡ some u)). (u, t.1, p)) (at_set s.views id j w u e) in record {
      one_word = length-set s.words 0 m ∙ k.one_word;
      fit = λ j u e. subst (λ n. FitsWord n u) (sym word) (⊎_elim (λ (t : (j ≡ id) × (w ≡ u)). subst (λ z. FitsWord m z) t.1 mine) (λ (t : (j ≢ id) × (get_elem? s.views j ≡ some u)). others j u t.0 t.1) (at_set s.views id j w u e));
      one_puts = λ i j u z a b p q. let x = was i u a p in let y = was j z b q in k.one_puts i j x.0 y.0 x.1 y.1 x.2 y.2;
    }

pub fork_marked : (id : ℕ) (v : View) → Splits Marked id v v (taker 0 0)
fork_marked id v s k at =
    let old : (j : ℕ) (u : View) → get_elem? (set s.views id v) j ≡ some u → get_elem? s.views j ≡ some u
    = λ j u e. ⊎_elim (λ (t : (j ≡ id) × (v ≡ u)). ap (λ i. get_elem? s.views i) t.0 ∙ at ∙ ap (λ (z : View). some z) t.1) (λ (t : (j ≢ id) × (get_elem? s.views j ≡ some u)). t.1) (at_set s.views id j v u e) in
    let was : (j : ℕ) (u : View) → get_elem? (set s.views id v ++ taker 0 0 ∷ []) j ≡ some u → u.puts ≡ true → get_elem? s.views j ≡ some u
    = λ j u e p. ⊎_elim (λ here. old j u here) (λ (t : taker 0 0 ≡ u). absurd (both_ways u.puts (sym (ap (λ (z : View). z.puts) t)) p)) (at_snoc (set s.views id v) (taker 0 0) u j e) in record {
      one_word = k.one_word;
      fit = λ j u e. ⊎_elim (λ here. k.fit j u (old j u here)) (λ (t : taker 0 0 ≡ u). subst (λ z. FitsWord (get_or s.words 0 0) z) t record { is_its = λ p. absurd (both_ways true (sym p) refl); no_more = omega arith }) (at_snoc (set s.views id v) (taker 0 0) u j e);
      one_puts = λ i j u z a b p q. k.one_puts i j u z (was i u a p) (was j z b q) p q;
    }

pub raise_marked : (slots id new : ℕ) (v : View) (m : Me U View) → m ≡ (v, []) → v.puts ≡ true → v.count ≤ new
    → Allows Marked slots id m 0 (λ _. new) (λ _. Raised new m)
raise_marked slots id new v m is puts up = subst (λ (y : Me U View). Allows Marked slots id y 0 (λ _. new) (λ _. Raised new y)) (sym is)
    (λ s k wide at _. (
      putter new,
      keeps,
      tt,
      set_marked s id new v (putter new) k at (sym puts) record { is_its = λ _. refl; no_more = le_refl new }
          (λ j u far e. record { is_its = λ p. absurd (far (k.one_puts j id u v e at p puts)); no_more = let a = (k.fit id v at).is_its puts in let b = (k.fit j u e).no_more in omega (arith, a, b, up) }),
      record { view = refl; slots = refl },
    ))

either_same : (n had : ℕ) → either (eqb n had) had n ≡ n
either_same n had = exchanged n had had (λ k. k ≡ n) (λ e. sym e) (λ _. refl)

pub look_marked : (slots id had : ℕ) (v : View) (m : Me U View) → m ≡ (v, []) → v.puts ≡ false
    → Allows Marked slots id m 0 (λ n. either (eqb n had) had n) (Looked had m)
look_marked slots id had v m is puts = subst (λ (y : Me U View). Allows Marked slots id y 0 (λ n. either (eqb n had) had n) (Looked had y)) (sym is)
    (λ s k wide at _.
    let n = get_or s.words 0 0 in let same = either_same n had in
    let kept : (w : View) → w.puts ≡ v.puts → FitsWord n w → Marked record { words = set s.words 0 (either (eqb n had) had n); homes = s.homes; views = set s.views id w }
    = λ w p f. subst (λ x. Marked record { words = set s.words 0 x; homes = s.homes; views = set s.views id w }) (sym same) (set_marked s id n v w k at p f (λ j u _ e. k.fit j u e)) in
    let fits : (c : ℕ) → FitsWord n (taker n c) = λ c. record { is_its = λ p. absurd (both_ways false refl p); no_more = le_refl n } in
    dite (ℕ_discrete n had)
    (λ (hit : n ≡ had). (taker n (v.misses + 1), keeps, tt, kept (taker n (v.misses + 1)) (sym puts) (fits (v.misses + 1)), record { all_had = λ _. refl; more = λ miss. absurd (miss hit); slots = refl }))
    (λ (miss : n ≢ had). (taker n v.misses, keeps, tt, kept (taker n v.misses) (sym puts) (fits v.misses), record { all_had = λ hit. absurd (miss hit); more = λ _. refl; slots = refl })))
