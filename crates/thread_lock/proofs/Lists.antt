-- Lists of views, and lists that begin one another.
use Rattle.std.proofs.Common.{◌≡◌, ◌≢◌, ℕ, zero, suc, ◌+◌, ◌≤◌, Bool, true, false, List, [], ◌∷◌, ◌++◌, map, set, sym, refl, ap, ◌∙◌, append-nil, append_assoc, arith}
use mathlib.Core.List.{IsPrefix}
use mathlib.Core.Option.{some, some-injective, some-ne-none}
use lib.ListN.{get_elem?}
use Rattle.std.proofs.lemmas.List.{map-append}
use Rattle.thread_lock.specs.declared.view.View.{View}
use Rattle.std.specs.List.{range_with_len}
use Rattle.thread_lock.specs.Rule.{EachBegins, total, Fits}
use Rattle.base.proofs.Lists.{range-push}

module _ {A : Type 0} where
  pub set_at : (l : List A) (i : ℕ) (a b : A) → get_elem? l i ≡ some a → get_elem? (set l i b) i ≡ some b
  set_at [] i a b e = absurd (some-ne-none a (sym e))
  set_at (x ∷ xs) zero a b e = refl
  set_at (x ∷ xs) (suc i) a b e = set_at xs i a b e

  pub same_at : (l : List A) (i j : ℕ) (a b : A) → get_elem? l i ≡ some a → get_elem? l j ≡ some b → i ≡ j → a ≡ b
  same_at l i j a b p q e = some-injective a b (sym p ∙ ap (λ k. get_elem? l k) e ∙ q)

  pub at_append : (l m : List A) (i : ℕ) (a : A) → get_elem? l i ≡ some a → get_elem? (l ++ m) i ≡ some a
  at_append [] m i a e = absurd (some-ne-none a (sym e))
  at_append (x ∷ xs) m zero a e = e
  at_append (x ∷ xs) m (suc i) a e = at_append xs m i a e

  pub begins_self : (xs : List A) → IsPrefix xs xs
  begins_self xs = ([], append-nil xs)

  pub begins_trans : (xs ys zs : List A) → IsPrefix ys xs → IsPrefix zs ys → IsPrefix zs xs
  begins_trans xs ys zs p q = (q.0 ++ p.0, sym (append_assoc zs q.0 p.0) ∙ ap (λ l. l ++ p.0) q.1 ∙ p.1)

  pub each_trans : (xs ys : List A) (ls : List (List A)) → IsPrefix ys xs → EachBegins ys ls → EachBegins xs ls
  each_trans xs ys [] p q = tt
  each_trans xs ys (l ∷ ls) p q = (begins_trans xs ys l p q.0, each_trans xs ys ls p q.1)

  pub each_append : (xs : List A) (ls ms : List (List A)) → EachBegins xs ls → EachBegins xs ms → EachBegins xs (ls ++ ms)
  each_append xs [] ms p q = q
  each_append xs (l ∷ ls) ms p q = (p.0, each_append xs ls ms p.1 q)

  pub each_left : (xs : List A) (ls ms : List (List A)) → EachBegins xs (ls ++ ms) → EachBegins xs ls
  each_left xs [] ms p = tt
  each_left xs (l ∷ ls) ms p = (p.0, each_left xs ls ms p.1)

  pub each_right : (xs : List A) (ls ms : List (List A)) → EachBegins xs (ls ++ ms) → EachBegins xs ms
  each_right xs [] ms p = p
  each_right xs (l ∷ ls) ms p = each_right xs ls ms p.1

  pub numbers_push : (f : A → ℕ) (n : ℕ) (ps : List A) (p : A) → map f ps ≡ range_with_len 0 n → f p ≡ n → map f (ps ++ p ∷ []) ≡ range_with_len 0 (n + 1)
  numbers_push f n ps p c e = map-append f ps (p ∷ []) ∙ ap (λ l. l ++ f p ∷ []) c ∙ ap (λ k. range_with_len 0 n ++ k ∷ []) e ∙ sym (range-push n)

module _ {I R : Type 0} where
  pub total_set : (f : View I R → ℕ) (vs : List (View I R)) (j : ℕ) (v w : View I R) → get_elem? vs j ≡ some v → total f (set vs j w) + f v ≡ total f vs + f w
  total_set f [] j v w e = absurd (some-ne-none v (sym e))
  total_set f (x ∷ xs) zero v w e = let s : f x ≡ f v = ap f (some-injective x v e) in omega (arith, s)
  total_set f (x ∷ xs) (suc j) v w e = omega (arith, total_set f xs j v w e)

  pub total_snoc : (f : View I R → ℕ) (vs : List (View I R)) (w : View I R) → total f (vs ++ w ∷ []) ≡ total f vs + f w
  total_snoc f [] w = omega arith
  total_snoc f (x ∷ xs) w = omega (arith, total_snoc f xs w)

  pub total_one : (f : View I R → ℕ) (vs : List (View I R)) (j : ℕ) (v : View I R) → get_elem? vs j ≡ some v → f v ≤ total f vs
  total_one f [] j v e = absurd (some-ne-none v (sym e))
  total_one f (x ∷ xs) zero v e = let s : f x ≡ f v = ap f (some-injective x v e) in omega (arith, s)
  total_one f (x ∷ xs) (suc j) v e = omega (arith, total_one f xs j v e)

  pub total_two : (f : View I R → ℕ) (vs : List (View I R)) (i j : ℕ) (v w : View I R) → get_elem? vs i ≡ some v → get_elem? vs j ≡ some w → i ≢ j → f v + f w ≤ total f vs
  total_two f [] i j v w e h n = absurd (some-ne-none v (sym e))
  total_two f (x ∷ xs) zero zero v w e h n = absurd (n refl)
  total_two f (x ∷ xs) zero (suc j) v w e h n = let s : f x ≡ f v = ap f (some-injective x v e) in omega (arith, s, total_one f xs j w h)
  total_two f (x ∷ xs) (suc i) zero v w e h n = let s : f x ≡ f w = ap f (some-injective x w h) in omega (arith, s, total_one f xs i v e)
  total_two f (x ∷ xs) (suc i) (suc j) v w e h n = omega (arith, total_two f xs i j v w e h (λ s. n (ap suc s)))

  pub fits_more : (r : R) (front back : List I) (u : View I R) → IsPrefix back front → Fits r back u → Fits r front u
  fits_more r front back u p f = record { knows = f.knows; saw = begins_trans front back u.seen p f.saw; joined_saw = each_trans front back u.joined p f.joined_saw }
