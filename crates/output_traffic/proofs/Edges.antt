-- Lemmas on the links of a net, one by one.
use Rattle.std.proofs.Common.{◌≡◌, ℕ, zero, suc, ◌+◌, ◌-◌, ◌<◌, ◌&&◌, Bool, true, false, cond, nat_lt, List, [], ◌∷◌, ◌++◌, inl, inr, length, map, filter, get_or, refl, sym, ap, ◌∙◌, arith, append_assoc}
use Rattle.std.specs.List.{flat_map, range_with_len}
use Rattle.base.specs.Sets.{Has}
use Rattle.base_tree.specs.Tree.{Topology}
use Rattle.output_traffic.specs.Links.{is_link, links_from}

pub at-has : {X : Type 0} (xs : List X) (i : ℕ) (x : X) → i < length xs → x ≡ get_or xs i x → Has x xs
at-has [] i x l e = absurd (omega arith)
at-has (y ∷ xs) zero x l e = inl e
at-has (y ∷ xs) (suc i) x l e = inr (at-has xs i x (omega arith) e)

range-next : (a n : ℕ) → a < n + 1 → range_with_len a (n + 1 - a) ≡ a ∷ range_with_len (a + 1) (n + 1 - (a + 1))
range-next a n l = let e : n + 1 - a ≡ suc (n + 1 - (a + 1)) = omega (arith, l) in ap (range_with_len a) e

module _ (trees : List (ℕ × Topology)) (n a : ℕ) where
  abbrev left : ℕ → List (ℕ × ℕ)
  left b = links_from trees (range_with_len b (n + 1 - b)) a

  one-more : (b : ℕ) (links : List (ℕ × ℕ)) → (test : Bool) (rest : List ℕ)
      → links ++ map (λ b. (a, b)) (cond test (b ∷ rest) rest) ≡ cond test (links ++ (a, b) ∷ []) links ++ map (λ b. (a, b)) rest
  one-more b links true rest = sym (append_assoc links ((a, b) ∷ []) (map (λ b. (a, b)) rest))
  one-more b links false rest = refl

  -- a server more was looked at
  pub up-next : (b : ℕ) (links next whole : List (ℕ × ℕ)) → b < n + 1 → links ++ left b ≡ whole
      → next ≡ cond (nat_lt a b && is_link trees a b) (links ++ (a, b) ∷ []) links → next ++ left (b + 1) ≡ whole
  up-next b links next whole l kept is =
      ap (λ z. z ++ left (b + 1)) is
      ∙ (sym (one-more b links (nat_lt a b && is_link trees a b) (filter (λ b. nat_lt a b && is_link trees a b) (range_with_len (b + 1) (n + 1 - (b + 1)))))
      ∙ (ap (λ z. links ++ links_from trees z a) (sym (range-next b n l)) ∙ kept))

-- the links of a server more were put
pub all-next : (f : ℕ → List (ℕ × ℕ)) (n a : ℕ) (links next whole : List (ℕ × ℕ)) → a < n + 1 → links ++ flat_map f (range_with_len a (n + 1 - a)) ≡ whole → next ≡ links ++ f a
    → next ++ flat_map f (range_with_len (a + 1) (n + 1 - (a + 1))) ≡ whole
all-next f n a links next whole l kept is =
    ap (λ z. z ++ flat_map f (range_with_len (a + 1) (n + 1 - (a + 1)))) is
    ∙ (append_assoc links (f a) (flat_map f (range_with_len (a + 1) (n + 1 - (a + 1)))) ∙ (ap (λ z. links ++ flat_map f z) (sym (range-next a n l)) ∙ kept))
