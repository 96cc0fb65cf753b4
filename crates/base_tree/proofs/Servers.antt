-- Servers and neighbours as rising lists, and the laws of a tree from its hops.
use Rattle.std.proofs.Common.{◌≡◌, ℕ, zero, suc, ◌+◌, ◌<◌, ◌≤◌, Bool, true, false, cond, nat_lt, nat_le, filter, add-zero, append-nil, ◌-◌, length, get_or, List, [], ◌∷◌, ◌++◌, ◌⊎◌, inl, inr, refl, sym, ap, ◌∙◌, arith}
use Rattle.std.proofs.lemmas.Bool.Decides.{nat_tests}
use Rattle.std.proofs.lemmas.Grind.{common_steps}
use Rattle.std.specs.List.{range_with_len}
use Rattle.base.specs.Laws.{CoverLaws}
use Rattle.base.specs.Sets.{Has, IsRising}
use Rattle.base.specs.Numbers.{IsDistinct}
use Rattle.base.proofs.Roots.{Has-filter, filter-Has}
use Rattle.base.proofs.Sets.{rising-filter, has-range, range-has, range-rises}
use Rattle.base_tree.specs.Graph.{has_edge, servers_to, neighbours_by}
use Rattle.base_tree.specs.Hops.{AreHops}
use Rattle.base_tree.proofs.Joined.{has_edge-back}
use Rattle.base_tree.specs.Labels.{Labelled}
use Rattle.base_tree.proofs.Forest.{In, Hopped}

numbers : CoverLaws nat_le nat_lt
numbers = record { reflexive = λ x. grind (arith, nat_tests); transitive = λ x y z e f. grind (arith, nat_tests, e, f); irreflexive = λ x. grind (arith, nat_tests); chain = λ x y z e f. grind (arith, nat_tests, e, f); total = λ x y e f. grind (arith, nat_tests, e, f) }

pub distinct-rising : (xs : List ℕ) → IsRising nat_lt xs → IsDistinct xs
distinct-rising [] r = tt
distinct-rising (x ∷ xs) r = ((λ h. not-less x (r.0 x h)), distinct-rising xs r.1)
  where
    not-less : (x : ℕ) → nat_lt x x ≡ true → ⊥
    not-less x e = grind (arith, nat_tests, e)

first-or-later : (a x : ℕ) → a ≤ x → (x ≡ a) ⊎ (a + 1 ≤ x)
first-or-later a x l = grind (arith, l)

pub server-in : (n x : ℕ) → Has x (servers_to n) → In n x
server-in n x h = let r = has-range 1 n x h in (r.0, omega (arith, r.1))

pub in-server : (n x : ℕ) → In n x → Has x (servers_to n)
in-server n x i = range-has 1 n x i.0 (omega (arith, i.1))

pub rising-neighbours : (n : ℕ) (edges : List (ℕ × ℕ)) (a : ℕ) → IsRising nat_lt (neighbours_by n edges a)
rising-neighbours n edges a = rising-filter numbers (has_edge edges a) (servers_to n) (range-rises 1 n)

-- where all have one label, the hops of the forest are those of a tree
pub hops-of : (n : ℕ) (edges : List (ℕ × ℕ)) (label : ℕ → ℕ) (hop : ℕ → ℕ → ℕ) → Labelled n edges label → Hopped n edges label hop → ((x : ℕ) → In n x → label x ≡ label 1) → AreHops (servers_to n) (neighbours_by n edges) hop
hops-of n edges label hop labels hops one = record {
  distinct = distinct-rising (servers_to n) (range-rises 1 n);
  single = λ a. distinct-rising (neighbours_by n edges a) (rising-neighbours n edges a);
  linked = λ a b h. in-server n a (labels.ends a b (edge a b h)).0;
  both = λ a b h. neighbour b a (has_edge-back edges a b (edge a b h));
  apart = λ a h. hops.apart a (edge a a h);
  near = λ b x i j m. neighbour b (hop b x) (hops.near b x (server-in n b i) (server-in n x j) (same x b (server-in n x j) (server-in n b i)) m);
  one_side = λ a b x h i. hops.one_side a b x (edge a b h) (server-in n x i) (same x a (server-in n x i) (labels.ends a b (edge a b h)).0);
}
  where
    edge : (a b : ℕ) → Has b (neighbours_by n edges a) → has_edge edges a b ≡ true
    edge a b h = (filter-Has (has_edge edges a) b (servers_to n) h).1

    neighbour : (a b : ℕ) → has_edge edges a b ≡ true → Has b (neighbours_by n edges a)
    neighbour a b e = Has-filter (has_edge edges a) b (servers_to n) (in-server n b (labels.ends a b e).1) e

    same : (x y : ℕ) → In n x → In n y → label x ≡ label y
    same x y i j = one x i ∙ sym (one y j)

-- a filtered range takes in the next number
pub filter-range : (p : ℕ → Bool) (a n x : ℕ) → a + n ≡ x → filter p (range_with_len a (suc n)) ≡ filter p (range_with_len a n) ++ cond (p x) (x ∷ []) []
filter-range p a zero x e = first (p a) (p x) (ap p (sym (add-zero a) ∙ e)) a x (sym (add-zero a) ∙ e)
  where
    first : (y z : Bool) → y ≡ z → (a x : ℕ) → a ≡ x → cond y (a ∷ []) [] ≡ cond z (x ∷ []) []
    first y z q a x r = rw (q, r) refl
filter-range p a (suc n) x e = front (p a) a (filter p (range_with_len (a + 1) (suc n))) (filter p (range_with_len (a + 1) n)) (filter-range p (a + 1) n x (omega arith))
  where
    front : (y : Bool) (a : ℕ) (xs ys : List ℕ) → xs ≡ ys ++ cond (p x) (x ∷ []) [] → cond y (a ∷ xs) xs ≡ cond y (a ∷ ys) ys ++ cond (p x) (x ∷ []) []
    front true a xs ys q = ap (λ z. a ∷ z) q
    front false a xs ys q = q

-- the same, as a loop from 1 on counts
pub filter-up_to : (p : ℕ → Bool) (x : ℕ) → 1 ≤ x → filter p (range_with_len 1 (x + 1 - 1)) ≡ filter p (range_with_len 1 (x - 1)) ++ cond (p x) (x ∷ []) []
filter-up_to p x l =
    let size : x + 1 - 1 ≡ suc (x - 1) = omega arith in
    rw size (filter-range p 1 (x - 1) x (omega arith))

pub filter-more : (p : ℕ → Bool) (x : ℕ) (xs : List ℕ) → 1 ≤ x → xs ≡ filter p (range_with_len 1 (x - 1)) → p x ≡ true → xs ++ x ∷ [] ≡ filter p (range_with_len 1 (x + 1 - 1))
filter-more p x xs l e f = sym (filter-up_to p x l ∙ rw (f, sym e) refl)

pub filter-not : (p : ℕ → Bool) (x : ℕ) (xs : List ℕ) → 1 ≤ x → xs ≡ filter p (range_with_len 1 (x - 1)) → p x ≡ false → xs ≡ filter p (range_with_len 1 (x + 1 - 1))
filter-not p x xs l e f = sym (filter-up_to p x l ∙ rw (f, sym e) (append-nil xs))

-- rows that follow f, and one more
pub rows-more : (rows new : List (List ℕ)) (row : List ℕ) (f : ℕ → List ℕ) (a : ℕ) → new ≡ rows ++ row ∷ [] → length rows ≡ a → ((x : ℕ) → 1 ≤ x → x < a → get_or rows x [] ≡ f x) → row ≡ f a → (x : ℕ) → 1 ≤ x → x < a + 1 → get_or new x [] ≡ f x
rows-more rows new row f a is size done e x low high = go (last-or-before x a high)
  where
    last-or-before : (x a : ℕ) → x < a + 1 → (x ≡ a) ⊎ (x < a)
    last-or-before x a h = grind (arith, h)

    last : (rows : List (List ℕ)) (row : List ℕ) (n : ℕ) → length rows ≡ n → get_or (rows ++ row ∷ []) n [] ≡ row
    last rows row n e = grind (arith, common_steps, e)

    before : (rows : List (List ℕ)) (row : List ℕ) (n : ℕ) → n < length rows → get_or (rows ++ row ∷ []) n [] ≡ get_or rows n []
    before rows row n l = grind (arith, common_steps, l)

    go : (x ≡ a) ⊎ (x < a) → get_or new x [] ≡ f x
    go (inl p) = rw is (last rows row x (size ∙ sym p)) ∙ e ∙ ap f (sym p)
    go (inr l) = rw is (before rows row x (omega (arith, size))) ∙ done x low l
