-- Lemmas on members of lists that are found by number.
use Rattle.std.proofs.Common.{◌≡◌, ◌≤◌, ◌-◌, ℕ, zero, suc, true, false, ◌&&◌, All, List, [], ◌∷◌, length, get_or, subst, sym, ap, refl, arith}
use Rattle.std.specs.Prelude.{None, Some, nat_le, nat_lt, slice_get}
use Rattle.std.proofs.lemmas.Grind.{common_steps}
use Rattle.std.proofs.lemmas.List.{get_or_default}
use Rattle.filter_text.specs.Deliveries.{Delivery}
use Rattle.net_inbox.specs.Inbox.{at_numbers, delivery_at}
use Rattle.base.proofs.Lists.{get-map}
use Rattle.output_report.specs.Published.{by_number}
use Rattle.output_patterns.specs.Found.{delivery_text, heard_in, id_text, place_text}
use Rattle.output_patterns.specs.Published.{at_number}

-- what holds of each list holds of the one with a number, where there is none too
pub each-number : (P : List Delivery → Type 0) (lists : List (List Delivery)) (n : ℕ) → P [] → All P lists → P (by_number lists n)
each-number P lists zero e h = e
each-number P lists (suc i) e h = go lists i h
  where
    go : (ls : List (List Delivery)) (k : ℕ) → All P ls → P (get_or ls k [])
    go [] k g = e
    go (l ∷ ls) zero g = g zero [] (omega arith)
    go (l ∷ ls) (suc k) g = go ls k (λ j d lt. g (suc j) d (omega (arith, lt)))

-- where there is such a publish its numbers are within
pub within : {A : Type 0} (lists : List (List A)) (p o : ℕ) → nat_lt 0 o && nat_le o (length (by_number lists p)) ≡ true → (1 ≤ o) × (o ≤ length (by_number lists p)) × (1 ≤ p) × (p ≤ length lists)
within {A = A} lists zero o e = absurd (none o e)
  where
    none : (o : ℕ) → nat_lt 0 o && nat_le o 0 ≡ true → ⊥
    none o f = grind (arith, common_steps)
within {A = A} lists (suc i) o e =
    let t = both o (length (get_or lists i [])) e in
    (t.0, t.1, omega arith, some lists i (omega (arith, t.0, t.1)))
  where
    both : (o n : ℕ) → nat_lt 0 o && nat_le o n ≡ true → (1 ≤ o) × (o ≤ n)
    both o n f = (grind (arith, common_steps), grind (arith, common_steps))

    some : (ls : List (List A)) (k : ℕ) → 1 ≤ length (get_or ls k []) → suc k ≤ length ls
    some [] k g = absurd (omega (arith, g))
    some (l ∷ ls) zero g = omega arith
    some (l ∷ ls) (suc k) g = omega (arith, some ls k g)

-- the member at a place is the one with the number after it
pub numbered : {A : Type 0} (lists : List (List A)) (n : ℕ) (d : List A) → 1 ≤ n → n ≤ length lists → get_or lists (n - 1) d ≡ by_number lists n
numbered lists zero d h k = absurd (omega (arith, h))
numbered lists (suc i) d h k = subst (λ m. get_or lists m d ≡ get_or lists i []) {x = i} {y = suc i - 1} (omega arith) (get_or_default lists i d [] (omega (arith, k)))

-- nothing is told of a place behind the last
pub no-place : (names : List (List ℕ)) (deliveries : List Delivery) (place at : ℕ) → 1 ≤ place → at ≡ place - 1 → nat_lt at (length deliveries) ≡ false → place_text names deliveries place ≡ []
no-place names deliveries zero at h e f = refl
no-place names deliveries (suc i) at h e f = go deliveries i (behind at i (length deliveries) (omega (arith, e)) f)
  where
    behind : (a i n : ℕ) → a ≡ i → nat_lt a n ≡ false → n ≤ i
    behind a i n p q = grind (arith, common_steps)

    go : (ds : List Delivery) (k : ℕ) → length ds ≤ k → delivery_text names (slice_get ds k) ≡ []
    go [] k l = refl
    go (d ∷ ds) zero l = absurd (omega (arith, l))
    go (d ∷ ds) (suc k) l = go ds k (omega (arith, l))

-- what is told of a place with a delivery
pub place-at : (names : List (List ℕ)) (all : List Delivery) (numbers : List ℕ) (place at n : ℕ) → 1 ≤ place → at ≡ place - 1 → slice_get numbers at ≡ Some n
    → id_text names (delivery_at all n).id ≡ place_text names (at_numbers all numbers) place
place-at names all numbers zero at n h e g = absurd (omega (arith, h))
place-at names all numbers (suc i) at n h e g =
    ap (delivery_text names) (sym (get-map (delivery_at all) numbers i n (subst (λ k. slice_get numbers k ≡ Some n) {x = at} {y = i} (omega (arith, e)) g)))

-- what a client with a number received
pub heard-by : (lists : List (List Delivery)) (n : ℕ) → heard_in (at_number lists n) ≡ by_number lists n
heard-by lists zero = refl
heard-by lists (suc i) = go lists i
  where
    go : (ls : List (List Delivery)) (k : ℕ) → heard_in (slice_get ls k) ≡ get_or ls k []
    go [] k = refl
    go (l ∷ ls) zero = refl
    go (l ∷ ls) (suc k) = go ls k

-- nothing is there, so the list is empty
pub none_there : {A : Type 0} (lists : List (List A)) (n : ℕ) → None ≡ at_number lists n → [] ≡ by_number lists n
none_there {A = A} lists zero e = refl
none_there {A = A} lists (suc i) e = go lists i e
  where
    go : (ls : List (List A)) (k : ℕ) → None ≡ slice_get ls k → [] ≡ get_or ls k []
    go [] k e = refl
    go (l ∷ ls) zero e = absurd cc
    go (l ∷ ls) (suc k) e = go ls k e
