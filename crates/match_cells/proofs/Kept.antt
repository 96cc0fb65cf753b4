-- What a history keeps, as a change is added and as a mark is.
use Rattle.std.proofs.Common.{◌≡◌, ◌≢◌, ◌==◌, Bool, true, false, not, bit_xor, ℕ, ◌+◌, ◌*◌, ◌/◌, ◌%◌, ◌^◌, ◌<◌, ◌≤◌, inl, inr, List, [], ◌∷◌, ◌++◌, length, take, drop, get_or, ◌-◌, refl, sym, ap, ap₂, subst, ◌∙◌, arith, length-append}
use Rattle.std.specs.List.{fold}
use Rattle.std.proofs.lemmas.Bool.{cases_lt}
use Rattle.std.proofs.lemmas.List.{length-set, length-drop, drop_all, get_or_append_left, get_or_push, take_all, take-append-le, drop-append-le}
use Rattle.std.proofs.lemmas.List.Sums.{fold_push}
use Rattle.std.proofs.Math.Nat.{mul-le-mul_right, mod-eq_of_lt}
use Rattle.std.proofs.Math.Pow.{pow-lt}
use Rattle.std.specs.Int.{bit_at}
use Rattle.std.proofs.lemmas.Nat.Bits.{bit_at_xor, bit_at-lt, bit_at-pow_same, bit_at-pow_other}
use Rattle.base_bits.specs.Words.{bit}
use Rattle.base_bits.proofs.Bits.{bit-small, set-same, set-other}
use Rattle.match_cells.specs.Changes.{Past, turned, after, present, AreWithin, words_at, IsKept, IsPut}

pub length-turned : (words changes : List ℕ) → length (fold turned words changes) ≡ length words
length-turned words [] = refl
length-turned words (k ∷ changes) = length-turned (turned words k) changes ∙ length-set words (k / 64) _

pub length-after : (first changes : List ℕ) (r : ℕ) → length (after first changes r) ≡ length first
length-after first changes r = length-turned first (take r changes)

-- what was before one more change, and what is behind it
pub after-before : (first changes : List ℕ) (k r : ℕ) → r ≤ length changes → after first (changes ++ k ∷ []) r ≡ after first changes r
after-before first changes k r l = ap (fold turned first) (take-append-le r changes (k ∷ []) l)

pub after-all : (first changes : List ℕ) (r : ℕ) → length changes ≤ r → after first changes r ≡ fold turned first changes
after-all first changes r l = ap (fold turned first) (take_all r changes l)

pub after-more : (first changes : List ℕ) (k : ℕ) → after first (changes ++ k ∷ []) (length (changes ++ k ∷ [])) ≡ turned (after first changes (length changes)) k
after-more first changes k =
    after-all first (changes ++ k ∷ []) (length (changes ++ k ∷ [])) (omega arith)
    ∙ (fold_push turned first changes k ∙ ap (λ w. turned w k) (sym (after-all first changes (length changes) (omega arith))))

within-more : (span : ℕ) (changes : List ℕ) (k : ℕ) → AreWithin span changes → k < 64 * span → AreWithin span (changes ++ k ∷ [])
within-more span changes k h l i m = elim (cases_lt i (length changes)) [
  | inl n ↦ subst (λ (z : ℕ). z < 64 * span) (sym (get_or_append_left changes (k ∷ []) 0 i n)) (h i n)
  | inr n ↦ subst (λ (z : ℕ). z < 64 * span) (sym (get_or_push changes k 0 i (omega (arith, length-append changes (k ∷ []))))) l
]

module _ {span count : ℕ} {marks now first changes : List ℕ} (is : IsKept span count marks now first changes) where
  pub length-now : length now ≡ span
  length-now = ap length is.present ∙ (length-after first changes (length changes) ∙ is.wide)

  pub kept-change : (k : ℕ) (new : List ℕ) → k < 64 * span → new ≡ turned now k → IsKept span count marks new first (changes ++ k ∷ [])
  kept-change k new l e =
      record {
        wide = is.wide;
        present = e ∙ (ap (λ w. turned w k) is.present ∙ sym (after-more first changes k));
        within = within-more span changes k is.within l;
        some = is.some;
        long = is.long;
        past = omega (arith, is.past, length-append changes (k ∷ []));
        marked = λ s m. is.marked s m ∙ sym (after-before first changes k (s * 32) (omega (arith, is.past, m)));
      }

  -- the marks are as long as their number says
  pub within-marks : (s : ℕ) → s < count → s * span + span ≤ length marks
  within-marks s l = let h : s + 1 ≤ count = omega arith in omega (arith, is.long, mul-le-mul_right span h)

  pub kept-mark : length changes ≡ count * 32 → IsKept span (count + 1) (marks ++ now) now first changes
  kept-mark e =
      record {
        wide = is.wide;
        present = is.present;
        within = is.within;
        some = omega arith;
        long = omega (arith, length-append marks now, is.long, length-now);
        past = omega (arith, e);
        marked = go;
      }
    where
      go : (s : ℕ) → s < count + 1 → words_at (marks ++ now) (s * span) span ≡ after first changes (s * 32)
      go s l = elim (cases_lt s count) [
        | inl m ↦
            let w = within-marks s m in
            let d : length (drop (s * span) marks) ≡ length marks - s * span = length-drop (s * span) marks in
            ap (take span) (drop-append-le (s * span) marks now (omega arith)) ∙ (take-append-le span (drop (s * span) marks) now (omega (arith, d, w)) ∙ is.marked s m)
        | inr m ↦
            let t : s ≡ count = omega arith in
            let long : length marks ≡ s * span = is.long ∙ ap (λ k. k * span) (sym t) in
            ap (take span) (drop-append-le (s * span) marks now (omega (arith, long)) ∙ ap (λ z. z ++ now) (drop_all (s * span) marks (omega (arith, long))))
            ∙ (take_all span now (omega (arith, length-now)) ∙ (is.present ∙ ap (after first changes) (e ∙ ap (λ k. k * 32) (sym t))))
      ]

  -- the first mark stays where more are added
  pub first-stays : take span (marks ++ now) ≡ take span marks
  first-stays = let h = within-marks 0 is.some in take-append-le span marks now (omega (arith, h))

-- the same where the lists are told by equations
module _ {span count : ℕ} {marks now changes : List ℕ} (is : IsKept span count marks now (take span marks) changes) (k : ℕ) (l : k < 64 * span) (new more : List ℕ) (e : new ≡ turned now k) (m : more ≡ changes ++ k ∷ []) where
  pub changed : IsKept span count marks new (take span marks) more
  changed = subst (IsKept span count marks new (take span marks)) (sym m) (kept-change is k new l e)

  pub changed-still : (marks' : List ℕ) → marks' ≡ marks → IsKept span count marks' new (take span marks') more
  changed-still marks' f = subst (λ (z : List ℕ). IsKept span count z new (take span z) more) (sym f) changed

  pub changed-marked : (marks' from : List ℕ) → length more ≡ count * 32 → marks' ≡ marks ++ from → from ≡ new → IsKept span (count + 1) marks' new (take span marks') more
  changed-marked marks' from h f g =
      subst (λ (z : List ℕ). IsKept span (count + 1) z new (take span z) more) (sym (f ∙ ap (λ z. marks ++ z) g))
      (subst (λ (z : List ℕ). IsKept span (count + 1) (marks ++ new) new z more) (sym (first-stays changed)) (kept-mark changed h))

-- a bit that is turned
one-bit : (q : ℕ) → q < 64 → 1 * 2 ^ q % 2 ^ 64 ≡ 2 ^ q
one-bit q l = ap (λ z. z % 2 ^ 64) (one-times (2 ^ q)) ∙ mod-eq_of_lt (pow-lt l)
  where
    one-times : (n : ℕ) → 1 * n ≡ n
    one-times n = omega arith

bit-is : (words : List ℕ) (k : ℕ) → bit words k ≡ bit_at (get_or words (k / 64) 0) (k % 64)
unfolding bit
bit-is words k = refl

pub turned-same : (words : List ℕ) (k : ℕ) → k < 64 * length words → bit (turned words k) k + bit words k ≡ 1
turned-same words k l =
    let w = get_or words (k / 64) 0 in
    let e = set-same words k (bit_xor w (1 * 2 ^ (k % 64) % 2 ^ 64)) l in
    let x = bit_at_xor w (1 * 2 ^ (k % 64) % 2 ^ 64) (k % 64) in
    let p : bit_at (1 * 2 ^ (k % 64) % 2 ^ 64) (k % 64) ≡ 1 = ap (λ z. bit_at z (k % 64)) (one-bit (k % 64) (omega arith)) ∙ bit_at-pow_same (k % 64) in
    omega (arith, e, x, p, bit-is words k, bit-small words k)

pub turned-other : (words : List ℕ) (k i : ℕ) → k < 64 * length words → i ≢ k → bit (turned words k) i ≡ bit words i
turned-other words k i l n =
    set-other words k i (bit_xor (get_or words (k / 64) 0) (1 * 2 ^ (k % 64) % 2 ^ 64)) l n
    (λ m.
    let x = bit_at_xor (get_or words (k / 64) 0) (1 * 2 ^ (k % 64) % 2 ^ 64) (i % 64) in
    let p : bit_at (1 * 2 ^ (k % 64) % 2 ^ 64) (i % 64) ≡ 0 = ap (λ z. bit_at z (i % 64)) (one-bit (k % 64) (omega arith)) ∙ bit_at-pow_other (k % 64) (i % 64) m in
    omega (arith, x, p, bit_at-lt (get_or words (k / 64) 0) (i % 64)))

flip-test : (a b : ℕ) (is : Bool) → b + a ≡ 1 → (a == 1) ≡ not is → (b == 1) ≡ is
flip-test a b true h e = grind arith
flip-test a b false h e = grind arith

pub put-more : (k : ℕ) (is : Bool) (old new : Past) → k < 64 * length old.first → (bit (present old) k == 1) ≡ not is → new.first ≡ old.first → new.changes ≡ old.changes ++ k ∷ [] → IsPut k is old new
put-more k is old new l was e m =
    let pn : present new ≡ turned (present old) k = ap₂ (λ f c. after f c (length c)) e m ∙ after-more old.first old.changes k in
    let lk : k < 64 * length (present old) = omega (arith, l, length-after old.first old.changes (length old.changes)) in
    record {
      continues =
          record {
            first = e;
            longer = omega (arith, ap length m, length-append old.changes (k ∷ []));
            same = λ r h. ap₂ (λ f c. after f c r) e m ∙ after-before old.first old.changes k r h;
          };
      there = flip-test (bit (present old) k) (bit (present new) k) is (ap (λ w. bit w k + bit (present old) k) pn ∙ turned-same (present old) k lk) was;
      others = λ i n. ap (λ w. bit w i) pn ∙ turned-other (present old) k i lk n;
    }

pub put-none : (k : ℕ) (is : Bool) (old new : Past) → (bit (present old) k == 1) ≡ is → new ≡ old → IsPut k is old new
put-none k is old new was e = subst (IsPut k is old) (sym e) (record { continues = record { first = refl; longer = omega arith; same = λ r l. refl }; there = was; others = λ i n. refl })
