-- Signatures by names never miss: the bits of some names are among those of more.
use Rattle.std.proofs.Common.{◌≡◌, ◌⊎◌, inl, inr, ℕ, ◌+◌, ◌*◌, ◌%◌, ◌<◌, ◌^◌, List, [], ◌∷◌, refl, sym, ap, subst, ◌∙◌, arith, bit_and, bit_or, w64}
use Rattle.std.specs.Int.{bit_at}
use Rattle.std.proofs.lemmas.Nat.{or_lt, and_le_l}
use Rattle.std.proofs.lemmas.Nat.Bits.{bit_at_or, bit_at_and, bit_at_not, bit_at-pow_same, bit_at-pow_other, bit_at-lt, bit_at-zero, same_from_bits, same_from_bits_below}
use Rattle.std.proofs.Math.Pow.{pow_mono}
use Rattle.std.proofs.lemmas.Bool.{cases_eq}
use Rattle.base.specs.Sets.{Has}
use Rattle.base.specs.Signature.{place_from, marks_from, marks, other_marks}
use Rattle.std.proofs.Common.{◌++◌}

place-within : (p : ℕ) (name : List ℕ) → p < 61 → place_from p name < 61
place-within p [] l = l
place-within p (b ∷ name) l = place-within ((p * 31 + b) % 61) name (omega arith)

among : (a b : ℕ) → ((i : ℕ) → bit_at a i ≡ 1 → bit_at b i ≡ 1) → bit_and a b ≡ a
among a b h = same_from_bits (bit_and a b) a each
  where
    each : (i : ℕ) → bit_at (bit_and a b) i ≡ bit_at a i
    each i = elim (cases_eq (bit_at a i) 1) [
      | inl e ↦ omega (arith, bit_at_and a b i, h i e, e)
      | inr n ↦ omega (arith, bit_at_and a b i, bit_at-lt a i, n)
    ]

module _ {X : Type 0} (name : X → List ℕ) where
  keep : (m : ℕ) (cs : List X) (i : ℕ) → bit_at m i ≡ 1 → bit_at (marks_from name m cs) i ≡ 1
  keep m [] i e = e
  keep m (c ∷ cs) i e =
      let p = place_from 0 (name c) in
      keep (bit_or m (2 ^ p)) cs i (omega (arith, bit_at_or m (2 ^ p) i, bit_at-lt (2 ^ p) i, e))

  marked : (m : ℕ) (c : X) (cs : List X) → Has c cs → bit_at (marks_from name m cs) (place_from 0 (name c)) ≡ 1
  marked m c [] h = absurd h
  marked m c (d ∷ ds) (inl q) =
      let p = place_from 0 (name d) in
      subst (λ z. bit_at (marks_from name m (d ∷ ds)) (place_from 0 (name z)) ≡ 1) (sym q) (keep (bit_or m (2 ^ p)) ds p (omega (arith, bit_at_or m (2 ^ p) p, bit_at-pow_same p, bit_at-lt m p)))
  marked m c (d ∷ ds) (inr h) = marked (bit_or m (2 ^ place_from 0 (name d))) c ds h

  back : (m : ℕ) (cs : List X) (i : ℕ) → bit_at (marks_from name m cs) i ≡ 1 → (bit_at m i ≡ 1) ⊎ ((c : X) × Has c cs × (place_from 0 (name c) ≡ i))
  back m [] i e = inl e
  back m (d ∷ ds) i e = elim (back (bit_or m (2 ^ place_from 0 (name d))) ds i e) [
    | inl b ↦ elim (cases_eq i (place_from 0 (name d))) [
      | inl q ↦ inr (d, inl refl, sym q)
      | inr n ↦
          let p = place_from 0 (name d) in
          inl (omega (arith, bit_at_or m (2 ^ p) i, bit_at-pow_other p i n, bit_at-lt m i, b))
    ]
    | inr r ↦ inr (r.0, inr r.1, r.2)
  ]

  pub marks-within : (m : ℕ) (cs : List X) → m < 2 ^ 64 → marks_from name m cs < 2 ^ 64
  marks-within m [] l = l
  marks-within m (c ∷ cs) l =
      let p = place_from 0 (name c) in
      marks-within (bit_or m (2 ^ p)) cs (or_lt 64 m (2 ^ p) l (omega (arith, pow_mono {i = p} {j = 61} (omega (arith, place-within 0 (name c) (omega arith))))))

  module _ (cs ds : List X) (names : (c : X) → Has c cs → (d : X) × Has d ds × (name c ≡ name d)) where
    more : (i : ℕ) → bit_at (marks name cs) i ≡ 1 → bit_at (marks name ds) i ≡ 1
    more i e = elim (back 0 cs i e) [
      | inl b ↦ absurd (omega (arith, bit_at-zero i, b))
      | inr r ↦
          let d = names r.0 r.1 in
          subst (λ z. bit_at (marks name ds) z ≡ 1) (ap (place_from 0) (sym d.2) ∙ r.2) (marked 0 d.0 ds d.1)
    ]

    pub names-among : bit_and (marks name cs) (marks name ds) ≡ marks name cs
    names-among = among (marks name cs) (marks name ds) more

    pub others-among : bit_and (other_marks name ds) (other_marks name cs) ≡ other_marks name ds
    others-among = same_from_bits_below 64 (bit_and (other_marks name ds) (other_marks name cs)) (other_marks name ds) (omega (arith, and_le_l (other_marks name ds) (other_marks name cs))) (omega arith) each
      where
        each : (i : ℕ) → i < 64 → bit_at (bit_and (other_marks name ds) (other_marks name cs)) i ≡ bit_at (other_marks name ds) i
        each i l =
            let x = bit_at_not w64 (marks name ds) i (marks-within 0 ds (omega arith)) l in
            let y = bit_at_not w64 (marks name cs) i (marks-within 0 cs (omega arith)) l in
            elim (cases_eq (bit_at (marks name cs) i) 1) [
              | inl q ↦ omega (arith, bit_at_and (other_marks name ds) (other_marks name cs) i, x, y, more i q)
              | inr n ↦ omega (arith, bit_at_and (other_marks name ds) (other_marks name cs) i, x, y, bit_at-lt (marks name cs) i, bit_at-lt (marks name ds) i, n)
            ]

pub place_from-append : (p : ℕ) (xs ys : List ℕ) → place_from p (xs ++ ys) ≡ place_from (place_from p xs) ys
place_from-append p [] ys = refl
place_from-append p (x ∷ xs) ys = place_from-append ((p * 31 + x) % 61) xs ys
