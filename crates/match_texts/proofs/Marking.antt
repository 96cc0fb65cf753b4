-- Proves which marks a text has when a pattern matches it.
use Rattle.std.proofs.Common.{◌≡◌, ◌≢◌, ◌⊎◌, ◌+◌, ◌-◌, ◌≤◌, ◌∙◌, inl, inr, refl, sym, ap, subst, arith, ◌==◌, ℕ, zero, suc, nat_lt, Bool, true, false, cond, List, [], ◌∷◌, ◌++◌, length, take, drop, length-append, append_assoc}
use Rattle.std.proofs.lemmas.Bool.Decides.{nat_tests}
use Rattle.match_index.specs.Heads.{last_bytes}
use Rattle.filter_constraints.specs.Bytes.{has_prefix, has_suffix, has_part}
use Rattle.filter_constraints.proofs.BytesLemmas.{has_prefix-tells, has_suffix-tells, has_part-tells}
use Rattle.match_index.specs.Pairs.{IsIn}
use Rattle.base_bits.specs.Words.{bit}
use Rattle.match_texts.specs.Marks.{first_mark, first_pair, end_size, last_mark, last_pair, slots, AreMarked}
use Rattle.base.proofs.Bools.{false-from-not-true}

-- what is shorter is in each text
short-in : (x : List ℕ) → IsIn 8192 (slots x)
short-in [] = inl refl
short-in (a ∷ x) = inr (inr (short-in x))

-- the first four bytes of a text's end are in the text
end-in : (before y : List ℕ) → IsIn (first_mark y) (slots (before ++ y))
end-in [] [] = inl refl
end-in [] (a ∷ y) = inl refl
end-in (b ∷ before) y = inr (inr (end-in before y))

-- and so are the first two
pair-in : (before y : List ℕ) → IsIn (first_pair y) (slots (before ++ y))
pair-in [] [] = inl refl
pair-in [] (a ∷ y) = inr (inl refl)
pair-in (b ∷ before) y = inr (inr (pair-in before y))

-- and so is the mark of what stands in it
part-in : (before y rest : List ℕ) → IsIn (first_mark y) (slots (before ++ (y ++ rest)))
part-in before [] rest = short-in (before ++ rest)
part-in before (a ∷ []) rest = short-in (before ++ (a ∷ rest))
part-in before (a ∷ b ∷ []) rest = pair-in before (a ∷ b ∷ rest)
part-in before (a ∷ b ∷ c ∷ []) rest = pair-in before (a ∷ b ∷ c ∷ rest)
part-in before (a ∷ b ∷ c ∷ d ∷ y) rest = end-in before (a ∷ b ∷ c ∷ d ∷ (y ++ rest))

pub part-first : (x u : List ℕ) → has_part x u ≡ true → IsIn (first_mark u) (slots x)
part-first x u h =
    let t = has_part-tells x u h in
    subst (λ (z : List ℕ). IsIn (first_mark u) (slots z)) (sym t.2) (part-in t.0 u t.1)

split-at : (n : ℕ) (u : List ℕ) → take n u ++ drop n u ≡ u
split-at zero u = refl
split-at (suc n) [] = refl
split-at (suc n) (a ∷ u) = ap (λ (z : List ℕ). a ∷ z) (split-at n u)

pub part-last : (x u : List ℕ) → has_part x u ≡ true → IsIn (last_mark u) (slots x)
part-last x u h =
    let t = has_part-tells x u h in
    let n : ℕ = length u - end_size u in
    let a = part-in (t.0 ++ take n u) (drop n u) t.1 in
    let e : (t.0 ++ take n u) ++ (drop n u ++ t.1) ≡ x = append_assoc t.0 (take n u) (drop n u ++ t.1) ∙ (ap (λ (z : List ℕ). t.0 ++ z) (sym (append_assoc (take n u) (drop n u) t.1) ∙ ap (λ (z : List ℕ). z ++ t.1) (split-at n u)) ∙ sym t.2) in
    subst (λ (z : List ℕ). IsIn (last_mark u) (slots z)) e a

-- what a text begins with is short, or begins with one of the text's own marks
pub prefix-mark : (x u : List ℕ) → has_prefix x u ≡ true → (first_mark u ≡ first_mark x) ⊎ ((first_mark u ≡ first_pair x) ⊎ (first_mark u ≡ 8192))
prefix-mark x u h = let t = has_prefix-tells x u h in subst (λ (z : List ℕ). (first_mark u ≡ first_mark z) ⊎ ((first_mark u ≡ first_pair z) ⊎ (first_mark u ≡ 8192))) (sym t.1) (go u t.0)
  where
    go : (u rest : List ℕ) → (first_mark u ≡ first_mark (u ++ rest)) ⊎ ((first_mark u ≡ first_pair (u ++ rest)) ⊎ (first_mark u ≡ 8192))
    go [] rest = inr (inr refl)
    go (a ∷ []) rest = inr (inr refl)
    go (a ∷ b ∷ []) rest = inr (inl refl)
    go (a ∷ b ∷ c ∷ []) rest = inr (inl refl)
    go (a ∷ b ∷ c ∷ d ∷ u) rest = inl refl

drop-past : (before u : List ℕ) (n : ℕ) → drop (length before + n) (before ++ u) ≡ drop n u
drop-past [] u n = let z : 0 + n ≡ n = omega arith in ap (λ (k : ℕ). drop k u) z
drop-past (b ∷ before) u n =
    let z : suc (length before) + n ≡ suc (length before + n) = omega arith in
    ap (λ (k : ℕ). drop k (b ∷ (before ++ u))) z ∙ drop-past before u n

-- the last bytes of a text are those of what it ends with
last-past : (before u : List ℕ) (n : ℕ) → n ≤ length u → last_bytes n (before ++ u) ≡ last_bytes n u
last-past before u n l =
    let m : length (before ++ u) - n ≡ length before + (length u - n) = omega (arith, length-append before u, l) in
    ap (λ (k : ℕ). drop k (before ++ u)) m ∙ drop-past before u (length u - n)

-- the same of its end
pub suffix-mark : (x u : List ℕ) → has_suffix x u ≡ true → (last_mark u ≡ last_mark x) ⊎ ((last_mark u ≡ last_pair x) ⊎ (last_mark u ≡ 8192))
suffix-mark x u h = let t = has_suffix-tells x u h in subst (λ (z : List ℕ). (last_mark u ≡ last_mark z) ⊎ ((last_mark u ≡ last_pair z) ⊎ (last_mark u ≡ 8192))) (sym t.1) (go t.0 u)
  where
    long : (before u : List ℕ) → 4 ≤ length u → end_size (before ++ u) ≡ 4
    long before u l = (
        let e = length-append before u in
        let no : nat_lt (length (before ++ u)) 4 ≡ false = grind (arith, nat_tests, e, l) in
        ap {B = ℕ} (λ (b : Bool). cond b 2 4) no)

    go : (before u : List ℕ) → (last_mark u ≡ last_mark (before ++ u)) ⊎ ((last_mark u ≡ last_pair (before ++ u)) ⊎ (last_mark u ≡ 8192))
    go before [] = inr (inr refl)
    go before (a ∷ []) = inr (inr refl)
    go before (a ∷ b ∷ []) = inr (inl (ap first_pair (sym (last-past before (a ∷ b ∷ []) 2 (omega arith)))))
    go before (a ∷ b ∷ c ∷ []) = inr (inl (ap first_pair (sym (last-past before (a ∷ b ∷ c ∷ []) 2 (omega arith)))))
    go before (a ∷ b ∷ c ∷ d ∷ u) =
        let whole : List ℕ = a ∷ b ∷ c ∷ d ∷ u in
        let e = last-past before whole 4 (omega arith) in
        let s = long before whole (omega arith) in
        let own : end_size whole ≡ 4 = long [] whole (omega arith) in
        inl (ap (λ (n : ℕ). first_mark (last_bytes n whole)) own ∙ sym (ap (λ (n : ℕ). first_mark (last_bytes n (before ++ whole))) s ∙ ap first_mark e))

pub no-prefix : (x u : List ℕ) (own two mark : ℕ) → own ≡ first_mark x → two ≡ first_pair x → mark ≡ first_mark u → mark ≢ own → mark ≢ two → mark ≢ 8192 → false ≡ has_prefix x u
no-prefix x u own two mark o p m a b c = false-from-not-true (has_prefix x u) (λ h. elim (prefix-mark x u h) [
  | inl e ↦ a (m ∙ (e ∙ sym o))
  | inr (inl e) ↦ b (m ∙ (e ∙ sym p))
  | inr (inr e) ↦ c (m ∙ e)
])

pub no-suffix : (x u : List ℕ) (own two mark : ℕ) → own ≡ last_mark x → two ≡ last_pair x → mark ≡ last_mark u → mark ≢ own → mark ≢ two → mark ≢ 8192 → false ≡ has_suffix x u
no-suffix x u own two mark o p m a b c = false-from-not-true (has_suffix x u) (λ h. elim (suffix-mark x u h) [
  | inl e ↦ a (m ∙ (e ∙ sym o))
  | inr (inl e) ↦ b (m ∙ (e ∙ sym p))
  | inr (inr e) ↦ c (m ∙ e)
])

unset : (words : List ℕ) (k : ℕ) → false ≡ (bit words k == 1) → bit words k ≡ 1 → ⊥
unset words k f e = go (bit words k) f e
  where
    go : (n : ℕ) → false ≡ (n == 1) → n ≡ 1 → ⊥
    go n f e = let t : false ≡ (1 == 1) = subst (λ (m : ℕ). false ≡ (m == 1)) e f in cc

pub no-part-first : (x u words : List ℕ) (mark : ℕ) → AreMarked words x → mark ≡ first_mark u → false ≡ (bit words mark == 1) → false ≡ has_part x u
no-part-first x u words mark all m f = false-from-not-true (has_part x u) (λ h. unset words mark f (all mark (subst (λ (k : ℕ). IsIn k (slots x)) (sym m) (part-first x u h))))

pub no-part-last : (x u words : List ℕ) (mark : ℕ) → AreMarked words x → mark ≡ last_mark u → false ≡ (bit words mark == 1) → false ≡ has_part x u
no-part-last x u words mark all m f = false-from-not-true (has_part x u) (λ h. unset words mark f (all mark (subst (λ (k : ℕ). IsIn k (slots x)) (sym m) (part-last x u h))))
