-- Lemmas on a text that is compared with another one piece by piece.
use Rattle.std.proofs.Common.{◌≡◌, ◌⊎◌, inl, inr, ℕ, zero, suc, ◌+◌, ◌<◌, ◌≤◌, Bool, true, false, List, [], ◌∷◌, ◌++◌, length, take, drop, Some, None, refl, sym, ap, subst, ◌∙◌, arith, append_assoc}
use Rattle.std.specs.Prelude.{nat_lt}
use Rattle.std.specs.Option.{option_map}
use Rattle.std.proofs.lemmas.Grind.{common_steps}
use Rattle.std.proofs.lemmas.List.{length-take-le, take-append-drop, append-nil}
use Rattle.std.proofs.Math.Seq.{take-length}
use Rattle.audit_claim.specs.Difference.{difference}
use Rattle.audit_claim.proofs.Apart.{at_beginning, begins_claimed, behind_alike, equal_none, stays_apart}
use Rattle.audit_verdict.specs.Comparing.{ComparingParts, GoesOn, IsComparedAt, IsComparedTo, comparing}
use Rattle.base.proofs.Numbers.{nat_lt-true}

take_both : (xs : List ℕ) (n m : ℕ) → n ≤ length xs → take n xs ++ take m (drop n xs) ≡ take (n + m) xs
take_both xs zero m l = let z : m ≡ 0 + m = omega arith in ap (λ k. take k xs) z
take_both [] (suc n) m l = absurd (omega (arith, l))
take_both (x ∷ xs) (suc n) m l =
    let z : suc (n + m) ≡ suc n + m = omega arith in
    ap (λ k. x ∷ k) (take_both xs n m (omega (arith, l))) ∙ ap (λ k. take k (x ∷ xs)) z

not_lt : (a b : ℕ) → nat_lt a b ≡ false → b ≤ a
not_lt a b e = grind (arith, common_steps)

drop_length : (xs : List ℕ) (n : ℕ) → n ≤ length xs → length (drop n xs) + n ≡ length xs
drop_length xs zero l = omega arith
drop_length [] (suc n) l = absurd (omega (arith, l))
drop_length (x ∷ xs) (suc n) l = omega (arith, drop_length xs n (omega (arith, l)))

-- a piece that is not as what is claimed, or ends in it
pub goes_some : (claimed piece rest : List ℕ) (at place : ℕ) (b : Bool) → nat_lt place (length piece) ≡ b → at ≤ length claimed → rest ≡ drop at claimed → difference rest piece ≡ Some place
    → (text : List ℕ) → IsComparedAt false claimed at text → IsComparedAt b claimed (at + place) (text ++ piece)
goes_some claimed piece rest at place true lt low is e text h = λ more.
    let l : place < length piece = nat_lt-true place (length piece) lt in
    let apart : difference (drop at claimed) (piece ++ more) ≡ Some place = stays_apart (drop at claimed) piece more place (subst (λ z. difference z piece ≡ Some place) is e) l in
    let whole : take at claimed ++ drop at claimed ≡ claimed = take-append-drop at claimed in
    ap (λ z. difference claimed ((z ++ piece) ++ more)) h.1
    ∙ (ap (λ z. difference claimed z) (append_assoc (take at claimed) piece more)
    ∙ (ap (λ z. difference z (take at claimed ++ (piece ++ more))) (sym whole)
    ∙ (behind_alike (take at claimed) (drop at claimed) (piece ++ more)
    ∙ (ap (option_map (λ p. length (take at claimed) + p)) apart
    ∙ ap (λ n. Some (n + place)) (length-take-le at claimed low)))))
goes_some claimed piece rest at place false lt low is e text h =
    let t = begins_claimed (drop at claimed) piece place (subst (λ z. difference z piece ≡ Some place) is e) (not_lt place (length piece) lt) in (
      omega (arith, t.2, drop_length claimed at low),
      ap (λ z. z ++ piece) h.1 ∙ (ap (λ z. take at claimed ++ z) t.0 ∙ take_both claimed at place low),
    )

pub goes_apart : (old : ComparingParts) (claimed piece rest : List ℕ) (at place : ℕ) → comparing claimed at false ≡ old → at ≤ length claimed → rest ≡ drop at claimed → difference rest piece ≡ Some place
    → GoesOn old (comparing claimed (at + place) (nat_lt place (length piece))) piece
goes_apart old claimed piece rest at place same low is e =
    subst (λ z. GoesOn z (comparing claimed (at + place) (nat_lt place (length piece))) piece) same
    (record { claimed = refl; compared = goes_some claimed piece rest at place (nat_lt place (length piece)) refl low is e })

-- all of what is claimed was compared
pub placed_none : (claimed text : List ℕ) (at : ℕ) → at ≡ length claimed → IsComparedAt false claimed at text → None ≡ difference claimed text
placed_none claimed text at e h =
    sym (ap (λ z. difference claimed z) (h.1 ∙ (ap (λ n. take n claimed) e ∙ take-length claimed)) ∙ equal_none claimed)

-- it was not, or the two are apart
pub placed_apart : (claimed text : List ℕ) (at : ℕ) → IsComparedAt true claimed at text → Some at ≡ difference claimed text
placed_apart claimed text at h = sym (h []) ∙ ap (difference claimed) (append-nil text)

pub placed_before : (claimed text : List ℕ) (at : ℕ) → (at ≡ length claimed → ⊥) → IsComparedAt false claimed at text → Some at ≡ difference claimed text
placed_before claimed text at ne h = sym (ap (difference claimed) h.1 ∙ at_beginning claimed at (omega (arith, h.0, ne)))

-- Pieces one after the other.

pub goes_nowhere : (c : ComparingParts) → GoesOn c c []
goes_nowhere c = record { claimed = refl; compared = λ text h. subst (IsComparedTo c) (sym (append-nil text)) h }

pub goes_then : (a b c : ComparingParts) (x y : List ℕ) → GoesOn a b x → GoesOn b c y → GoesOn a c (x ++ y)
goes_then a b c x y p q = record {
  claimed = q.claimed ∙ p.claimed;
  compared = λ text h. subst (IsComparedTo c) (append_assoc text x y) (q.compared (text ++ x) (p.compared text h));
}

-- Where the comparison stands.

pub placed_all : (c : ComparingParts) (claimed : List ℕ) (at : ℕ) (b : Bool) → comparing claimed at b ≡ c → b ≡ false → at ≡ length claimed
    → (text : List ℕ) → IsComparedTo c text → None ≡ difference c.claimed text
placed_all c claimed at b same f e text h =
    subst (λ (z : ComparingParts). None ≡ difference z.claimed text) (ap (comparing claimed at) (sym f) ∙ same)
    (placed_none claimed text at e (subst (λ z. IsComparedTo z text) (sym (ap (comparing claimed at) (sym f) ∙ same)) h))

pub placed_some : (c : ComparingParts) (claimed : List ℕ) (at : ℕ) (b : Bool) → comparing claimed at b ≡ c → (b ≡ true) ⊎ (at ≡ length claimed → ⊥)
    → (text : List ℕ) → IsComparedTo c text → Some at ≡ difference c.claimed text
placed_some c claimed at true same ne text h =
    subst (λ (z : ComparingParts). Some at ≡ difference z.claimed text) same (placed_apart claimed text at (subst (λ z. IsComparedTo z text) (sym same) h))
placed_some c claimed at false same (inl e) text h = cc
placed_some c claimed at false same (inr ne) text h =
    subst (λ (z : ComparingParts). Some at ≡ difference z.claimed text) same (placed_before claimed text at ne (subst (λ z. IsComparedTo z text) (sym same) h))

-- A comparison that was made apart.

joins_at : (claimed rest piece text : List ℕ) (at more : ℕ) (b : Bool) → rest ≡ drop at claimed → IsComparedAt b rest more piece → IsComparedAt false claimed at text → IsComparedAt b claimed (at + more) (text ++ piece)
joins_at claimed rest piece text at more true is part h = λ tail.
    let whole : take at claimed ++ drop at claimed ≡ claimed = take-append-drop at claimed in
    let apart : difference (drop at claimed) (piece ++ tail) ≡ Some more = subst (λ z. difference z (piece ++ tail) ≡ Some more) is (part tail) in
    ap (λ z. difference claimed ((z ++ piece) ++ tail)) h.1
    ∙ (ap (λ z. difference claimed z) (append_assoc (take at claimed) piece tail)
    ∙ (ap (λ z. difference z (take at claimed ++ (piece ++ tail))) (sym whole)
    ∙ (behind_alike (take at claimed) (drop at claimed) (piece ++ tail)
    ∙ (ap (option_map (λ p. length (take at claimed) + p)) apart
    ∙ ap (λ n. Some (n + more)) (length-take-le at claimed h.0)))))
joins_at claimed rest piece text at more false is part h =
    let part' : (more ≤ length (drop at claimed)) × (piece ≡ take more (drop at claimed)) = subst (λ z. (more ≤ length z) × (piece ≡ take more z)) is part in (
      omega (arith, part'.0, drop_length claimed at h.0),
      (λ i. h.1 i ++ part'.1 i) ∙ take_both claimed at more h.0,
    )

pub follows_at : (old : ComparingParts) (claimed : List ℕ) (at : ℕ) (part : ComparingParts) (piece : List ℕ) → comparing claimed at false ≡ old → part.claimed ≡ drop at claimed → IsComparedTo part piece
    → GoesOn old (comparing claimed (at + part.at) part.apart) piece
follows_at old claimed at part piece same is h =
    subst (λ z. GoesOn z (comparing claimed (at + part.at) part.apart) piece) same
    (record { claimed = refl; compared = λ text t. joins_at claimed part.claimed piece text at part.at part.apart is h t })
