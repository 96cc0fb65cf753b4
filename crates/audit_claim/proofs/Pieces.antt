-- Lemmas on bytes cut at the first byte of a kind, as lines are.
use Rattle.std.proofs.Common.{◌≡◌, ◌≢◌, ◌+◌, sym, ℕ, zero, suc, ◌<◌, Bool, true, false, List, [], ◌∷◌, length, take, drop, get_or, Option, Some, None, refl, ap, ◌∙◌, arith}
use Rattle.std.specs.Prelude.{nat_eq, if◌then◌else◌}
use Rattle.std.specs.Option.{option_map}
use Rattle.document_reader.specs.Lines.{before_first}
use Rattle.std.proofs.lemmas.Grind.{common_steps}
use Rattle.std.proofs.Math.Seq.{take-length}
use Rattle.memchr.specs.Find.{NoneBefore, Nowhere, Passes, is_byte}
use Rattle.audit_claim.specs.Output.{output_lines, parted}
use Rattle.base.proofs.Numbers.{eq-nat_eq, neq-nat_eq}

-- at the first such byte
pub parted_at : (end : ℕ) (bs : List ℕ) (n : ℕ) → n < length bs → get_or bs n 0 ≡ end → ((k : ℕ) → k < n → get_or bs k 0 ≢ end) → parted end bs ≡ Some (take n bs, drop (suc n) bs)
unfolding parted
parted_at end [] n lt at before = absurd (omega arith)
parted_at end (b ∷ bs) zero lt at before = rw (eq-nat_eq b end at) refl
parted_at end (b ∷ bs) (suc n) lt at before =
    rw (neq-nat_eq b end (before 0 (omega arith)), parted_at end bs n (omega arith) at (λ k l. before (suc k) (omega arith))) refl

-- where there is none
pub parted_none : (end : ℕ) (bs : List ℕ) → ((k : ℕ) → k < length bs → get_or bs k 0 ≢ end) → parted end bs ≡ None
unfolding parted
parted_none end [] none = refl
parted_none end (b ∷ bs) none = rw (neq-nat_eq b end (none 0 (omega arith)), parted_none end bs (λ k l. none (suc k) (omega arith))) refl

passes : (end b : ℕ) → b ≡ end → is_byte end b ≡ true
passes end b e = grind (arith, common_steps)

passed : (end b : ℕ) → is_byte end b ≡ true → b ≡ end
passed end b e = grind (arith, common_steps)

-- by the first place of the byte
pub parted_first : (end : ℕ) (bs : List ℕ) (n : ℕ) (front back : List ℕ) → front ≡ take n bs → back ≡ drop (n + 1) bs
    → NoneBefore (Passes (is_byte end) bs) 0 (length bs) n × Passes (is_byte end) bs n → parted end bs ≡ Some (front, back)
parted_first end bs n front back f g p =
    let next : suc n ≡ n + 1 = omega arith in
    parted_at end bs n p.0.high (passed end (get_or bs n 0) p.1) (λ k l e. p.0.before k (omega arith) l (passes end (get_or bs k 0) e))
    ∙ (λ i. Some ((sym f) i, (ap (λ m. drop m bs) next ∙ sym g) i))

pub parted_nowhere : (end : ℕ) (bs : List ℕ) → Nowhere (Passes (is_byte end) bs) 0 (length bs) → parted end bs ≡ None
parted_nowhere end bs p = parted_none end bs (λ k l e. p k (omega arith) l (passes end (get_or bs k 0) e))

-- Lines.

pub no_lines : (bs : List ℕ) → length bs ≡ 0 → output_lines bs ≡ []
unfolding output_lines
no_lines [] e = refl
no_lines (b ∷ bs) e = absurd (omega (arith, e))

abbrev Parts : Type 0
Parts = List ℕ × List ℕ

abbrev behind : ℕ → Option Parts → Option Parts
behind b o = option_map {U = Parts} (λ (p : Parts). (b ∷ p.0, p.1)) o

some_apart : (b : ℕ) (o : Option Parts) (line rest : List ℕ) → behind b o ≡ Some (line, rest) → (front : List ℕ) × (o ≡ Some (front, rest)) × (line ≡ b ∷ front)
some_apart b None line rest e = absurd cc
some_apart b (Some (front, back)) line rest e =
    let same : ◌≡◌ {A = Parts} (b ∷ front, back) (line, rest) = cc in
    (front, (λ i. Some (front, (ap (λ (z : Parts). z.1) same) i)), sym (ap (λ (z : Parts). z.0) same))

none_apart : (b : ℕ) (o : Option Parts) → behind b o ≡ None → o ≡ None
none_apart b None e = refl
none_apart b (Some p) e = cc

-- a line with its end
pub first_line : (bs line rest : List ℕ) → parted 10 bs ≡ Some (line, rest) → output_lines bs ≡ line ∷ output_lines rest
unfolding parted output_lines
first_line [] line rest e = absurd cc
first_line (b ∷ bs) line rest e = go (nat_eq b 10) e (first_line bs)
  where
    go : (t : Bool) → ◌≡◌ {A = Option Parts} (if t then Some ([], bs) else behind b (parted 10 bs)) (Some (line, rest))
        → ((l r : List ℕ) → parted 10 bs ≡ Some (l, r) → output_lines bs ≡ l ∷ output_lines r)
        → (if t then [] ∷ output_lines bs else before_first b (output_lines bs)) ≡ line ∷ output_lines rest
    go true e more =
        let same : ◌≡◌ {A = Parts} ([], bs) (line, rest) = cc in
        λ i. (ap (λ (z : Parts). z.0) same) i ∷ output_lines ((ap (λ (z : Parts). z.1) same) i)
    go false e more =
        let t = some_apart b (parted 10 bs) line rest e in
        ap (before_first b) (more t.0 rest t.1) ∙ ap (λ l. l ∷ output_lines rest) (sym t.2)

-- the last line, without an end
pub last_line : (bs : List ℕ) → length bs ≢ 0 → parted 10 bs ≡ None → output_lines bs ≡ bs ∷ []
unfolding parted output_lines
last_line [] ne e = absurd (ne refl)
last_line (b ∷ []) ne e = go (nat_eq b 10) e
  where
    go : (t : Bool) → ◌≡◌ {A = Option Parts} (if t then Some ([], []) else None) None → (if t then [] ∷ [] else (b ∷ []) ∷ []) ≡ (b ∷ []) ∷ []
    go true e = cc
    go false e = refl
last_line (b ∷ c ∷ cs) ne e = go (nat_eq b 10) e (last_line (c ∷ cs) (λ z. cc))
  where
    go : (t : Bool) → ◌≡◌ {A = Option Parts} (if t then Some ([], c ∷ cs) else behind b (parted 10 (c ∷ cs))) None
        → (parted 10 (c ∷ cs) ≡ None → output_lines (c ∷ cs) ≡ (c ∷ cs) ∷ [])
        → (if t then [] ∷ output_lines (c ∷ cs) else before_first b (output_lines (c ∷ cs))) ≡ (b ∷ c ∷ cs) ∷ []
    go true e more = cc
    go false e more = ap (before_first b) (more (none_apart b (parted 10 (c ∷ cs)) e))

pub whole_line : (bs front back : List ℕ) → (length bs ≡ 0 → ⊥) → parted 10 bs ≡ None → front ≡ take (length bs) bs → length back ≡ 0 → output_lines bs ≡ front ∷ output_lines back
whole_line bs front back ne e f z = last_line bs ne e ∙ λ i. (sym (f ∙ take-length bs)) i ∷ (sym (no_lines back z)) i
