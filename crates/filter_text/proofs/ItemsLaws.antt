-- Proves that joined members are read as they were written.
use Rattle.std.proofs.Common.{◌≡◌, ◌⊎◌, inl, inr, ◌<◌, ℕ, zero, suc, Bool, true, false, refl, sym, ap, ◌∙◌, arith, List, [], ◌∷◌, ◌++◌, length, append_assoc}
use Rattle.std.specs.Prelude.{Some, ◌==◌}
use Rattle.std.specs.declared.option.Option.{Option}
use Rattle.std.proofs.lemmas.List.{append-nil}
use Rattle.std.proofs.lemmas.Bool.Decides.{nat_tests}
use Rattle.filter_text.specs.NoticeText.{joined}
use Rattle.filter_text.specs.MessageText.{Each}
use Rattle.filter_text.specs.Items.{more_at, go_on, items_at}
use Rattle.filter_text.proofs.Options.{bind_some, pair_in, none_not}
use Rattle.filter_text.proofs.WordLaws.{IsStopped}

-- what ends a list: nothing, or a byte that ends a word and begins no `; `
pub record IsEnd (tail : List ℕ) : Type 0 where
  pub stopped : IsStopped tail
  pub last : more_at tail ≡ (false, tail)

pub items_again : {A : Type 0} (P : A → Type 0) (text : A → List ℕ) (one : List ℕ → Option (A × List ℕ)) → ((x : A) (tail : List ℕ) → P x → IsStopped tail → one (text x ++ tail) ≡ Some (x, tail))
    → (n : ℕ) (read : List A) (x : A) (xs : List A) (tail : List ℕ) → Each P (x ∷ xs) → length xs < n → IsEnd tail → items_at one n read (joined text (x ∷ xs) ++ tail) ≡ Some (read ++ x ∷ xs, tail)
unfolding items_at
items_again {A = A} P text one again zero read x xs tail each lt end = absurd (omega arith)
items_again {A = A} P text one again (suc n) read x [] tail each lt end =
    let e : (text x ++ []) ++ tail ≡ text x ++ tail = ap (λ (z : List ℕ). z ++ tail) (append-nil (text x)) in
    ap (items_at one (suc n) read) e ∙ rw (again x tail each.0 end.stopped, end.last) refl
items_again {A = A} P text one again (suc n) read x (y ∷ ys) tail each lt end =
    let e : (text x ++ 59 ∷ 32 ∷ joined text (y ∷ ys)) ++ tail ≡ text x ++ 59 ∷ 32 ∷ (joined text (y ∷ ys) ++ tail) = append_assoc (text x) (59 ∷ 32 ∷ joined text (y ∷ ys)) tail in
    ap (items_at one (suc n) read) e ∙ rw (again x (59 ∷ 32 ∷ (joined text (y ∷ ys) ++ tail)) each.0 refl) (items_again P text one again n (read ++ x ∷ []) y ys tail each.1 (omega arith) end ∙ ap (λ (z : List A). Some (z, tail)) (append_assoc read (x ∷ []) (y ∷ ys)))

more_cases : (bytes : List ℕ) → (more_at bytes ≡ (false, bytes)) ⊎ ((r : List ℕ) × (bytes ≡ 59 ∷ 32 ∷ r) × (more_at bytes ≡ (true, r)))
more_cases [] = inl refl
more_cases (b ∷ []) = inl refl
more_cases (b ∷ c ∷ rest) = go (b == 59) refl (c == 32) refl
  where
    eq_of : (x y : ℕ) → (x == y) ≡ true → x ≡ y
    eq_of x y e = grind (arith, nat_tests)

    go : (p : Bool) → (b == 59) ≡ p → (q : Bool) → (c == 32) ≡ q → (more_at (b ∷ c ∷ rest) ≡ (false, b ∷ c ∷ rest)) ⊎ ((r : List ℕ) × (b ∷ c ∷ rest ≡ 59 ∷ 32 ∷ r) × (more_at (b ∷ c ∷ rest) ≡ (true, r)))
    go true p true qe = inr (rest, (let x = eq_of b 59 p in let y = eq_of c 32 qe in cc), rw (p, qe) refl)
    go true p false qe = inl (rw (p, qe) refl)
    go false p q qe = inl (rw p refl)

-- what is read as joined members: there is a first one
abbrev pub Joins : {A : Type 0} → (A → Type 0) → (A → List ℕ) → List A → List ℕ → List A → List ℕ → Type 0
Joins {A = A} P text read bytes xs rest = (y : A) × (ys : List A) × Each P (y ∷ ys) × (xs ≡ read ++ y ∷ ys) × (bytes ≡ joined text (y ∷ ys) ++ rest)

pub items_spelled : {A : Type 0} (P : A → Type 0) (text : A → List ℕ) (one : List ℕ → Option (A × List ℕ)) → ((bytes : List ℕ) (x : A) (rest : List ℕ) → one bytes ≡ Some (x, rest) → P x × (bytes ≡ text x ++ rest))
    → (n : ℕ) (read : List A) (bytes : List ℕ) (xs : List A) (rest : List ℕ) → items_at one n read bytes ≡ Some (xs, rest) → Joins P text read bytes xs rest
unfolding items_at
items_spelled {A = A} P text one spelled zero read bytes xs rest e = none_not (xs, rest) e
items_spelled {A = A} P text one spelled (suc n) read bytes xs rest e =
    let x = bind_some (one bytes) (λ x. go_on (more_at x.1) (read ++ x.0 ∷ []) (items_at one n (read ++ x.0 ∷ []))) (xs, rest) e in
    let is = spelled bytes x.0.0 x.0.1 x.1 in
    elim (more_cases x.0.1) [
      | inl m ↦ alone x.0.0 x.0.1 is (sym (ap (λ (z : Bool × List ℕ). go_on z (read ++ x.0.0 ∷ []) (items_at one n (read ++ x.0.0 ∷ []))) m) ∙ x.2)
      | inr m ↦ further x.0.0 x.0.1 m.0 is m.1 (items_spelled P text one spelled n (read ++ x.0.0 ∷ []) m.0 xs rest (sym (ap (λ (z : Bool × List ℕ). go_on z (read ++ x.0.0 ∷ []) (items_at one n (read ++ x.0.0 ∷ []))) m.2) ∙ x.2))
    ]
  where
    alone : (x : A) (after : List ℕ) → P x × (bytes ≡ text x ++ after) → ◌≡◌ {A = Option (List A × List ℕ)} (Some (read ++ x ∷ [], after)) (Some (xs, rest)) → Joins P text read bytes xs rest
    alone x after is e =
        let p = pair_in (read ++ x ∷ []) after xs rest e in
        (x, [], (is.0, tt), sym p.0, is.1 ∙ rw (p.1, append-nil (text x)) refl)

    further : (x : A) (after more : List ℕ) → P x × (bytes ≡ text x ++ after) → after ≡ 59 ∷ 32 ∷ more → Joins P text (read ++ x ∷ []) more xs rest → Joins P text read bytes xs rest
    further x after more is m j = (
      x,
      j.0 ∷ j.1,
      (is.0, j.2),
      j.3 ∙ append_assoc read (x ∷ []) (j.0 ∷ j.1),
      is.1 ∙ rw (m, j.4) (sym (append_assoc (text x) (59 ∷ 32 ∷ joined text (j.0 ∷ j.1)) rest)),
    )
