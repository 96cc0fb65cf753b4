-- Lemmas on results: what an error or a value of one excludes.
use Rattle.std.proofs.Common.{Err, IfOk, Ok, OnErr, Result, ap, ℕ, ◌-◌, ◌≡◌}

pub if-ok : {A E : Type 0} {P Q : A → Type 0} → ((x : A) → P x → Q x) → (r : Result A E) → IfOk r P → IfOk r Q
if-ok step (Ok x) p = step x p
if-ok step (Err e) p = tt

pub ok-not-err : {A E : Type 0} (r : Result A E) (x : A) (e : E) → r ≡ Ok x → r ≡ Err e → ⊥
ok-not-err r x e p q = cc

pub on-err : {T E P : Type 0} (r : Result T E) → P → OnErr r P
on-err (Ok x) p = tt
on-err (Err e) p = p

pub one-err : {A E : Type 0} (r : Result A E) (x y : E) → r ≡ Err x → r ≡ Err y → x ≡ y
one-err r x y p q = cc

pub one-err-pair : {A K : Type 0} (r : Result A (ℕ × K)) (l line : ℕ) (k kind : K) → r ≡ Err (l, k) → r ≡ Err (line, kind) → (l ≡ line) × (k ≡ kind)
one-err-pair {K = K} r l line k kind p q =
    let x : ℕ × K = (l, k) in
    let y : ℕ × K = (line, kind) in
    let e : x ≡ y = one-err r x y p q in
    (ap (λ (z : ℕ × K). z.0) e, ap (λ (z : ℕ × K). z.1) e)
