-- Lemmas on lists of which one begins with the other.
use Rattle.std.proofs.Common.{◌≡◌, ◌≤◌, ℕ, List, [], ◌++◌, length, take, drop, ap, ◌∙◌, sym, append_assoc, append-nil, subst}
use Rattle.std.proofs.lemmas.List.{take-append-drop, drop-append-le}
use mathlib.Core.List.{IsPrefix}

module _ {A : Type 0} where
  -- what was taken of what came out begins what went in
  pub taken_begins : (n : ℕ) (out ahead pushed waiting : List A) → out ++ ahead ≡ pushed → IsPrefix (take n out) (pushed ++ waiting)
  taken_begins n out ahead pushed waiting e =
      (drop n out ++ (ahead ++ waiting), sym (append_assoc (take n out) (drop n out) (ahead ++ waiting)) ∙ ap (λ l. l ++ (ahead ++ waiting)) (take-append-drop n out) ∙ sym (append_assoc out ahead waiting) ∙ ap (λ l. l ++ waiting) e)

  -- what was known to come still comes first, once all that was put lies in the rest
  kept_first : (n : ℕ) (had known ahead more : List A) → n ≤ length had → IsPrefix known ahead → IsPrefix (drop n had ++ known) (drop n ((had ++ ahead) ++ more))
  kept_first n had known ahead more small k = subst (λ a. IsPrefix (drop n had ++ known) (drop n ((had ++ a) ++ more))) k.1 (
    k.0 ++ more,
    append_assoc (drop n had) known (k.0 ++ more) ∙ ap (λ l. drop n had ++ l) (sym (append_assoc known k.0 more))
        ∙ sym (drop-append-le n had ((known ++ k.0) ++ more) small) ∙ ap (λ l. drop n l) (sym (append_assoc had (known ++ k.0) more)),
  )

  pub still_comes : (n : ℕ) (had rest known ahead sent more last after left : List A) → n ≤ length had → drop n had ≡ rest → IsPrefix known ahead → had ++ ahead ≡ sent
      → last ≡ sent ++ more → drop n last ≡ after → left ≡ [] → IsPrefix (rest ++ known) (after ++ left)
  still_comes n had rest known ahead sent more last after left small is k whole end cut none =
      let a = subst (λ s. IsPrefix (drop n had ++ known) (drop n (s ++ more))) whole (kept_first n had known ahead more small k) in
      let b = subst (λ l. IsPrefix (drop n had ++ known) (drop n l)) (sym end) a in
      let c = subst (λ l. IsPrefix (drop n had ++ known) l) (cut ∙ sym (append-nil after)) b in
      let d = subst (λ l. IsPrefix (l ++ known) (after ++ [])) is c in
      subst (λ l. IsPrefix (rest ++ known) (after ++ l)) (sym none) d
