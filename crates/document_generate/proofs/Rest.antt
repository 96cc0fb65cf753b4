-- Texts at places, one after the other, and the draws for them.
use Rattle.std.proofs.Common.{◌≡◌, ℕ, zero, suc, ◌+◌, ◌-◌, ◌*◌, ◌<◌, ◌≤◌, List, ◌++◌, sym, ap, ◌∙◌, arith, append_assoc}
use Rattle.std.proofs.lemmas.List.{append-nil}
use Rattle.document_generate.specs.Draws.{next, after}
use Rattle.document_generate.specs.Lines.{texts_drawn}

one_more : (n i : ℕ) → i < n → n - i ≡ suc (n - (i + 1))
one_more n i l = omega (arith, l)

next_text : (text : ℕ → ℕ → List ℕ) (draws : ℕ → ℕ) (n i state : ℕ) → i < n
    → texts_drawn text draws (n - i) i state ≡ text i state ++ texts_drawn text draws (n - (i + 1)) (i + 1) (after (draws i) state)
unfolding texts_drawn
next_text text draws n i state l = ap (λ z. texts_drawn text draws z i state) (one_more n i l)

-- one more text is written
pub text_step : (text : ℕ → ℕ → List ℕ) (draws : ℕ → ℕ) (n i s t : ℕ) (out new whole : List ℕ) → i < n
    → out ++ texts_drawn text draws (n - i) i s ≡ whole → new ≡ out ++ text i s → t ≡ after (draws i) s
    → new ++ texts_drawn text draws (n - (i + 1)) (i + 1) t ≡ whole
text_step text draws n i s t out new whole l inv e f =
    ap (λ z. new ++ texts_drawn text draws (n - (i + 1)) (i + 1) z) f
    ∙ ap (λ z. z ++ texts_drawn text draws (n - (i + 1)) (i + 1) (after (draws i) s)) e
    ∙ append_assoc out (text i s) (texts_drawn text draws (n - (i + 1)) (i + 1) (after (draws i) s))
    ∙ ap (λ z. out ++ z) (sym (next_text text draws n i s l))
    ∙ inv

-- all are written
pub text_end : (text : ℕ → ℕ → List ℕ) (draws : ℕ → ℕ) (n i s : ℕ) (out whole : List ℕ) → n ≤ i
    → out ++ texts_drawn text draws (n - i) i s ≡ whole → out ≡ whole
unfolding texts_drawn
text_end text draws n i s out whole l inv = sym (append-nil out) ∙ ap (λ z. out ++ texts_drawn text draws z i s) (sym (left n i l)) ∙ inv
  where
    left : (n i : ℕ) → n ≤ i → n - i ≡ zero
    left n i l = omega (arith, l)

-- one more draw, five more, six more
pub one_step : (n i s t whole : ℕ) → i < n → after (n - i) s ≡ whole → t ≡ next s → after (n - (i + 1)) t ≡ whole
one_step n i s t whole l inv e = ap (after (n - (i + 1))) e ∙ ap (λ z. after z s) (sym (one_more n i l)) ∙ inv

five : (n i : ℕ) → i < n → 5 * (n - i) ≡ suc (suc (suc (suc (suc (5 * (n - (i + 1)))))))
five n i l = omega (arith, l)

pub five_step : (n i s t whole : ℕ) → i < n → after (5 * (n - i)) s ≡ whole → t ≡ after 5 s → after (5 * (n - (i + 1))) t ≡ whole
five_step n i s t whole l inv e = ap (after (5 * (n - (i + 1)))) e ∙ ap (λ z. after z s) (sym (five n i l)) ∙ inv

six : (n i : ℕ) → i < n → 6 * (n - i) ≡ suc (suc (suc (suc (suc (suc (6 * (n - (i + 1))))))))
six n i l = omega (arith, l)

pub six_step : (n i s t whole : ℕ) → i < n → after (6 * (n - i)) s ≡ whole → t ≡ after 6 s → after (6 * (n - (i + 1))) t ≡ whole
six_step n i s t whole l inv e = ap (after (6 * (n - (i + 1)))) e ∙ ap (λ z. after z s) (sym (six n i l)) ∙ inv

-- no draw is left
pub none_left : (k n i s whole : ℕ) → n ≤ i → after (k * (n - i)) s ≡ whole → s ≡ whole
none_left k n i s whole l inv = ap (λ z. after z s) (sym (left k n i l)) ∙ inv
  where
    left : (k n i : ℕ) → n ≤ i → k * (n - i) ≡ zero
    left k n i l = ap (λ z. k * z) (zeroed n i l) ∙ omega arith
      where
        zeroed : (n i : ℕ) → n ≤ i → n - i ≡ 0
        zeroed n i l = omega (arith, l)
