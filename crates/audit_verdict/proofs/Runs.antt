-- Lemmas on the runs that turns make, and on their texts.
use Rattle.std.proofs.Common.{◌≡◌, ℕ, zero, suc, ◌+◌, ◌<◌, List, [], ◌∷◌, ◌++◌, length, take, drop, get_or, refl, sym, ap, ◌∙◌, arith, append_assoc}
use Rattle.std.proofs.lemmas.List.{length-take-le, take_more}
use Rattle.base.specs.Numbers.{sum_over}
use Rattle.filter_text.specs.declared.sent.Sent.{Sent}
use Rattle.net_model.specs.Parts.{ClientParts, NetParts, EntryParts}
use Rattle.net_turns.specs.Told.{told_from}
use Rattle.output_report.specs.Trace.{entries_text, entry_text}

-- a sum over what is left
sum_suc : {A : Type 0} (f : A → ℕ) (xs : List A) (i : ℕ) (d : A) → i < length xs → sum_over f (drop i xs) ≡ f (get_or xs i d) + sum_over f (drop (suc i) xs)
sum_suc f [] i d l = absurd (omega (arith, l))
sum_suc f (x ∷ xs) zero d l = refl
sum_suc f (x ∷ xs) (suc i) d l = sum_suc f xs i d (omega (arith, l))

pub sum_next : {A : Type 0} (f : A → ℕ) (xs : List A) (i : ℕ) (x : A) → i < length xs → x ≡ get_or xs i x → sum_over f (drop i xs) ≡ f x + sum_over f (drop (i + 1) xs)
sum_next f xs i x l e =
    let next : suc i ≡ i + 1 = omega arith in
    sum_suc f xs i x l ∙ (λ k. f (sym e k) + sum_over f (drop (next k) xs))

-- each entry has its messages
pub told-length : (net : NetParts) (journal : List EntryParts) (n : ℕ) (es : List EntryParts) → length (told_from net journal n es) ≡ length es
told-length net journal n [] = refl
told-length net journal n (e ∷ es) = ap suc (told-length net journal (suc n) es)

-- the text of one entry more
pub text_more : (clients : List ClientParts) (es : List EntryParts) (os : List (List Sent)) (e : EntryParts) (o : List Sent) → length os ≡ length es
    → entries_text clients es os ++ entry_text clients e o ≡ entries_text clients (es ++ e ∷ []) (os ++ o ∷ [])
text_more clients [] [] e o l = sym (nothing_more (entry_text clients e o))
  where
    nothing_more : (xs : List ℕ) → xs ++ [] ≡ xs
    nothing_more [] = refl
    nothing_more (x ∷ xs) = ap (λ z. x ∷ z) (nothing_more xs)
text_more clients [] (p ∷ os) e o l = absurd (omega (arith, l))
text_more clients (f ∷ es) [] e o l = absurd (omega (arith, l))
text_more clients (f ∷ es) (p ∷ os) e o l =
    append_assoc (entry_text clients f p) (entries_text clients es os) (entry_text clients e o) ∙ ap (λ z. entry_text clients f p ++ z) (text_more clients es os e o (omega (arith, l)))

pub entries_more : (clients : List ClientParts) (journal : List EntryParts) (i : ℕ) (d : EntryParts) (told : List (List Sent)) (last : List Sent) → i < length journal → length told ≡ i
    → entries_text clients (take i journal) told ++ entry_text clients (get_or journal i d) last ≡ entries_text clients (take (i + 1) journal) (told ++ last ∷ [])
entries_more clients journal i d told last l many =
    text_more clients (take i journal) told (get_or journal i d) last (many ∙ sym (length-take-le i journal (omega (arith, l))))
    ∙ ap (λ z. entries_text clients z (told ++ last ∷ [])) (sym (take_more journal i d l))
