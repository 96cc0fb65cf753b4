-- Proves that lines and words are cut as they were joined.
use Rattle.std.proofs.Common.{◌≡◌, ℕ, Bool, true, false, not, ◌&&◌, List, [], ◌∷◌, ◌++◌, refl, ap, ◌∙◌, arith, nat_le}
use Rattle.std.specs.Prelude.{nat_eq}
use Rattle.std.specs.List.{flat_map, list_all}
use Rattle.std.proofs.lemmas.Grind.{common_steps}
use Rattle.std.proofs.lemmas.Bool.Decides.{nat_tests}
use Rattle.document_reader.specs.Lines.{lines, words, is_blank, before_first}
use Rattle.std.proofs.lemmas.Bool.{and_parts, not-true}
use Rattle.document_reader.proofs.Cutting.{no_lines, word_ends, word_goes_on, no_words}

-- no byte is below a space
abbrev pub are_shown : List ℕ → Bool
are_shown bytes = list_all (nat_le 32) bytes

shown_none : (b : ℕ) → nat_le 32 b ≡ true → (nat_eq b 10 ≡ false) × (nat_eq b 13 ≡ false)
shown_none b e = (grind (arith, nat_tests, common_steps), grind (arith, nat_tests, common_steps))

-- a line with its end
abbrev pub ended : List ℕ → List ℕ
ended line = line ++ 10 ∷ []

pub line_cut : (line more : List ℕ) → are_shown line ≡ true → lines (ended line ++ more) ≡ line ∷ lines more
unfolding lines
line_cut [] more s = refl
line_cut (b ∷ line) more s =
    let h = and_parts (nat_le 32 b) (are_shown line) s in
    let n = shown_none b h.0 in
    rw (n.0, n.1) (ap (before_first b) (line_cut line more h.1))

pub lines_cut : (ls : List (List ℕ)) → list_all are_shown ls ≡ true → lines (flat_map ended ls) ≡ ls
lines_cut [] s = no_lines
lines_cut (l ∷ ls) s =
    let h = and_parts (are_shown l) (list_all are_shown ls) s in
    line_cut l (flat_map ended ls) h.0 ∙ ap (λ (z : List (List ℕ)). l ∷ z) (lines_cut ls h.1)

-- no byte is a space or a tab
abbrev pub are_dense : List ℕ → Bool
are_dense w = list_all (λ b. not (is_blank b)) w

blank_here : (bs : List ℕ) → words (32 ∷ bs) ≡ words bs
unfolding words
blank_here bs = refl

-- not a blank
dense_first : (b : ℕ) (w : List ℕ) → are_dense (b ∷ w) ≡ true → is_blank b ≡ false
dense_first b w e = not-true (is_blank b) (and_parts (not (is_blank b)) (are_dense w) e).0

dense_rest : (b : ℕ) (w : List ℕ) → are_dense (b ∷ w) ≡ true → are_dense w ≡ true
dense_rest b w e = (and_parts (not (is_blank b)) (are_dense w) e).1

pub word_then : (b : ℕ) (w rest : List ℕ) → are_dense (b ∷ w) ≡ true → words ((b ∷ w) ++ 32 ∷ rest) ≡ (b ∷ w) ∷ words rest
word_then b [] rest e = word_ends b (32 ∷ rest) (dense_first b [] e) refl ∙ ap (λ (z : List (List ℕ)). (b ∷ []) ∷ z) (blank_here rest)
word_then b (c ∷ w) rest e =
    word_goes_on b ((c ∷ w) ++ 32 ∷ rest) (dense_first b (c ∷ w) e) (dense_first c w (dense_rest b (c ∷ w) e))
    ∙ ap (before_first b) (word_then c w rest (dense_rest b (c ∷ w) e))

pub word_last : (b : ℕ) (w : List ℕ) → are_dense (b ∷ w) ≡ true → words (b ∷ w) ≡ (b ∷ w) ∷ []
word_last b [] e = word_ends b [] (dense_first b [] e) refl ∙ ap (λ (z : List (List ℕ)). (b ∷ []) ∷ z) no_words
word_last b (c ∷ w) e =
    word_goes_on b (c ∷ w) (dense_first b (c ∷ w) e) (dense_first c w (dense_rest b (c ∷ w) e))
    ∙ ap (before_first b) (word_last c w (dense_rest b (c ∷ w) e))
