-- Where bytes are cut into lines, words and tokens.
use Rattle.std.proofs.Common.{◌≡◌, ◌≢◌, inl, inr, ℕ, zero, suc, ◌<◌, ◌≤◌, List, [], ◌∷◌, ◌++◌, length, take, drop, refl, arith, sym, subst, ◌∙◌, ap, Bool, true, false, get_or}
use Rattle.std.specs.Prelude.{nat_eq}
use Rattle.document_reader.specs.Lines.{IsFirstLine, lines, words, is_blank, without_return, before_first, at_newline, at_word_end}
use Rattle.base.proofs.Numbers.{neq-nat_eq, eq-nat_eq}
use Rattle.std.proofs.lemmas.List.{append-nil}
use Rattle.std.proofs.lemmas.Bool.{both_ways}

-- One byte.

end_here : (b : ℕ) (bs : List ℕ) → nat_eq b 10 ≡ true → lines (b ∷ bs) ≡ [] ∷ lines bs
unfolding lines
end_here b bs e = rw e refl

end_next : (b : ℕ) (bs : List ℕ) → nat_eq b 10 ≡ false → nat_eq b 13 ≡ true → at_newline bs ≡ true → lines (b ∷ bs) ≡ lines bs
unfolding lines
end_next b bs e f g = rw (e, f, g) refl

goes_on : (b : ℕ) (bs : List ℕ) → nat_eq b 10 ≡ false → at_newline bs ≡ false → lines (b ∷ bs) ≡ before_first b (lines bs)
unfolding lines
goes_on b bs e g = elim (nat_eq b 13) as (λ v. nat_eq b 13 ≡ v → lines (b ∷ bs) ≡ before_first b (lines bs)) [ true ↦ λ f. rw (e, f, g) refl | false ↦ λ f. rw (e, f) refl ] refl

plain : (b : ℕ) (bs : List ℕ) → nat_eq b 10 ≡ false → nat_eq b 13 ≡ false → lines (b ∷ bs) ≡ before_first b (lines bs)
unfolding lines
plain b bs e f = rw (e, f) refl

-- Lines.

cr_one : (b : ℕ) (rest : List ℕ) → nat_eq b 10 ≡ false → lines (b ∷ 10 ∷ rest) ≡ without_return (b ∷ []) ∷ lines rest
unfolding without_return
cr_one b rest e = elim (nat_eq b 13) as (λ v. nat_eq b 13 ≡ v → lines (b ∷ 10 ∷ rest) ≡ without_return (b ∷ []) ∷ lines rest) [
  | true ↦ λ f. (end_next b (10 ∷ rest) e f refl ∙ end_here 10 rest refl) ∙ rw f refl
  | false ↦ λ f. (plain b (10 ∷ rest) e f ∙ ap (before_first b) (end_here 10 rest refl)) ∙ rw f refl
] refl

-- a line with its end
pub cut_line : (bs : List ℕ) (n : ℕ) → n < length bs → get_or bs n 0 ≡ 10 → ((k : ℕ) → k < n → get_or bs k 0 ≢ 10) → lines bs ≡ without_return (take n bs) ∷ lines (drop (suc n) bs)
unfolding without_return
cut_line [] n lt at before = absurd (omega arith)
cut_line (b ∷ bs) zero lt at before = end_here b bs (eq-nat_eq b 10 at)
cut_line (b ∷ []) (suc n) lt at before = absurd (omega arith)
cut_line (b ∷ c ∷ cs) (suc zero) lt at before =
    let P : ℕ → Type 0 = λ x. lines (b ∷ x ∷ cs) ≡ without_return (b ∷ []) ∷ lines cs in
    subst P (sym at) (cr_one b cs (neq-nat_eq b 10 (before 0 (omega arith))))
cut_line (b ∷ c ∷ cs) (suc (suc n)) lt at before =
    let h = cut_line (c ∷ cs) (suc n) (omega arith) at (λ k l. before (suc k) (omega arith)) in
    goes_on b (c ∷ cs) (neq-nat_eq b 10 (before 0 (omega arith))) (neq-nat_eq c 10 (before 1 (omega arith))) ∙ ap (before_first b) h

-- the same with other bytes behind its end
front_line : (bs more : List ℕ) (n : ℕ) → n < length bs → get_or bs n 0 ≡ 10 → ((k : ℕ) → k < n → get_or bs k 0 ≢ 10) → lines (take (suc n) bs ++ more) ≡ without_return (take n bs) ∷ lines more
unfolding without_return
front_line [] more n lt at before = absurd (omega arith)
front_line (b ∷ bs) more zero lt at before = end_here b more (eq-nat_eq b 10 at)
front_line (b ∷ []) more (suc n) lt at before = absurd (omega arith)
front_line (b ∷ c ∷ cs) more (suc zero) lt at before =
    let P : ℕ → Type 0 = λ x. lines (b ∷ x ∷ more) ≡ without_return (b ∷ []) ∷ lines more in
    subst P (sym at) (cr_one b more (neq-nat_eq b 10 (before 0 (omega arith))))
front_line (b ∷ c ∷ cs) more (suc (suc n)) lt at before =
    let h = front_line (c ∷ cs) more (suc n) (omega arith) at (λ k l. before (suc k) (omega arith)) in
    goes_on b (c ∷ take (suc n) cs ++ more) (neq-nat_eq b 10 (before 0 (omega arith))) (neq-nat_eq c 10 (before 1 (omega arith))) ∙ ap (before_first b) h

-- the last line, without an end
pub last_line : (b : ℕ) (bs : List ℕ) → ((k : ℕ) → k < length (b ∷ bs) → get_or (b ∷ bs) k 0 ≢ 10) → lines (b ∷ bs) ≡ (b ∷ bs) ∷ []
unfolding lines
last_line b [] l = goes_on b [] (neq-nat_eq b 10 (l 0 (omega arith))) refl
last_line b (c ∷ cs) l =
    goes_on b (c ∷ cs) (neq-nat_eq b 10 (l 0 (omega arith))) (neq-nat_eq c 10 (l 1 (omega arith)))
    ∙ ap (before_first b) (last_line c cs (λ k lt. l (suc k) (omega arith)))

pub no_lines : lines [] ≡ []
unfolding lines
no_lines = refl

pub with_cr : (xs : List ℕ) (n : ℕ) → length xs ≡ suc n → get_or xs n 0 ≡ 13 → without_return xs ≡ take n xs
unfolding without_return
with_cr [] n len at = absurd (omega arith)
with_cr (b ∷ []) zero len at = rw (eq-nat_eq b 13 at) refl
with_cr (b ∷ []) (suc n) len at = absurd (omega arith)
with_cr (b ∷ c ∷ cs) zero len at = absurd (omega arith)
with_cr (b ∷ c ∷ cs) (suc n) len at = ap (λ l. b ∷ l) (with_cr (c ∷ cs) n (omega arith) at)

pub no_cr : (xs : List ℕ) (n : ℕ) → length xs ≡ suc n → get_or xs n 0 ≢ 13 → without_return xs ≡ xs
unfolding without_return
no_cr [] n len at = absurd (omega arith)
no_cr (b ∷ []) zero len at = rw (neq-nat_eq b 13 at) refl
no_cr (b ∷ []) (suc n) len at = absurd (omega arith)
no_cr (b ∷ c ∷ cs) zero len at = absurd (omega arith)
no_cr (b ∷ c ∷ cs) (suc n) len at = ap (λ l. b ∷ l) (no_cr (c ∷ cs) n (omega arith) at)

pub no_cr_empty : (xs : List ℕ) → length xs ≡ 0 → without_return xs ≡ xs
unfolding without_return
no_cr_empty [] len = refl
no_cr_empty (b ∷ bs) len = absurd (omega arith)

-- Words.

pub no_words : words [] ≡ []
unfolding words
no_words = refl

blank_here : (b : ℕ) (bs : List ℕ) → is_blank b ≡ true → words (b ∷ bs) ≡ words bs
unfolding words
blank_here b bs e = rw e refl

pub word_ends : (b : ℕ) (bs : List ℕ) → is_blank b ≡ false → at_word_end bs ≡ true → words (b ∷ bs) ≡ (b ∷ []) ∷ words bs
unfolding words
word_ends b bs e f = rw (e, f) refl

pub word_goes_on : (b : ℕ) (bs : List ℕ) → is_blank b ≡ false → at_word_end bs ≡ false → words (b ∷ bs) ≡ before_first b (words bs)
unfolding words
word_goes_on b bs e f = rw (e, f) refl

pub skip_blanks : (bs : List ℕ) (n : ℕ) → n ≤ length bs → ((k : ℕ) → k < n → is_blank (get_or bs k 0) ≡ true) → words bs ≡ words (drop n bs)
skip_blanks bs zero le before = refl
skip_blanks [] (suc n) le before = absurd (omega arith)
skip_blanks (b ∷ bs) (suc n) le before = blank_here b bs (before 0 (omega arith)) ∙ skip_blanks bs n (omega arith) (λ k lt. before (suc k) (omega arith))

ends_at : (bs : List ℕ) → (0 < length bs → is_blank (get_or bs 0 0) ≡ true) → at_word_end bs ≡ true
ends_at [] at = refl
ends_at (b ∷ bs) at = at (omega arith)

pub cut_word : (bs : List ℕ) (n : ℕ) → 0 < n → n ≤ length bs → ((k : ℕ) → k < n → is_blank (get_or bs k 0) ≡ false) → (n < length bs → is_blank (get_or bs n 0) ≡ true) → words bs ≡ take n bs ∷ words (drop n bs)
cut_word bs zero some le before at = absurd (omega arith)
cut_word [] (suc n) some le before at = absurd (omega arith)
cut_word (b ∷ bs) (suc zero) some le before at = word_ends b bs (before 0 (omega arith)) (ends_at bs (λ lt. at (omega arith)))
cut_word (b ∷ []) (suc (suc n)) some le before at = absurd (omega arith)
cut_word (b ∷ c ∷ cs) (suc (suc n)) some le before at =
    word_goes_on b (c ∷ cs) (before 0 (omega arith)) (before 1 (omega arith))
    ∙ ap (before_first b) (cut_word (c ∷ cs) (suc n) (omega arith) (omega arith) (λ k lt. before (suc k) (omega arith)) (λ lt. at (omega arith)))

-- As the code cuts.

pub is_nil : (bs : List ℕ) → length bs ≡ 0 → bs ≡ []
is_nil [] e = refl
is_nil (b ∷ bs) e = absurd (omega arith)

take_whole : (bs : List ℕ) (n : ℕ) → n ≡ length bs → take n bs ≡ bs
take_whole [] zero e = refl
take_whole [] (suc n) e = absurd (omega arith)
take_whole (b ∷ bs) zero e = absurd (omega arith)
take_whole (b ∷ bs) (suc n) e = ap (λ l. b ∷ l) (take_whole bs n (omega arith))

some_last : (bs : List ℕ) → 0 < length bs → ((k : ℕ) → k < length bs → get_or bs k 0 ≢ 10) → lines bs ≡ bs ∷ []
some_last [] some before = absurd (omega arith)
some_last (b ∷ bs) some before = last_line b bs before

pub last_of : (bs line end : List ℕ) (n : ℕ) → line ≡ take n bs → end ≡ drop n bs → length end ≡ 0 → 0 < length bs → n ≡ length bs → ((k : ℕ) → k < n → get_or bs k 0 ≢ 10) → lines bs ≡ line ∷ lines end
last_of bs line end n f g none some all before =
    some_last bs some (λ k lt. before k (omega arith))
    ∙ rw (f, take_whole bs n all, is_nil end none, no_lines) refl

pub line_of : (bs line rest : List ℕ) (n m : ℕ) → m ≡ suc n → line ≡ without_return (take n bs) → rest ≡ drop m bs → n < length bs → get_or bs n 0 ≡ 10 → ((k : ℕ) → k < n → get_or bs k 0 ≢ 10) → lines bs ≡ line ∷ lines rest
line_of bs line rest n m e f g lt at before = rw (f, g, e) (cut_line bs n lt at before)

front_back : (bs : List ℕ) (n : ℕ) → bs ≡ take n bs ++ drop n bs
front_back bs zero = refl
front_back [] (suc n) = refl
front_back (b ∷ bs) (suc n) = ap (λ l. b ∷ l) (front_back bs n)

pub last_is_first : (bs line end : List ℕ) (n : ℕ) → line ≡ take n bs → end ≡ drop n bs → length end ≡ 0 → 0 < length bs → n ≡ length bs → ((k : ℕ) → k < n → get_or bs k 0 ≢ 10) → IsFirstLine bs line end
last_is_first bs line end n f g none some all before =
    let h = last_of bs line end n f g none some all before in
    record {
      own = bs;
      parts = sym (ap (λ l. bs ++ l) (is_nil end none) ∙ append-nil bs);
      alone = h ∙ ap (λ l. line ∷ l) (ap lines (is_nil end none) ∙ no_lines);
      ends = inl (is_nil end none);
    }

pub line_is_first : (bs line rest : List ℕ) (n m : ℕ) → m ≡ suc n → line ≡ without_return (take n bs) → rest ≡ drop m bs → n < length bs → get_or bs n 0 ≡ 10 → ((k : ℕ) → k < n → get_or bs k 0 ≢ 10) → IsFirstLine bs line rest
line_is_first bs line rest n m e f g lt at before =
    let whole : (more : List ℕ) → lines (take m bs ++ more) ≡ line ∷ lines more = λ more. rw (e, f) (front_line bs more n lt at before) in
    record {
      own = take m bs;
      parts = front_back bs m ∙ ap (λ l. take m bs ++ l) (sym g);
      alone = ap lines (sym (append-nil (take m bs))) ∙ (whole [] ∙ ap (λ l. line ∷ l) no_lines);
      ends = inr whole;
    }

pub no_word_of : (bs text : List ℕ) (n : ℕ) → text ≡ drop n bs → length text ≡ 0 → n ≤ length bs → ((k : ℕ) → k < n → is_blank (get_or bs k 0) ≡ true) → words bs ≡ []
no_word_of bs text n f none le before = (skip_blanks bs n le before ∙ ap words (sym f ∙ is_nil text none)) ∙ no_words

pub word_of : (bs text w rest : List ℕ) (n m : ℕ) → text ≡ drop n bs → n ≤ length bs → ((k : ℕ) → k < n → is_blank (get_or bs k 0) ≡ true)
    → w ≡ take m text → rest ≡ drop m text → 0 < m → m ≤ length text → ((k : ℕ) → k < m → is_blank (get_or text k 0) ≡ false) → (m < length text → is_blank (get_or text m 0) ≡ true) → words bs ≡ w ∷ words rest
word_of bs text w rest n m f le before g h some within all at =
    (skip_blanks bs n le before ∙ ap words (sym f)) ∙ rw (g, h) (cut_word text m some within all at)

head_of_drop : (bs : List ℕ) (n : ℕ) → get_or (drop n bs) 0 0 ≡ get_or bs n 0
head_of_drop bs zero = refl
head_of_drop [] (suc n) = refl
head_of_drop (b ∷ bs) (suc n) = head_of_drop bs n

-- after the blanks stands a word
pub first_word : (bs text : List ℕ) (n m : ℕ) → text ≡ drop n bs → n < length bs → (n < length bs → is_blank (get_or bs n 0) ≡ false) → 0 < length text → (m < length text → is_blank (get_or text m 0) ≡ true) → 0 < m
first_word bs text n zero f lt at some end =
    absurd (both_ways (is_blank (get_or bs n 0)) (at lt) ((ap is_blank (sym (head_of_drop bs n) ∙ ap (λ l. get_or l 0 0) (sym f))) ∙ end some))
first_word bs text n (suc m) f lt at some end = omega arith
