-- Proves how an input is cut at a line.
use Rattle.std.proofs.Common.{◌≡◌, ◌⊎◌, inl, inr, ℕ, zero, suc, ◌+◌, ◌-◌, ◌≤◌, false, List, [], ◌∷◌, ◌++◌, length, take, refl, sym, ap, subst, ◌∙◌, arith, append_assoc, length-append}
use Rattle.std.specs.Str.{bytes_eq}
use Rattle.document_reader.specs.Lines.{IsFirstLine, lines}
use Rattle.document_reader.proofs.Cutting.{no_lines}
use Rattle.document_reader.specs.Cut.{IsCutAt, IsNoLine}
use Rattle.std.proofs.lemmas.List.{append-nil}
use Rattle.base.proofs.Lists.{length-push}

-- the lines so far are none of the word, and bytes before the rest are these lines, whatever follows
pub record Searching (bytes word rest : List ℕ) (number : ℕ) : Type 0 where
  pub done : List (List ℕ)
  pub before : List ℕ
  pub left : lines bytes ≡ done ++ lines rest
  pub none : IsNoLine word done
  pub parts : bytes ≡ before ++ rest
  pub counted : number ≡ length done + 2
  pub bound : number + length rest ≤ 2 + length bytes
  pub whole : (rest ≡ []) ⊎ ((more : List ℕ) → lines (before ++ more) ≡ done ++ lines more)

pub begun : (bytes word : List ℕ) → Searching bytes word bytes 2
begun bytes word = record {
  done = [];
  before = [];
  left = refl;
  none = tt;
  parts = refl;
  counted = refl;
  bound = omega arith;
  whole = inr (λ more. refl);
}

all_then : (word : List ℕ) (done : List (List ℕ)) (line : List ℕ) → IsNoLine word done → bytes_eq line word ≡ false → IsNoLine word (done ++ line ∷ [])
all_then word [] line h e = (e, tt)
all_then word (d ∷ done) line h e = (h.0, all_then word done line h.1 e)

-- one line more
pub searched : (bytes word rest line after : List ℕ) (number next : ℕ) → Searching bytes word rest number → lines rest ≡ line ∷ lines after → IsFirstLine rest line after
    → next ≡ number + 1 → number + length after + 1 ≤ 2 + length bytes → bytes_eq line word ≡ false → Searching bytes word after next
searched bytes word rest line after number next s e f n b other =
    record {
      done = s.done ++ line ∷ [];
      before = s.before ++ f.own;
      left = s.left ∙ ap (λ l. s.done ++ l) e ∙ sym (append_assoc s.done (line ∷ []) (lines after));
      none = all_then word s.done line s.none other;
      parts = s.parts ∙ ap (λ l. s.before ++ l) f.parts ∙ sym (append_assoc s.before f.own after);
      counted = omega (arith, n, s.counted, length-push s.done line);
      bound = omega (arith, n, b);
      whole = go s.whole f.ends;
    }
  where
    none_left : rest ≡ [] → after ≡ []
    none_left z = absurd (no_line (sym e ∙ ap lines z ∙ no_lines))
      where
        no_line : line ∷ lines after ≡ [] → ⊥
        no_line k = cc

    go : (rest ≡ []) ⊎ ((more : List ℕ) → lines (s.before ++ more) ≡ s.done ++ lines more) → (after ≡ []) ⊎ ((more : List ℕ) → lines (f.own ++ more) ≡ line ∷ lines more)
        → (after ≡ []) ⊎ ((more : List ℕ) → lines ((s.before ++ f.own) ++ more) ≡ (s.done ++ line ∷ []) ++ lines more)
    go (inl z) k = inl (none_left z)
    go h (inl z) = inl z
    go (inr h) (inr k) =
        inr (λ more. ap lines (append_assoc s.before f.own more) ∙ h (f.own ++ more) ∙ ap (λ l. s.done ++ l) (k more) ∙ sym (append_assoc s.done (line ∷ []) (lines more)))

pub taken : (bytes before rest : List ℕ) (n : ℕ) → bytes ≡ before ++ rest → n ≡ length bytes - length rest → take n bytes ≡ before
taken bytes before rest n e f = rw e (front before rest n (f ∙ ap (λ l. length l - length rest) e))
  where
    prefix : (xs ys : List ℕ) (m : ℕ) → m ≡ length xs → take m (xs ++ ys) ≡ xs
    prefix [] ys zero g = refl
    prefix [] ys (suc m) g = absurd (omega (arith, g))
    prefix (x ∷ xs) ys zero g = absurd (omega (arith, g))
    prefix (x ∷ xs) ys (suc m) g = ap (λ l. x ∷ l) (prefix xs ys m (omega (arith, g)))

    front : (xs ys : List ℕ) (m : ℕ) → m ≡ length (xs ++ ys) - length ys → take m (xs ++ ys) ≡ xs
    front xs ys m g = prefix xs ys m (omega (arith, g, length-append xs ys))

-- the line is found
pub found : (bytes word rest line after front : List ℕ) (number n : ℕ) → Searching bytes word rest number → lines rest ≡ line ∷ lines after → IsFirstLine rest line after
    → line ≡ word → front ≡ take n bytes → n ≡ length bytes - length rest
    → IsCutAt word bytes front after × (number ≡ length (lines front) + 2)
found bytes word rest line after front number n s e f same g m =
    let is_front : front ≡ s.before = g ∙ taken bytes s.before rest n s.parts m in
    let before : lines s.before ≡ s.done = alone s.whole in (
      record {
        own = f.own;
        parts = s.parts ∙ ap (λ l. s.before ++ l) f.parts ∙ sym (append_assoc s.before f.own after) ∙ ap (λ l. (l ++ f.own) ++ after) (sym is_front);
        alone = f.alone ∙ ap (λ l. l ∷ []) same;
        cut = s.left ∙ ap (λ l. s.done ++ l) e ∙ ap (λ l. l ++ (line ∷ lines after)) (sym (ap lines is_front ∙ before)) ∙ ap (λ w. lines front ++ w ∷ lines after) same;
        first = subst (IsNoLine word) (sym (ap lines is_front ∙ before)) s.none;
        whole = λ more. ap (λ l. lines (l ++ more)) is_front ∙ whole_before s.whole more ∙ ap (λ l. l ++ lines more) (sym (ap lines is_front ∙ before));
        ends = subst (λ w. (after ≡ []) ⊎ ((more : List ℕ) → lines (f.own ++ more) ≡ w ∷ lines more)) same f.ends;
      },
      s.counted ∙ ap (λ l. length l + 2) (sym (ap lines is_front ∙ before)),
    )
  where
    some : rest ≡ [] → ⊥
    some z = no_line (sym e ∙ ap lines z ∙ no_lines)
      where
        no_line : line ∷ lines after ≡ [] → ⊥
        no_line k = cc

    whole_before : (rest ≡ []) ⊎ ((more : List ℕ) → lines (s.before ++ more) ≡ s.done ++ lines more) → (more : List ℕ) → lines (s.before ++ more) ≡ s.done ++ lines more
    whole_before (inl z) more = absurd (some z)
    whole_before (inr h) more = h more

    alone : (rest ≡ []) ⊎ ((more : List ℕ) → lines (s.before ++ more) ≡ s.done ++ lines more) → lines s.before ≡ s.done
    alone (inl z) = absurd (some z)
    alone (inr h) = ap lines (sym (append-nil s.before)) ∙ h [] ∙ ap (λ l. s.done ++ l) no_lines ∙ append-nil s.done
