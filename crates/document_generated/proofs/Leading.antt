-- Texts that are whole lines, which the reader accepts: what stands before and behind them.
use Rattle.std.proofs.Common.{◌≡◌, ℕ, ◌+◌, ◌<◌, ◌≤◌, true, List, [], ◌∷◌, ◌++◌, length, refl, sym, ap, subst, ◌∙◌, arith, Ok, append_assoc}
use Rattle.std.specs.Fmt.{decimal}
use Rattle.std.proofs.lemmas.List.{length-append}
use Rattle.std.proofs.lemmas.Fmt.{length-decimal-le}
use Rattle.document_reader.specs.Lines.{lines}
use Rattle.document_reader.specs.Places.{line_rule}
use Rattle.document_reader.specs.Meaning.{stands}
use Rattle.document_reader.specs.declared.state.State.{State}
use Rattle.document_format.proofs.LineLaws.{are_shown, ended, line_cut}
use Rattle.document_format.proofs.Stands.{stands_on, stands_next}

-- the text is whole lines, of at most so many bytes; where s stands before them, t stands behind them
pub record Leads (s : State) (text : List ℕ) (most : ℕ) (t : State) : Type 0 where
  pub ls : List (List ℕ)
  pub cut : (more : List ℕ) → lines (text ++ more) ≡ ls ++ lines more
  pub taken : (n : ℕ) → stands n s ls ≡ Ok t
  pub short : length text ≤ most

-- no line
pub leads-none : (s : State) → Leads s [] 0 s
leads-none s = record { ls = []; cut = λ more. refl; taken = λ n. refl; short = omega arith }

-- one line
pub leads-line : (s t : State) (line : List ℕ) (most : ℕ) → are_shown line ≡ true → length line < most → ((n : ℕ) → line_rule s n line ≡ Ok t) → Leads s (ended line) most t
leads-line s t line most shown short rule = record {
  ls = line ∷ [];
  cut = λ more. line_cut line more shown;
  taken = λ n. stands_next n s t t line [] (rule n) refl;
  short = omega (arith, length-append line (10 ∷ []), short);
}

-- one text behind another
pub leads-on : (s t u : State) (x y : List ℕ) (a b : ℕ) → Leads s x a t → Leads t y b u → Leads s (x ++ y) (a + b) u
leads-on s t u x y a b one two = record {
  ls = one.ls ++ two.ls;
  cut = λ more. ap lines (append_assoc x y more) ∙ one.cut (y ++ more) ∙ ap (λ z. one.ls ++ z) (two.cut more) ∙ sym (append_assoc one.ls two.ls (lines more));
  taken = λ n. stands_on n s t u one.ls two.ls (one.taken n) (two.taken (length one.ls + n));
  short = omega (arith, length-append x y, one.short, two.short);
}

-- the same text in other words
pub leads-same : (s t : State) (x y : List ℕ) (most : ℕ) → x ≡ y → Leads s x most t → Leads s y most t
leads-same s t x y most e l = subst (λ z. Leads s z most t) e l

-- a greater bound
pub leads-within : (s t : State) (x : List ℕ) (a b : ℕ) → a ≤ b → Leads s x a t → Leads s x b t
leads-within s t x a b l is = record { ls = is.ls; cut = is.cut; taken = is.taken; short = omega (arith, l, is.short) }

-- Lengths.

pub number-short : (n : ℕ) → n < 100 → length (decimal n) ≤ 2
number-short n l = length-decimal-le 2 n (omega arith) l (omega (arith, l))

pub append-short : (x y : List ℕ) (a b : ℕ) → length x ≤ a → length y ≤ b → length (x ++ y) ≤ a + b
append-short x y a b l m = omega (arith, length-append x y, l, m)
