-- Lines of scripts, of which most are read without their words.
use Rattle.std.proofs.Common.{◌≡◌, ◌<◌, ◌≤◌, ◌+◌, ℕ, zero, suc, Bool, true, false, cond, List, [], ◌∷◌, length, drop, get_or, refl, sym, ap, subst, ◌∙◌, arith}
use Rattle.std.proofs.lemmas.List.{at_drop_more}
use Rattle.std.specs.Prelude.{Ok, Err, Some, None, codes, nat_eq}
use Rattle.std.specs.declared.option.Option.{Option}
use Rattle.std.specs.Option.{is_some}
use Rattle.std.specs.Str.{bytes_eq}
use Rattle.filter_constraints.proofs.BytesLemmas.{bytes_eq-tells}
use Rattle.document_script.specs.Form.{verb_named}
use Rattle.document_script.specs.Tokens.{first_word, tokens}
use Rattle.document_reader.specs.Lines.{at_word_end, before_first, is_blank, words}
use Rattle.document_reader.specs.Rules.{command_rule}
use Rattle.document_reader.specs.Places.{at_place, at_section, at_token, is_comment, is_script, is_skipped, line_rule, words_rule}
use Rattle.document_reader.specs.declared.fault.Fault.TheVariants as is
use Rattle.document_reader.specs.declared.state.State.{State}
use Rattle.document_reader.specs.declared.state.Place.{Place}
use Rattle.document_reader.specs.declared.state.Place.TheVariants as at

-- Which lines are skipped.

pub blank_first : (b : ℕ) (bs : List ℕ) → is_blank b ≡ true → words (b ∷ bs) ≡ words bs
unfolding words
blank_first b bs e = rw e refl

led : (b : ℕ) (pieces : List (List ℕ)) → is_skipped (before_first b pieces) ≡ nat_eq b 35
led b [] = refl
led b (p ∷ ps) = refl

pub word_first : (b : ℕ) (bs : List ℕ) → is_blank b ≡ false → is_skipped (words (b ∷ bs)) ≡ nat_eq b 35
unfolding words
word_first b bs e = go (is_blank b) (at_word_end bs) e
  where
    go : (p q : Bool) → p ≡ false → is_skipped (cond p (words bs) (cond q ((b ∷ []) ∷ words bs) (before_first b (words bs)))) ≡ nat_eq b 35
    go true q e = absurd cc
    go false true e = refl
    go false false e = led b (words bs)

pub skipped_rule : (s : State) (n : ℕ) (line : List ℕ) → is_skipped (words line) ≡ true → line_rule s n line ≡ Ok s
unfolding line_rule
skipped_rule s n line e = go (words line) e
  where
    go : (ws : List (List ℕ)) → is_skipped ws ≡ true → words_rule s n line ws ≡ Ok s
    go [] e = refl
    go (w ∷ ws) e = rw e refl

pub in_scripts : (p : Place) → is_script p ≡ true → p ≡ at.Scripts
in_scripts at.Scripts e = refl
in_scripts at.Header e = absurd cc
in_scripts at.Semantics e = absurd cc
in_scripts at.Servers e = absurd cc
in_scripts at.Edges e = absurd cc
in_scripts at.Clients e = absurd cc
in_scripts at.Schedule e = absurd cc

pub section_rule : (s : State) (n : ℕ) (line : List ℕ) → s.place ≡ at.Scripts → is_skipped (words line) ≡ false → line_rule s n line ≡ at_section s line (first_word (tokens line)) (words line)
unfolding line_rule
section_rule s n line p e = go (words line) e
  where
    go : (ws : List (List ℕ)) → is_skipped ws ≡ false → words_rule s n line ws ≡ at_section s line (first_word (tokens line)) ws
    go [] e = absurd cc
    go (w ∷ ws) e = rw (e, p) refl

pub word_rule : (s : State) (n : ℕ) (line w : List ℕ) (ws : List (List ℕ)) → words line ≡ w ∷ ws → is_skipped (words line) ≡ false → line_rule s n line ≡ at_place s.place s n line w ws
unfolding line_rule
word_rule s n line w ws h e =
    let k : is_comment w ≡ false = subst (λ (x : List (List ℕ)). is_skipped x ≡ false) h e in
    rw (h, k) refl

-- A command's first word begins no section.

other : (t u : List ℕ) → verb_named u ≡ None → is_some (verb_named t) ≡ true → bytes_eq t u ≡ false
other t u n v = go (bytes_eq t u) refl
  where
    go : (p : Bool) → bytes_eq t u ≡ p → p ≡ false
    go true e = let same : t ≡ u = bytes_eq-tells t u e in let w : is_some (verb_named u) ≡ true = subst (λ (x : List ℕ). is_some (verb_named x) ≡ true) same v in let x : is_some (verb_named u) ≡ false = rw n refl in absurd cc
    go false e = refl

verb_token : (s : State) (line w : List ℕ) (ws : List (List ℕ)) (t : List ℕ) → is_some (verb_named t) ≡ true → at_token s line w ws (Some t) ≡ command_rule s line
unfolding at_token
verb_token s line w ws t v = rw (other t (codes "barrier") refl v, other t (codes "script") refl v, other t (codes "schedule") refl v, v) refl

pub verb_section : (s : State) (line t : List ℕ) (token : Option (List ℕ)) (ws : List (List ℕ)) → token ≡ Some t → is_some (verb_named t) ≡ true → is_skipped ws ≡ false → at_section s line token ws ≡ command_rule s line
verb_section s line t token [] h v e = absurd cc
verb_section s line t token (w ∷ ws) h v e = rw h (verb_token s line w ws t v)

pub no_token : (s : State) (line : List ℕ) (ws : List (List ℕ)) (token : Option (List ℕ)) → token ≡ None → is_skipped ws ≡ false → at_section s line token ws ≡ Err is.Order
unfolding at_token
no_token s line [] token h e = absurd cc
no_token s line (w ∷ ws) token h e = rw h refl

-- The bytes one after the other.

drop_none : (xs : List ℕ) (i : ℕ) → length xs ≤ i → drop i xs ≡ []
drop_none [] zero l = refl
drop_none [] (suc i) l = refl
drop_none (x ∷ xs) zero l = absurd (omega (arith, l))
drop_none (x ∷ xs) (suc i) l = drop_none xs i (omega (arith, l))

pub skips_on : (line : List ℕ) (i : ℕ) → i < length line → is_blank (get_or line i 0) ≡ true → is_skipped (words (drop i line)) ≡ is_skipped (words line) → is_skipped (words (drop (i + 1) line)) ≡ is_skipped (words line)
skips_on line i l b so_far =
    let here : is_skipped (words (drop i line)) ≡ is_skipped (words (get_or line i 0 ∷ drop (i + 1) line)) = at_drop_more (λ (x : List ℕ). is_skipped (words x)) line i 0 l in
    sym (here ∙ ap is_skipped (blank_first (get_or line i 0) (drop (i + 1) line) b)) ∙ so_far

pub skips_at : (line : List ℕ) (i : ℕ) → i < length line → is_blank (get_or line i 0) ≡ false → is_skipped (words (drop i line)) ≡ is_skipped (words line) → nat_eq (get_or line i 0) 35 ≡ is_skipped (words line)
skips_at line i l b so_far =
    let here : is_skipped (words (drop i line)) ≡ is_skipped (words (get_or line i 0 ∷ drop (i + 1) line)) = at_drop_more (λ (x : List ℕ). is_skipped (words x)) line i 0 l in
    sym (here ∙ word_first (get_or line i 0) (drop (i + 1) line) b) ∙ so_far

pub skips_all : (line : List ℕ) (i : ℕ) → length line ≤ i → is_skipped (words (drop i line)) ≡ is_skipped (words line) → true ≡ is_skipped (words line)
unfolding words
skips_all line i l so_far = let none : is_skipped (words (drop i line)) ≡ true = ap (λ (x : List ℕ). is_skipped (words x)) (drop_none line i l) in sym none ∙ so_far
