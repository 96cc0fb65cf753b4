-- A document with a net, the line `output` behind it, and what stands behind that, are cut there again.
use Rattle.std.proofs.Common.{◌≡◌, inr, ℕ, ◌+◌, Bool, true, false, ◌&&◌, List, [], ◌∷◌, ◌++◌, refl, sym, ap, ◌∙◌, append_assoc, Result, Ok, Err}
use Rattle.std.specs.Prelude.{codes, nat_eq, nat_lt, length, if◌then◌else◌}
use Rattle.std.specs.Str.{bytes_eq}
use Rattle.filter_constraints.proofs.BytesLemmas.{bytes_eq-tells}
use Rattle.document_script.specs.Tokens.{tokens_in, token_at}
use Rattle.net_model.specs.Parts.{NetParts}
use Rattle.document_reader.specs.Lines.{at_newline, before_first, lines, words}
use Rattle.document_reader.specs.Drawn.{is_apart}
use Rattle.document_reader.specs.Net.{IsNetOf}
use Rattle.document_reader.specs.Places.{at_clients, at_edges, at_place, at_schedule, at_token, document_of, line_rule, read_from, start, then_on, told_at}
use Rattle.document_reader.specs.Rules.{Answer, header_rule, semantics_rule, servers_rule}
use Rattle.document_reader.specs.declared.fault.Fault.{Fault}
use Rattle.document_reader.specs.declared.fault.Fault.TheVariants as is
use Rattle.document_reader.specs.declared.state.State.{State}
use Rattle.document_reader.specs.declared.state.Place.{Place}
use Rattle.document_reader.specs.declared.state.Place.TheVariants as at
use Rattle.document_reader.specs.Cut.{IsNoLine}
use Rattle.audit_claim.specs.Claim.{EndsLine, IsInput, with_output}
use Rattle.document_reader.proofs.SoundDocuments.{no_answer}

-- No line of a document is `output`.

open_place : (s t : State) → at_edges s (codes "output") [] ≡ Ok t → ⊥
unfolding at_edges at_clients
open_place s t e = go (is_apart s.trees) e
  where
    go : (b : Bool) → (let r : Result State Fault = if b then Err is.Apart else Err is.Order in r) ≡ Ok t → ⊥
    go true e = no_answer is.Apart t e
    go false e = no_answer is.Order t e

no_place : (p : Place) (s t : State) (n : ℕ) → at_place p s n (codes "output") (codes "output") [] ≡ Ok t → ⊥
unfolding header_rule semantics_rule servers_rule at_clients at_token at_schedule tokens_in token_at
no_place at.Header s t n e = no_answer is.Header t e
no_place at.Semantics s t n e = no_answer is.Order t e
no_place at.Servers s t n e = no_answer is.Order t e
no_place at.Edges s t n e = open_place s t e
no_place at.Clients s t n e = no_answer is.Order t e
no_place at.Scripts s t n e = no_answer is.Order t e
no_place at.Schedule s t n e = no_answer is.Order t e

no_rule : (s t : State) (n : ℕ) → line_rule s n (codes "output") ≡ Ok t → ⊥
unfolding line_rule words
no_rule s t n e = no_place s.place s t n e

none_output : (n : ℕ) (s t : State) (ls : List (List ℕ)) → read_from n s ls ≡ Ok t → IsNoLine (codes "output") ls
none_output n s t [] e = tt
none_output n s t (l ∷ ls) e = (no_output (bytes_eq l (codes "output")) refl, rest (line_rule s n l) e (λ u f. none_output (n + 1) u t ls f))
  where
    some : (r : Answer) → then_on (told_at n r) (λ u. read_from (n + 1) u ls) ≡ Ok t → (u : State) × (r ≡ Ok u)
    some (Ok u) e = (u, refl)
    some (Err f) e = absurd cc

    no_output : (b : Bool) → bytes_eq l (codes "output") ≡ b → bytes_eq l (codes "output") ≡ false
    no_output true f =
        let u = some (line_rule s n l) e in
        absurd (no_rule s u.0 n (ap (line_rule s n) (sym (bytes_eq-tells l (codes "output") f)) ∙ u.1))
    no_output false f = f

    rest : (r : Answer) → then_on (told_at n r) (λ u. read_from (n + 1) u ls) ≡ Ok t → ((u : State) → read_from (n + 1) u ls ≡ Ok t → IsNoLine (codes "output") ls) → IsNoLine (codes "output") ls
    rest (Ok u) e more = more u e
    rest (Err f) e more = absurd cc

document_none : (document : List ℕ) (net : NetParts) → IsNetOf document net → IsNoLine (codes "output") (lines document)
unfolding document_of
document_none document net w = go (nat_lt 4194304 (length document)) w.read
  where
    go : (b : Bool) → (if b then Err (0, is.TooLong) else read_from 1 start (lines document)) ≡ Ok w.state → IsNoLine (codes "output") (lines document)
    go true e = absurd cc
    go false e = none_output 1 start w.state (lines document) e

-- Lines behind a line that is ended.

before_some : (b : ℕ) (xs ys : List (List ℕ)) → (xs ≡ [] → ⊥) → before_first b (xs ++ ys) ≡ before_first b xs ++ ys
before_some b [] ys n = absurd (n refl)
before_some b (x ∷ xs) ys n = refl

some_before : (b : ℕ) (xs : List (List ℕ)) → before_first b xs ≡ [] → ⊥
some_before b [] e = cc
some_before b (x ∷ xs) e = cc

some_line : (front : List ℕ) → lines (front ++ 10 ∷ []) ≡ [] → ⊥
unfolding lines
some_line [] e = cc
some_line (b ∷ front) e = go (nat_eq b 10) (nat_eq b 13 && at_newline (front ++ 10 ∷ [])) e (some_line front)
  where
    go : (p q : Bool) → (if p then [] ∷ lines (front ++ 10 ∷ []) else if q then lines (front ++ 10 ∷ []) else before_first b (lines (front ++ 10 ∷ []))) ≡ [] → (lines (front ++ 10 ∷ []) ≡ [] → ⊥) → ⊥
    go true q e more = cc
    go false true e more = more e
    go false false e more = some_before b (lines (front ++ 10 ∷ [])) e

newline_there : (front more : List ℕ) → at_newline ((front ++ 10 ∷ []) ++ more) ≡ at_newline (front ++ 10 ∷ [])
newline_there [] more = refl
newline_there (b ∷ front) more = refl

pub lines_behind : (front more : List ℕ) → lines ((front ++ 10 ∷ []) ++ more) ≡ lines (front ++ 10 ∷ []) ++ lines more
unfolding lines
lines_behind [] more = refl
lines_behind (b ∷ front) more = ap (λ z. by (nat_eq b 10) (nat_eq b 13 && z) (lines ((front ++ 10 ∷ []) ++ more))) (newline_there front more) ∙ go (nat_eq b 10) (nat_eq b 13 && at_newline (front ++ 10 ∷ [])) (lines_behind front more)
  where
    by : Bool → Bool → List (List ℕ) → List (List ℕ)
    by p q ls = if p then [] ∷ ls else if q then ls else before_first b ls

    go : (p q : Bool) → lines ((front ++ 10 ∷ []) ++ more) ≡ lines (front ++ 10 ∷ []) ++ lines more
        → (if p then [] ∷ lines ((front ++ 10 ∷ []) ++ more) else if q then lines ((front ++ 10 ∷ []) ++ more) else before_first b (lines ((front ++ 10 ∷ []) ++ more)))
        ≡ (if p then [] ∷ lines (front ++ 10 ∷ []) else if q then lines (front ++ 10 ∷ []) else before_first b (lines (front ++ 10 ∷ []))) ++ lines more
    go true q e = ap (λ z. [] ∷ z) e
    go false true e = e
    go false false e = ap (before_first b) e ∙ before_some b (lines (front ++ 10 ∷ [])) (lines more) (some_line front)

-- THE CUT

line_output : (more : List ℕ) → lines (codes "output\n" ++ more) ≡ codes "output" ∷ lines more
unfolding lines
line_output more = refl

line_alone : lines (codes "output\n") ≡ codes "output" ∷ []
unfolding lines
line_alone = refl

pub written_input : (document output : List ℕ) (net : NetParts) → IsNetOf document net → EndsLine document → IsInput (with_output document output) document output net
written_input document output net w ends = record {
  cut = record {
    own = codes "output\n";
    parts = refl;
    alone = line_alone;
    cut = ap lines (append_assoc document (codes "output\n") output) ∙ whole (codes "output\n" ++ output) ∙ ap (λ ls. lines document ++ ls) (line_output output);
    first = document_none document net w;
    whole = whole;
    ends = inr line_output;
  };
  well_formed = w;
}
  where
    whole : (more : List ℕ) → lines (document ++ more) ≡ lines document ++ lines more
    whole more =
        ap (λ (z : List ℕ). lines (z ++ more)) ends.1
        ∙ (lines_behind ends.0 more ∙ ap (λ (z : List ℕ). lines z ++ lines more) (sym ends.1))
