-- The fold over the lines, and what it means.
use Rattle.std.proofs.Common.{◌≡◌, ◌↔◌, ℕ, ◌+◌, ◌≤◌, List, [], ◌∷◌, ◌++◌, length, refl, arith, sym, ap, ◌∙◌, Result, Ok, Err, Bool, true, false, not}
use Rattle.std.specs.Prelude.{nat_lt}
use Rattle.std.proofs.lemmas.Grind.{common_steps}
use Rattle.document_reader.specs.Lines.{lines}
use Rattle.document_reader.specs.Answer.{◌>>=◌, need}
use Rattle.document_reader.specs.declared.fault.Fault.{Fault}
use Rattle.document_reader.specs.declared.fault.Fault.TheVariants as is
use Rattle.document_reader.specs.declared.state.State.{State}
use Rattle.document_reader.specs.Drawn.{is_apart}
use Rattle.document_reader.specs.Places.{document_of, end_rule, has_servers, line_rule, read_from, start, then_on, told_at}
use Rattle.document_reader.specs.Meaning.{AreTaken, IsFirstFault, IsRefusedLine, stands}

-- a fault among the lines, the first of which has the number k
record Found (k : ℕ) (s : State) (ls : List (List ℕ)) (n : ℕ) (fault : Fault) : Type 0 where
  pub before : List (List ℕ)
  pub after : List (List ℕ)
  pub parts : ls ≡ before ++ after
  pub number : n ≡ length before + k
  pub state : State
  pub taken : stands k s before ≡ Ok state
  pub refused : IsRefusedLine n state after fault

told_err : {A : Type 0} (k : ℕ) (r : Result A Fault) (n : ℕ) (f : Fault) → told_at k r ≡ Err (n, f) → (n ≡ k) × (r ≡ Err f)
told_err k (Ok x) n f e = cc
told_err k (Err g) n f e =
    let p : (ℕ × Fault) × (ℕ × Fault) = ((k, g), (n, f)) in
    let q : p.0 ≡ p.1 = cc in
    (sym (ap (λ x. x.0) q), ap (λ x. Err x.1) q)

told_ok : {A : Type 0} (k : ℕ) (r : Result A Fault) (x : A) → told_at k r ≡ Ok x → r ≡ Ok x
told_ok k (Ok y) x e = cc
told_ok k (Err g) x e = cc

the_err : {A : Type 0} (x y : ℕ × Fault) → (let r : Result A (ℕ × Fault) = Err x in r) ≡ Err y → x ≡ y
the_err x y e = cc

-- the same fault in another result
here : {A B : Type 0} (x y : ℕ × Fault) → (let r : Result A (ℕ × Fault) = Err x in r) ≡ Err y → (let r : Result B (ℕ × Fault) = Err x in r) ≡ Err y
here x y e = ap Err (the_err x y e)

found : (k : ℕ) (s : State) (ls : List (List ℕ)) (n : ℕ) (f : Fault) → read_from k s ls ≡ Err (n, f) → Found k s ls n f
found k s [] n f e =
    let t : (n ≡ k) × (end_rule s ≡ Err f) = told_err k (end_rule s) n f e in
    record { before = []; after = []; parts = refl; number = omega (arith, t.0); state = s; taken = refl; refused = t.1 }
found k s (l ∷ ls) n f e = go (line_rule s k l) refl e (λ t d. found (k + 1) t ls n f d)
  where
    go : (r : Result State Fault) → line_rule s k l ≡ r → then_on (told_at k r) (λ t. read_from (k + 1) t ls) ≡ Err (n, f)
        → ((t : State) → read_from (k + 1) t ls ≡ Err (n, f) → Found (k + 1) t ls n f) → Found k s (l ∷ ls) n f
    go (Ok t) is e more =
        let h : Found (k + 1) t ls n f = more t e in
        record { before = l ∷ h.before; after = h.after; parts = ap (λ x. l ∷ x) h.parts; number = omega (arith, h.number); state = h.state; taken = rw is h.taken; refused = h.refused }
    go (Err g) is e more =
        let r : Result State Fault = Err g in
        let p : (n ≡ k) × (r ≡ Err f) = told_err k r n f (here (k, g) (n, f) e) in
        record { before = []; after = l ∷ ls; parts = refl; number = omega (arith, p.0); state = s; taken = refl; refused = rw p.0 (is ∙ p.1) }

refused_reads : (k : ℕ) (s : State) (ls : List (List ℕ)) (f : Fault) → IsRefusedLine k s ls f → read_from k s ls ≡ Err (k, f)
refused_reads k s [] f r = rw r refl
refused_reads k s (l ∷ ls) f r = rw r refl

pub stands_ok : (k : ℕ) (s t : State) (l : List ℕ) (ls : List (List ℕ)) → stands k s (l ∷ ls) ≡ Ok t → (u : State) × (line_rule s k l ≡ Ok u) × (stands (k + 1) u ls ≡ Ok t)
stands_ok k s t l ls e = go (line_rule s k l) refl e
  where
    go : (r : Result State Fault) → line_rule s k l ≡ r → (r >>= λ u. stands (k + 1) u ls) ≡ Ok t → (u : State) × (line_rule s k l ≡ Ok u) × (stands (k + 1) u ls ≡ Ok t)
    go (Ok u) is e = (u, is, e)
    go (Err g) is e = cc

reads_on : (k : ℕ) (s t : State) (before after : List (List ℕ)) → stands k s before ≡ Ok t → read_from k s (before ++ after) ≡ read_from (length before + k) t after
reads_on k s t [] after e = let same : s ≡ t = cc in rw (same, (let z : 0 + k ≡ k = omega arith in z)) refl
reads_on k s t (l ∷ ls) after e =
    let h = stands_ok k s t l ls e in
    let n : length ls + (k + 1) ≡ length (l ∷ ls) + k = omega arith in
    (rw h.1 refl ∙ reads_on (k + 1) h.0 t ls after h.2) ∙ ap (λ m. read_from m t after) n

end_keeps : (s t : State) → end_rule s ≡ Ok t → s ≡ t
unfolding end_rule
end_keeps s t e = go (has_servers s.place) (not (is_apart s.trees)) e
  where
    go : (a b : Bool) → ((need a is.Ended) >>= λ x. (need b is.Apart) >>= λ y. Ok s) ≡ Ok t → s ≡ t
    go true true e = cc
    go true false e = cc
    go false b e = cc

pub taken_stands : (k : ℕ) (s : State) (ls : List (List ℕ)) (t : State) → read_from k s ls ≡ Ok t → (stands k s ls ≡ Ok t) × (end_rule t ≡ Ok t)
taken_stands k s [] t e =
    let h : end_rule s ≡ Ok t = told_ok k (end_rule s) t e in
    let same : s ≡ t = end_keeps s t h in
    (ap Ok same, ap end_rule (sym same) ∙ h)
taken_stands k s (l ∷ ls) t e = go (line_rule s k l) refl e (λ u d. taken_stands (k + 1) u ls t d)
  where
    go : (r : Result State Fault) → line_rule s k l ≡ r → then_on (told_at k r) (λ u. read_from (k + 1) u ls) ≡ Ok t
        → ((u : State) → read_from (k + 1) u ls ≡ Ok t → (stands (k + 1) u ls ≡ Ok t) × (end_rule t ≡ Ok t)) → (stands k s (l ∷ ls) ≡ Ok t) × (end_rule t ≡ Ok t)
    go (Ok u) is e more = let h = more u e in (rw is h.0, h.1)
    go (Err g) is e more = cc

short : (n : ℕ) → n ≤ 4194304 → nat_lt 4194304 n ≡ false
short n le = grind (arith, common_steps)

opened : (bytes : List ℕ) → length bytes ≤ 4194304 → document_of bytes ≡ read_from 1 start (lines bytes)
unfolding document_of
opened bytes le = rw (short (length bytes) le) refl

pub fault_means : (bytes : List ℕ) (n : ℕ) (f : Fault) → length bytes ≤ 4194304 → (document_of bytes ≡ Err (n, f)) ↔ IsFirstFault (lines bytes) n f
fault_means bytes n f le = (
  (λ e. let h : Found 1 start (lines bytes) n f = found 1 start (lines bytes) n f (sym (opened bytes le) ∙ e) in
      record { before = h.before; after = h.after; parts = h.parts; number = h.number; state = h.state; taken = h.taken; refused = h.refused }),
  (λ h. let r : IsRefusedLine (length h.before + 1) h.state h.after f = rw (sym h.number) h.refused in
      (((opened bytes le ∙ ap (read_from 1 start) h.parts) ∙ reads_on 1 start h.state h.before h.after h.taken)
      ∙ refused_reads (length h.before + 1) h.state h.after f r) ∙ ap (λ m. Err (m, f)) (sym h.number)),
)

append_nil : (ls : List (List ℕ)) → ls ++ [] ≡ ls
append_nil [] = refl
append_nil (l ∷ ls) = ap (λ x. l ∷ x) (append_nil ls)

pub net_means : (bytes : List ℕ) (s : State) → length bytes ≤ 4194304 → (document_of bytes ≡ Ok s) ↔ AreTaken (lines bytes) s
net_means bytes s le = (
  (λ e. let h = taken_stands 1 start (lines bytes) s (sym (opened bytes le) ∙ e) in record { taken = h.0; ended = h.1 }),
  (λ h. ((opened bytes le ∙ ap (read_from 1 start) (sym (append_nil (lines bytes)))) ∙ reads_on 1 start s (lines bytes) [] h.taken) ∙ rw h.ended refl),
)
