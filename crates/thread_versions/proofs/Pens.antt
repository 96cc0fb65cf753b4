-- Each step on a book keeps its rule, and only who has the pen for the next entry can add one.
use Rattle.std.proofs.Common.{◌≡◌, ℕ, zero, suc, ◌==◌, Bool, true, false, List, [], ◌∷◌, ◌++◌, set, refl, ap, sym, subst, ◌∙◌, arith, inl, length-set, None}
use Rattle.std.proofs.lemmas.List.{append-nil, get_or-set_same}
use Rattle.std.proofs.lemmas.Bool.Decides.{nat_tests}
use prog.Atomic.{either}
use Rattle.logbook.specs.Pages.{Cell, Nib, cell, adds, gives, no_nib, may_write, step, Moves}
use Rattle.thread_versions.specs.declared.history.Entry.{Entry}
use Rattle.thread_versions.specs.Book.{AreInTurn, IsBookKept, MakesPen, AddsToSeen, first_pen, pen_after}

abbrev pub IsHome : List Cell → ℕ → Type 0
IsHome cs k = (cell cs k).1 ≡ true

-- what is at home stays there where a cell comes home, and where one is added
home-set : (cs : List Cell) (i n k : ℕ) → IsHome cs k → IsHome (set cs i (n, true)) k
home-set [] i n k h = h
home-set (c ∷ cs) zero n zero h = refl
home-set (c ∷ cs) zero n (suc k) h = h
home-set (c ∷ cs) (suc i) n zero h = h
home-set (c ∷ cs) (suc i) n (suc k) h = home-set cs i n k h

home-more : (cs ds : List Cell) (k : ℕ) → IsHome cs k → IsHome (cs ++ ds) k
home-more [] ds k h = absurd (cc h)
home-more (c ∷ cs) ds zero h = h
home-more (c ∷ cs) ds (suc k) h = home-more cs ds k h

turns-home : (cs ds : List Cell) → ((k : ℕ) → IsHome cs k → IsHome ds k) → (pen : ℕ) (es : List Entry) → AreInTurn cs pen es → AreInTurn ds pen es
turns-home cs ds stays pen [] t = tt
turns-home cs ds stays pen (e ∷ es) t = (t.0, stays pen t.1, turns-home cs ds stays e.next es t.2)

-- after an entry its pen is at home
turns-used : (cs : List Cell) (pen : ℕ) (xs : List Entry) (e : Entry) (es : List Entry) → AreInTurn cs pen (xs ++ e ∷ es) → IsHome cs (pen_after pen xs)
turns-used cs pen [] e es t = t.1
turns-used cs pen (x ∷ xs) e es t = turns-used cs x.next xs e es t.2

turns-add : (cs : List Cell) (pen : ℕ) (xs : List Entry) (e : Entry) → AreInTurn cs pen xs → e.pen ≡ pen_after pen xs → IsHome cs (pen_after pen xs) → AreInTurn cs pen (xs ++ e ∷ [])
turns-add cs pen [] e t own home = (own, home, tt)
turns-add cs pen (x ∷ xs) e t own home = (t.0, t.1, turns-add cs x.next xs e t.2 own home)

pub pen_after-add : (pen : ℕ) (xs : List Entry) (e : Entry) → pen_after pen (xs ++ e ∷ []) ≡ e.next
pen_after-add pen [] e = refl
pen_after-add pen (x ∷ xs) e = pen_after-add x.next xs e

-- while the pen for the next entry isn't used up, there is no next entry
none-more : (cs : List Cell) (pen : ℕ) (xs more log : List Entry) → xs ++ more ≡ log → AreInTurn cs pen log → (cell cs (pen_after pen xs)).1 ≡ false → xs ≡ log
none-more cs pen xs [] log is t away = sym (append-nil xs) ∙ is
none-more cs pen xs (e ∷ es) log is t away = absurd (cc (away, turns-used cs pen xs e es (subst (λ (l : List Entry). AreInTurn cs pen l) (sym is) t)))

abbrev pub shown : List Entry → List Entry
shown log = []

abbrev pub moved : List Entry → List Entry → ℕ → Type 0
moved xs ys n = Unit {0}

-- the first word after a step
abbrev pub begun : ℕ → ℕ
begun n = either (n == 0) 1 n

not-zero : (n : ℕ) → begun n ≡ 0 → ⊥
not-zero n e = go (n == 0) refl e
  where
    go : (b : Bool) → (n == 0) ≡ b → either b 1 n ≡ 0 → ⊥
    go true is one = omega (arith, one)
    go false is same = grind (arith, nat_tests, is, same)

-- a cell that comes home is not the first word
word-stays : (c : Cell) (cs : List Cell) (n key value : ℕ) → c.1 ≡ true → (cell (c ∷ cs) key).1 ≡ false → cell (set ((n, true) ∷ cs) key (value, true)) 0 ≡ (n, true)
word-stays c cs n zero value home away = absurd (cc (home, away))
word-stays c cs n (suc key) value home away = refl

-- a pen may always be made
pub makes_moves : (v : List Entry) (e : Entry) → Moves IsBookKept shown moved 0 (v, (no_nib, None)) begun (MakesPen (step 0 0 1 e) (v, (no_nib, None)))
makes_moves v e [] log kept pre away = absurd (omega (arith, kept.word.0))
makes_moves v e (c ∷ cs) log kept pre away =
    let after : List Cell = (begun c.0, true) ∷ (cs ++ (0, false) ∷ []) in
    let stays : (k : ℕ) → IsHome (c ∷ cs) k → IsHome after k = λ k h. home-more ((begun c.0, true) ∷ cs) ((0, false) ∷ []) k (home-set (c ∷ cs) 0 (begun c.0) k h) in (
      omega arith,
      kept.word.1,
      (
        adds,
        [],
        None,
        tt,
        record {
          word = (omega arith, refl);
          first = λ z. absurd (not-zero c.0 z);
          turns = subst (λ (l : List Entry). AreInTurn after first_pen l) (sym (append-nil log)) (turns-home (c ∷ cs) after stays first_pen log kept.turns);
        },
        inl (refl, refl),
        (refl, kept.first),
      ),
    )

-- who has the pen for the next entry adds it to all that was seen
pub adds_moves : (v : List Entry) (e : Entry) (p : Nib) → p.right ≡ may_write → p.key ≡ pen_after first_pen v → e.pen ≡ p.key
    → Moves IsBookKept shown moved 0 (v, (p, None)) begun (AddsToSeen (step 0 0 1 e) (v, (p, None)))
adds_moves v e p right turn own [] log kept pre away = absurd (omega (arith, kept.word.0))
adds_moves v e p right turn own (c ∷ cs) log kept pre away =
    let here = away right in
    let same : v ≡ log = none-more (c ∷ cs) first_pen v pre.0 log pre.1 kept.turns (subst (λ k. (cell (c ∷ cs) k).1 ≡ false) turn here.1) in
    let before : List Cell = (begun c.0, true) ∷ cs in
    let after : List Cell = set before p.key (p.value, true) in
    let stays : (k : ℕ) → IsHome (c ∷ cs) k → IsHome after k = λ k h. home-set before p.key p.value k (home-set (c ∷ cs) 0 (begun c.0) k h) in
    let home : IsHome after p.key = ap (λ x. x.1) (get_or-set_same before p.key (p.value, true) (0, false) here.0) in
    let is : p.key ≡ pen_after first_pen log = turn ∙ ap (pen_after first_pen) same in
    let word : cell after 0 ≡ (begun c.0, true) = word-stays c cs (begun c.0) p.key p.value kept.word.1 here.1 in (
      omega arith,
      kept.word.1,
      (
        gives,
        e ∷ [],
        None,
        right,
        record {
          word = (omega (arith, length-set before p.key (p.value, true)), ap (λ x. x.1) word);
          first = λ z. absurd (not-zero c.0 (sym (ap (λ x. x.0) word) ∙ z));
          turns = turns-add after first_pen log e (turns-home (c ∷ cs) after stays first_pen log kept.turns) (own ∙ is) (subst (λ k. IsHome after k) is home);
        },
        inl (refl, refl),
        ap (λ (l : List Entry). l ++ e ∷ []) (sym same),
      ),
    )
