-- Proves what a detector knows after one more notification.
use Rattle.std.proofs.Common.{◌≡◌, ◌⊎◌, inl, inr, ℕ, zero, suc, ◌+◌, ◌≤◌, ◌<◌, Bool, true, false, ◌&&◌, ◌||◌, ◌==◌, List, [], ◌∷◌, ◌++◌, length, refl, sym, ap, subst, ◌∙◌, arith, append-nil}
use Rattle.std.specs.Prelude.{drop}
use Rattle.std.specs.List.{Contains}
use Rattle.std.proofs.lemmas.Grind.{common_steps}
use Rattle.std.proofs.lemmas.List.{length-drop}
use Rattle.std.proofs.Math.Bool.{or-false}
use Rattle.std.proofs.lemmas.Bool.{or_from, eq-eqb}
use Rattle.std.proofs.lemmas.List.Folds.{list_any-append}
use Rattle.std.proofs.lemmas.List.Elements.{Contains-append_cases}
use Rattle.filter_constraints.specs.Constraint.{ConstraintParts}
use Rattle.filter_types.specs.Notice.{Attribute}
use Rattle.filter_types.specs.Cover.{matches}
use Rattle.output_patterns.specs.Pattern.{Steps, Notices, AreAll, end_of, some_ends}
use Rattle.output_patterns.specs.Scan.{take_place, meet, advance, is_over, ended, progress, scan}
use Rattle.output_patterns.proofs.Occurrences.{all-one}
use Rattle.output_patterns.proofs.Laws.{scan-append, progress-append, all-scanned, no-steps}

-- an occurrence ends at the place taken last
end-append : (found : List ℕ) (p : ℕ) → end_of (found ++ p ∷ []) ≡ p
end-append [] p = refl
end-append (q ∷ []) p = refl
end-append (q ∷ r ∷ found) p = end-append (r ∷ found) p

-- of an occurrence that the notice at place p ends, the end is p
taken-ends : (b : Bool) (f : List ConstraintParts) (later : Steps) (found : List ℕ) (p q : ℕ) → (let now = take_place b f later found p in some_ends (ended now.left now.found) q ≡ (is_over now.left && (p == q)))
taken-ends true f [] found p q = or-false (end_of (found ++ p ∷ []) == q) ∙ ap (λ z. z == q) (end-append found p)
taken-ends true f (g ∷ later) found p q = refl
taken-ends false f later found p q = refl

now-ends : (f : List ConstraintParts) (steps left : Steps) (found : List ℕ) (p : ℕ) (n : List Attribute) (q : ℕ) → (let now = advance (f ∷ steps) left found p n in some_ends (ended now.left now.found) q ≡ (is_over now.left && (p == q)))
now-ends f steps [] found p n q = taken-ends (matches n f) f steps [] p q
now-ends f steps (g ∷ left) found p n q = taken-ends (matches n g) g left found p q

and-false : (a b : Bool) → b ≡ false → (a && b) ≡ false
and-false true b h = h
and-false false b h = refl

and-true : (a b : Bool) → b ≡ true → (a && b) ≡ a
and-true true b h = h
and-true false b h = refl

differ : (p q : ℕ) → p < q → (p == q) ≡ false
differ p q h = grind (arith, common_steps)

-- none ends after the notices
scan-before : (f : List ConstraintParts) (steps left : Steps) (found : List ℕ) (p : ℕ) (notices : Notices) (q : ℕ) → p + length notices ≤ q → some_ends (scan (f ∷ steps) left found p notices) q ≡ false
scan-before f steps left found p [] q h = refl
scan-before f steps left found p (n ∷ rest) q h =
    let now = advance (f ∷ steps) left found p n in
    list_any-append (λ places. end_of places == q) (ended now.left now.found) (scan (f ∷ steps) now.left now.found (p + 1) rest)
    ∙ or_from _ _ (now-ends f steps left found p n q ∙ and-false _ _ (differ p q (omega (arith, h)))) (scan-before f steps now.left now.found (p + 1) rest q (omega (arith, h)))

-- one ends with the notice fed last exactly where no step is left after it
last-ends : (f : List ConstraintParts) (steps left : Steps) (found : List ℕ) (p : ℕ) (notices : Notices) (n : List Attribute) → some_ends (scan (f ∷ steps) left found p (notices ++ n ∷ [])) (p + length notices) ≡ is_over (progress (f ∷ steps) left found p (notices ++ n ∷ [])).left
last-ends f steps left found p notices n =
    let all = f ∷ steps in
    let q = p + length notices in
    let now = progress all left found p notices in
    let then = advance all now.left now.found q n in
    ap (λ z. some_ends z q) (scan-append all left found p notices (n ∷ []))
    ∙ list_any-append (λ places. end_of places == q) (scan all left found p notices) (ended then.left then.found ++ [])
    ∙ ap (λ z. z || some_ends (ended then.left then.found ++ []) q) (scan-before f steps left found p notices q (omega arith))
    ∙ ap (λ z. some_ends z q) (append-nil (ended then.left then.found))
    ∙ now-ends f steps now.left now.found q n q
    ∙ and-true (is_over then.left) (q == q) (eq-eqb q q refl)
    ∙ ap (λ z. is_over z.left) (sym (progress-append all left found p notices (n ∷ [])))

-- the places of the occurrence that ends with the notices
taken-last : (b : Bool) (f : List ConstraintParts) (later : Steps) (found : List ℕ) (p : ℕ) (places : List ℕ) → (let now = take_place b f later found p in Contains (ended now.left now.found) places → (now.found ≡ places) × (end_of places ≡ p))
taken-last true f [] found p places (zero, l, e) = (e, ap end_of (sym e) ∙ end-append found p)
taken-last true f [] found p places (suc k, l, e) = absurd (omega (arith, l))
taken-last true f (g ∷ later) found p places (k, l, e) = absurd (omega (arith, l))
taken-last false f later found p places (k, l, e) = absurd (omega (arith, l))

now-last : (f : List ConstraintParts) (steps left : Steps) (found : List ℕ) (p : ℕ) (n : List Attribute) (places : List ℕ) → (let now = advance (f ∷ steps) left found p n in Contains (ended now.left now.found) places → (now.found ≡ places) × (end_of places ≡ p))
now-last f steps [] found p n places = taken-last (matches n f) f steps [] p places
now-last f steps (g ∷ left) found p n places = taken-last (matches n g) g left found p places

pub last-places : (f : List ConstraintParts) (steps left : Steps) (found : List ℕ) (p : ℕ) (notices : Notices) (places : List ℕ) → Contains (scan (f ∷ steps) left found p notices) places → end_of places + 1 ≡ p + length notices → (progress (f ∷ steps) left found p notices).found ≡ places
last-places f steps left found p [] places m e = absurd (omega (arith, m.1))
last-places f steps left found p (n ∷ rest) places m e =
    let now = advance (f ∷ steps) left found p n in
    go rest now.left now.found e (Contains-append_cases (ended now.left now.found) (scan (f ∷ steps) now.left now.found (p + 1) rest) places m) (now-last f steps left found p n places) (λ k d. last-places f steps now.left now.found (p + 1) rest places k d)
  where
    go : (r : Notices) (l : Steps) (had : List ℕ)
        → end_of places + 1 ≡ p + length (n ∷ r)
        → Contains (ended l had) places ⊎ Contains (scan (f ∷ steps) l had (p + 1) r) places
        → (Contains (ended l had) places → (had ≡ places) × (end_of places ≡ p))
        → (Contains (scan (f ∷ steps) l had (p + 1) r) places → end_of places + 1 ≡ (p + 1) + length r → (progress (f ∷ steps) l had (p + 1) r).found ≡ places)
        → (progress (f ∷ steps) l had (p + 1) r).found ≡ places
    go [] l had d (inl k) one h = (one k).0
    go (x ∷ r) l had d (inl k) one h = absurd (omega (arith, d, (one k).1))
    go r l had d (inr k) one h = h k (omega (arith, d))

-- the answer and the places of a detector, of whatever list is that of all occurrences
pub told : (steps : Steps) (notices : Notices) (n : List Attribute) (all : List (List ℕ)) → 0 < length steps → AreAll steps (notices ++ n ∷ []) 1 all → some_ends all (length (notices ++ n ∷ [])) ≡ is_over (progress steps steps [] 1 (notices ++ n ∷ [])).left
told [] notices n all h k = absurd (omega (arith, h))
told (f ∷ steps) notices n all h k =
    let e : all ≡ scan (f ∷ steps) (f ∷ steps) [] 1 (notices ++ n ∷ []) = all-one (f ∷ steps) (notices ++ n ∷ []) 1 all _ k (all-scanned f steps (notices ++ n ∷ [])) in
    let d : length (notices ++ n ∷ []) ≡ 1 + length notices = grind (arith, common_steps) in
    ap (λ z. some_ends z (length (notices ++ n ∷ []))) e
    ∙ ap (λ q. some_ends (scan (f ∷ steps) (f ∷ steps) [] 1 (notices ++ n ∷ [])) q) d
    ∙ last-ends f steps (f ∷ steps) [] 1 notices n

pub shown : (steps : Steps) (notices : Notices) (all : List (List ℕ)) (places : List ℕ) → 0 < length steps → AreAll steps notices 1 all → Contains all places → end_of places ≡ length notices → (progress steps steps [] 1 notices).found ≡ places
shown [] notices all places h k m e = absurd (omega (arith, h))
shown (f ∷ steps) notices all places h k m e =
    let d : all ≡ scan (f ∷ steps) (f ∷ steps) [] 1 notices = all-one (f ∷ steps) notices 1 all _ k (all-scanned f steps notices) in
    last-places f steps (f ∷ steps) [] 1 notices places (subst (λ z. Contains z places) d m) (omega (arith, e))

-- where a step is left the pass goes on
pub going : (steps : Steps) (k : ℕ) (found : List ℕ) (p : ℕ) (n : List Attribute) → k < length steps → advance steps (drop k steps) found p n ≡ meet (drop k steps) found p n
going steps k found p n h = go (drop k steps) (omega (arith, h, length-drop k steps))
  where
    go : (left : Steps) → 0 < length left → advance steps left found p n ≡ meet left found p n
    go [] l = absurd (omega (arith, l))
    go (f ∷ left) l = refl

-- how far the pass is after one more notice, where it goes on from places that were kept or forgotten
pub one-more : (steps a b : Steps) (notices : Notices) (n : List Attribute) (p : ℕ) (places kept now : List ℕ)
    → a ≡ steps → b ≡ steps → p ≡ length notices + 1
    → (progress steps steps [] 1 notices).found ≡ places
    → (progress steps steps [] 1 notices).left ≡ drop (length places) steps
    → ((q : ℕ) (m : List Attribute) → advance a (drop (length places) a) places q m ≡ meet (drop (length kept) a) kept q m)
    → (meet (drop (length kept) b) kept p n).found ≡ now
    → (meet (drop (length kept) b) kept p n).left ≡ drop (length now) b
    → ((progress steps steps [] 1 (notices ++ n ∷ [])).found ≡ now) × ((progress steps steps [] 1 (notices ++ n ∷ [])).left ≡ drop (length now) steps)
one-more steps a b notices n p places kept now ea eb ep found left same f l =
    let g = progress steps steps [] 1 notices in
    let q : 1 + length notices ≡ p = omega (arith, ep) in
    let same : advance steps (drop (length places) steps) places p n ≡ meet (drop (length kept) steps) kept p n = subst (λ z. advance z (drop (length places) z) places p n ≡ meet (drop (length kept) z) kept p n) ea (same p n) in
    let e : progress steps steps [] 1 (notices ++ n ∷ []) ≡ meet (drop (length kept) steps) kept p n =
    progress-append steps steps [] 1 notices (n ∷ [])
    ∙ ap (λ z. advance steps g.left g.found z n) q
    ∙ ap (λ z. advance steps z g.found p n) left
    ∙ ap (λ z. advance steps (drop (length places) steps) z p n) found
    ∙ same in (
      ap (λ z. z.found) e ∙ subst (λ z. (meet (drop (length kept) z) kept p n).found ≡ now) eb f,
      ap (λ z. z.left) e ∙ subst (λ z. (meet (drop (length kept) z) kept p n).left ≡ drop (length now) z) eb l,
    )

-- where no step is left the occurrence ends at the place of the notice
over-ends : (f : List ConstraintParts) (steps left : Steps) (found : List ℕ) (p : ℕ) (n : List Attribute) → (let now = advance (f ∷ steps) left found p n in is_over now.left ≡ true → end_of now.found ≡ p)
over-ends f steps left found p n =
    let now = advance (f ∷ steps) left found p n in
    go now.left now.found (now-last f steps left found p n now.found)
  where
    go : (l : Steps) (had : List ℕ) → (Contains (ended l had) had → (had ≡ had) × (end_of had ≡ p)) → is_over l ≡ true → end_of had ≡ p
    go [] had one e = (one (0, omega arith, refl)).1
    go (g ∷ l) had one e = cc

-- what has just ended, by whether a step is left
none-ended : (left : Steps) (found : List ℕ) → is_over left ≡ false → ended left found ≡ []
none-ended [] found e = cc
none-ended (g ∷ left) found e = refl

some-ended : (left : Steps) (found : List ℕ) → is_over left ≡ true → ended left found ≡ found ∷ []
some-ended [] found e = refl
some-ended (g ∷ left) found e = cc

-- what is told of the notice at the next place, and all occurrences with it
next-told : (f : List ConstraintParts) (steps : Steps) (notices : Notices) (n : List Attribute) (a b : List (List ℕ)) → AreAll (f ∷ steps) notices 1 a → AreAll (f ∷ steps) (notices ++ n ∷ []) 1 b → (let g = progress (f ∷ steps) (f ∷ steps) [] 1 notices in let now = advance (f ∷ steps) g.left g.found (1 + length notices) n in (b ≡ a ++ ended now.left now.found) × (some_ends b (length notices + 1) ≡ is_over now.left))
next-told f steps notices n a b h k =
    let all = f ∷ steps in
    let g = progress all all [] 1 notices in
    let now = advance all g.left g.found (1 + length notices) n in
    let e : b ≡ scan all all [] 1 (notices ++ n ∷ []) = all-one all (notices ++ n ∷ []) 1 b _ k (all-scanned f steps (notices ++ n ∷ [])) in
    let d : scan all all [] 1 notices ≡ a = all-one all notices 1 _ a (all-scanned f steps notices) h in
    let q : length notices + 1 ≡ length (notices ++ n ∷ []) = grind (arith, common_steps) in (
      e ∙ scan-append all all [] 1 notices (n ∷ []) ∙ ap (λ z. z ++ (ended now.left now.found ++ [])) d ∙ ap (λ z. a ++ z) (append-nil (ended now.left now.found)),
      ap (λ z. some_ends b z) q ∙ told all notices n b (omega arith) k ∙ ap (λ z. is_over z.left) (progress-append all all [] 1 notices (n ∷ [])),
    )

pub next-same : (steps : Steps) (notices : Notices) (n : List Attribute) (a b : List (List ℕ)) → AreAll steps notices 1 a → AreAll steps (notices ++ n ∷ []) 1 b → some_ends b (length notices + 1) ≡ false → b ≡ a
next-same [] notices n a b h k e = absurd (no-steps notices 1 a h)
next-same (f ∷ steps) notices n a b h k e =
    let t = next-told f steps notices n a b h k in
    t.0 ∙ ap (λ z. a ++ z) (none-ended _ _ (sym t.1 ∙ e)) ∙ append-nil a

pub next-ended : (steps : Steps) (notices : Notices) (n : List Attribute) (a b : List (List ℕ)) → AreAll steps notices 1 a → AreAll steps (notices ++ n ∷ []) 1 b → some_ends b (length notices + 1) ≡ true → (places : List ℕ) × (b ≡ a ++ places ∷ []) × (end_of places ≡ length notices + 1)
next-ended [] notices n a b h k e = absurd (no-steps notices 1 a h)
next-ended (f ∷ steps) notices n a b h k e =
    let g = progress (f ∷ steps) (f ∷ steps) [] 1 notices in
    let now = advance (f ∷ steps) g.left g.found (1 + length notices) n in
    let t = next-told f steps notices n a b h k in
    let over : is_over now.left ≡ true = sym t.1 ∙ e in
    (now.found, t.0 ∙ ap (λ z. a ++ z) (some-ended now.left now.found over), omega (arith, over-ends f steps g.left g.found (1 + length notices) n over))
