-- One notice more, and what a detector tells of it.
use Rattle.std.proofs.Common.{◌≡◌, ◌+◌, ◌<◌, ℕ, suc, Bool, true, false, List, [], ◌∷◌, ◌++◌, length, length-append, refl, sym, ap, subst, ◌∙◌, arith, append-nil}
use Rattle.std.specs.List.{flat_map, Contains}
use Rattle.filter_types.specs.Notice.{Attribute}
use Rattle.output_patterns.specs.Pattern.{AreAllOccurrences, Steps, Notices, end_of, some_ends}
use Rattle.output_patterns.specs.Scan.{all_occurrences}
use Rattle.output_patterns.proofs.Laws.{all-found}
use Rattle.output_patterns.proofs.Feeding.{next-same, next-ended}
use Rattle.output_patterns.proofs.Chain.{flat-append}

-- nothing ends with the notice
pub nothing-ends : (line : List ℕ → List ℕ) (steps : Steps) (fed : Notices) (n : List Attribute) → 0 < length steps
    → some_ends (all_occurrences steps (fed ++ n ∷ [])) (length (fed ++ n ∷ [])) ≡ false
    → flat_map line (all_occurrences steps (fed ++ n ∷ [])) ≡ flat_map line (all_occurrences steps fed) ++ []
nothing-ends line steps fed n s e =
    let a = all_occurrences steps fed in
    let b = all_occurrences steps (fed ++ n ∷ []) in
    let q : length (fed ++ n ∷ []) ≡ length fed + 1 = omega (arith, length-append fed (n ∷ [])) in
    ap (flat_map line) (next-same steps fed n a b (all-found steps fed s) (all-found steps (fed ++ n ∷ []) s) (ap (some_ends b) (sym q) ∙ e)) ∙ sym (append-nil (flat_map line a))

-- one ends with it, whose places a detector tells
pub one-ends : (line : List ℕ → List ℕ) (steps : Steps) (fed : Notices) (n : List Attribute) (places : List ℕ) → 0 < length steps
    → some_ends (all_occurrences steps (fed ++ n ∷ [])) (length (fed ++ n ∷ [])) ≡ true
    → ((all : List (List ℕ)) (one : List ℕ) → AreAllOccurrences steps (fed ++ n ∷ []) all → Contains all one → end_of one ≡ length (fed ++ n ∷ []) → places ≡ one)
    → flat_map line (all_occurrences steps (fed ++ n ∷ [])) ≡ flat_map line (all_occurrences steps fed) ++ line places
one-ends line steps fed n places s e told =
    let a = all_occurrences steps fed in
    let b = all_occurrences steps (fed ++ n ∷ []) in
    let q : length (fed ++ n ∷ []) ≡ length fed + 1 = omega (arith, length-append fed (n ∷ [])) in
    let t = next-ended steps fed n a b (all-found steps fed s) (all-found steps (fed ++ n ∷ []) s) (ap (some_ends b) (sym q) ∙ e) in
    let p : places ≡ t.0 = told b t.0 (all-found steps (fed ++ n ∷ []) s) (subst (λ z. Contains z t.0) (sym t.1) (contains-last a t.0)) (t.2 ∙ sym q) in
    ap (flat_map line) t.1 ∙ flat-append line a (t.0 ∷ []) ∙ ap (λ l. flat_map line a ++ l) (append-nil (line t.0)) ∙ ap (λ l. flat_map line a ++ line l) (sym p)
  where
    contains-last : (xs : List (List ℕ)) (x : List ℕ) → Contains (xs ++ x ∷ []) x
    contains-last [] x = (0, omega arith, refl)
    contains-last (y ∷ xs) x = let h = contains-last xs x in (suc h.0, omega (arith, h.1), h.2)

-- whether an occurrence ends with the notice, as it is told
pub told-now : (steps now : Steps) (fed fed' : Notices) (n : List Attribute) (b : Bool) → 0 < length steps → now ≡ steps → fed' ≡ fed ++ n ∷ []
    → ((all : List (List ℕ)) → AreAllOccurrences now fed' all → b ≡ some_ends all (length fed'))
    → b ≡ some_ends (all_occurrences steps (fed ++ n ∷ [])) (length (fed ++ n ∷ []))
told-now steps now fed fed' n b s e f told =
    let t : (all : List (List ℕ)) → AreAllOccurrences steps (fed ++ n ∷ []) all → b ≡ some_ends all (length (fed ++ n ∷ [])) =
    subst (λ z. (all : List (List ℕ)) → AreAllOccurrences z (fed ++ n ∷ []) all → b ≡ some_ends all (length (fed ++ n ∷ []))) e
    (subst (λ z. (all : List (List ℕ)) → AreAllOccurrences now z all → b ≡ some_ends all (length z)) f told) in
    t (all_occurrences steps (fed ++ n ∷ [])) (all-found steps (fed ++ n ∷ []) s)

-- nothing occurs in no notices
pub none-in-nothing : (line : List ℕ → List ℕ) (steps : Steps) → flat_map line (all_occurrences steps []) ≡ []
unfolding all_occurrences
none-in-nothing line steps = refl

-- a line more, over the notices that it is of
pub moved : (line : List ℕ → List ℕ) (s s' : Steps) (f f' f'' : Notices) (n : List Attribute) (x : List ℕ) → s ≡ s' → f ≡ f' → f ++ n ∷ [] ≡ f''
    → flat_map line (all_occurrences s (f ++ n ∷ [])) ≡ flat_map line (all_occurrences s f) ++ x → flat_map line (all_occurrences s' f') ++ x ≡ flat_map line (all_occurrences s' f'')
moved line s s' f f' f'' n x a b e t =
    ap (λ z. flat_map line (all_occurrences z f') ++ x) (sym a)
    ∙ ap (λ z. flat_map line (all_occurrences s z) ++ x) (sym b)
    ∙ sym t
    ∙ ap (λ z. flat_map line (all_occurrences s z)) e
    ∙ ap (λ z. flat_map line (all_occurrences z f'')) a
