-- Proves that a change of lists has one text.
use Rattle.std.proofs.Common.{◌≡◌, ◌⊎◌, inl, inr, ◌≤◌, ℕ, zero, suc, Bool, true, false, refl, sym, ap, subst, ◌∙◌, arith, List, [], ◌∷◌, ◌++◌, length, length-append, append_assoc}
use Rattle.std.specs.Prelude.{Some, ◌==◌}
use Rattle.std.specs.declared.option.Option.{Option}
use Rattle.std.specs.List.{flat_map}
use Rattle.std.proofs.lemmas.List.{append-nil}
use Rattle.std.proofs.lemmas.Bool.Decides.{nat_tests}
use Rattle.filter_constraints.specs.Constraint.{ConstraintParts}
use Rattle.filter_text.specs.FilterText.{constraints_text, IsWhole}
use Rattle.filter_text.specs.MessageText.{change_text, changes_text, AreWhole}
use Rattle.filter_text.specs.Reading.{◌>>=◌}
use Rattle.filter_text.specs.Items.{more_at, go_on}
use Rattle.filter_text.specs.Filters.{list_at}
use Rattle.filter_text.specs.Messages.{Lists}
use Rattle.filter_text.specs.Changes.{marked_at, closed_at, braced_at, changes_at, both_at}
use Rattle.filter_text.proofs.Options.{bind_some, pair_in, tested, none_not}
use Rattle.filter_text.proofs.FilterLaws.{list_again, list_spelled}

closed_spelled : (bytes rest : List ℕ) (u : Unit {0}) → closed_at bytes ≡ Some (u, rest) → bytes ≡ 125 ∷ rest
closed_spelled [] rest u e = none_not (u, rest) e
closed_spelled (b ∷ more) rest u e =
    let w = tested (b == 125) (tt, more) (u, rest) e in
    let one : b ≡ 125 = let p : (b == 125) ≡ true = w.0 in grind (arith, nat_tests) in
    let two : more ≡ rest = (pair_in tt more u rest (ap Some w.1)).1 in
    cc

braced_again : (most : ℕ) (f : List ConstraintParts) (tail : List ℕ) → IsWhole most f → braced_at (list_at most) ((constraints_text f ++ 125 ∷ []) ++ tail) ≡ Some (f, tail)
unfolding braced_at
braced_again most f tail is = rw (append_assoc (constraints_text f) (125 ∷ []) tail, list_again most f (125 ∷ tail) is (record { stopped = refl; last = last tail })) refl
  where
    last : (tail : List ℕ) → more_at (125 ∷ tail) ≡ (false, 125 ∷ tail)
    last [] = refl
    last (b ∷ tail) = refl

braced_spelled : (most : ℕ) (bytes : List ℕ) (f : List ConstraintParts) (rest : List ℕ) → braced_at (list_at most) bytes ≡ Some (f, rest) → IsWhole most f × (bytes ≡ constraints_text f ++ 125 ∷ rest)
unfolding braced_at
braced_spelled most bytes f rest e =
    let x = bind_some (list_at most bytes) (λ x. closed_at x.1 >>= λ r. Some (x.0, r.1)) (f, rest) e in
    let r = bind_some (closed_at x.0.1) (λ r. Some (x.0.0, r.1)) (f, rest) x.2 in
    let p = pair_in x.0.0 r.0.1 f rest r.2 in
    let w = list_spelled most bytes x.0.0 x.0.1 x.1 in
    (subst (IsWhole most) p.0 w.0, closes bytes x.0.0 f x.0.1 r.0.1 rest w.1 (closed_spelled x.0.1 r.0.1 r.0.0 r.1) p.0 p.1)
  where
    closes : (bytes : List ℕ) (g f : List ConstraintParts) (a b rest : List ℕ) → bytes ≡ constraints_text g ++ a → a ≡ 125 ∷ b → g ≡ f → b ≡ rest → bytes ≡ constraints_text f ++ 125 ∷ rest
    closes bytes g f a b rest one two three four = one ∙ rw (two, three, four) refl

-- what begins no further change
abbrev IsLast : ℕ → List ℕ → Type 0
IsLast sign tail = marked_at sign tail ≡ (false, tail)

-- a text is longer than its list; at fuel 0 nothing more is read
long : (sign : ℕ) (fs : Lists) → length fs ≤ length (flat_map (change_text sign) fs)
long sign [] = omega arith
long sign (f ∷ fs) = let k : length fs ≤ length (flat_map (change_text sign) fs) = long sign fs in omega (arith, length-append (constraints_text f ++ 125 ∷ []) (flat_map (change_text sign) fs))

done_at : (most sign n : ℕ) (read : Lists) (tail : List ℕ) → IsLast sign tail → changes_at (list_at most) sign n read tail ≡ Some (read, tail)
unfolding changes_at
done_at most sign zero read tail m = refl
done_at most sign (suc n) read tail m = rw m refl

changes_enough : (most sign n : ℕ) (read fs : Lists) (tail : List ℕ) → AreWhole most fs → length fs ≤ n → IsLast sign tail → changes_at (list_at most) sign n read (flat_map (change_text sign) fs ++ tail) ≡ Some (read ++ fs, tail)
unfolding changes_at
changes_enough most sign n read [] tail is lt m = done_at most sign n read tail m ∙ ap (λ (z : Lists). Some (z, tail)) (sym (append-nil read))
changes_enough most sign zero read (f ∷ fs) tail is lt m = absurd (omega arith)
changes_enough most sign (suc n) read (f ∷ fs) tail is lt m =
    let same : (sign == sign) ≡ true = grind (arith, nat_tests) in
    let e : ((constraints_text f ++ 125 ∷ []) ++ flat_map (change_text sign) fs) ++ tail ≡ (constraints_text f ++ 125 ∷ []) ++ (flat_map (change_text sign) fs ++ tail) = append_assoc (constraints_text f ++ 125 ∷ []) (flat_map (change_text sign) fs) tail in
    rw (same, e, braced_again most f (flat_map (change_text sign) fs ++ tail) is.0) (changes_enough most sign n (read ++ f ∷ []) fs tail is.1 (omega arith) m ∙ ap (λ (z : Lists). Some (z, tail)) (append_assoc read (f ∷ []) fs))

changes_again : (most sign : ℕ) (fs : Lists) (tail : List ℕ) → AreWhole most fs → IsLast sign tail → changes_at (list_at most) sign (length (flat_map (change_text sign) fs ++ tail)) [] (flat_map (change_text sign) fs ++ tail) ≡ Some (fs, tail)
changes_again most sign fs tail is m = changes_enough most sign (length (flat_map (change_text sign) fs ++ tail)) [] fs tail is (omega (arith, long sign fs, length-append (flat_map (change_text sign) fs) tail)) m

marked_cases : (sign : ℕ) (bytes : List ℕ) → (marked_at sign bytes ≡ (false, bytes)) ⊎ ((r : List ℕ) × (bytes ≡ 32 ∷ sign ∷ 123 ∷ r) × (marked_at sign bytes ≡ (true, r)))
marked_cases sign [] = inl refl
marked_cases sign (a ∷ []) = inl refl
marked_cases sign (a ∷ b ∷ []) = inl refl
marked_cases sign (a ∷ b ∷ c ∷ rest) = go (a == 32) refl (b == sign) refl (c == 123) refl
  where
    eq_of : (x y : ℕ) → (x == y) ≡ true → x ≡ y
    eq_of x y e = grind (arith, nat_tests)

    go : (p : Bool) → (a == 32) ≡ p → (q : Bool) → (b == sign) ≡ q → (s : Bool) → (c == 123) ≡ s
        → (marked_at sign (a ∷ b ∷ c ∷ rest) ≡ (false, a ∷ b ∷ c ∷ rest)) ⊎ ((r : List ℕ) × (a ∷ b ∷ c ∷ rest ≡ 32 ∷ sign ∷ 123 ∷ r) × (marked_at sign (a ∷ b ∷ c ∷ rest) ≡ (true, r)))
    go true p true qe true se = inr (rest, (let x = eq_of a 32 p in let y = eq_of b sign qe in let z = eq_of c 123 se in cc), rw (p, qe, se) refl)
    go true p true qe false se = inl (rw (p, qe, se) refl)
    go true p false qe s se = inl (rw (p, qe) refl)
    go false p q qe s se = inl (rw p refl)

-- what is read as changes
abbrev Changed : ℕ → ℕ → Lists → List ℕ → Lists → List ℕ → Type 0
Changed most sign read bytes xs rest = (ys : Lists) × AreWhole most ys × (xs ≡ read ++ ys) × (bytes ≡ flat_map (change_text sign) ys ++ rest)

nothing : (most sign : ℕ) (read : Lists) (bytes : List ℕ) (xs : Lists) (rest : List ℕ) → ◌≡◌ {A = Option (Lists × List ℕ)} (Some (read, bytes)) (Some (xs, rest)) → Changed most sign read bytes xs rest
nothing most sign read bytes xs rest e = let p = pair_in read bytes xs rest e in ([], tt, sym p.0 ∙ sym (append-nil read), p.1)

changes_spelled : (most sign n : ℕ) (read : Lists) (bytes : List ℕ) (xs : Lists) (rest : List ℕ) → changes_at (list_at most) sign n read bytes ≡ Some (xs, rest) → Changed most sign read bytes xs rest
unfolding changes_at
changes_spelled most sign zero read bytes xs rest e = nothing most sign read bytes xs rest e
changes_spelled most sign (suc n) read bytes xs rest e = elim (marked_cases sign bytes) [
  | inl m ↦ nothing most sign read bytes xs rest (sym (ap (λ (z : Bool × List ℕ). go_on z read (λ inner. braced_at (list_at most) inner >>= λ x. changes_at (list_at most) sign n (read ++ x.0 ∷ []) x.1)) m) ∙ e)
  | inr m ↦ (
      let x = bind_some (braced_at (list_at most) m.0) (λ x. changes_at (list_at most) sign n (read ++ x.0 ∷ []) x.1) (xs, rest) (sym (ap (λ (z : Bool × List ℕ). go_on z read (λ inner. braced_at (list_at most) inner >>= λ x. changes_at (list_at most) sign n (read ++ x.0 ∷ []) x.1)) m.2) ∙ e) in
      further x.0.0 m.0 x.0.1 (braced_spelled most m.0 x.0.0 x.0.1 x.1) m.1 (changes_spelled most sign n (read ++ x.0.0 ∷ []) x.0.1 xs rest x.2))
]
  where
    further : (f : List ConstraintParts) (inner after : List ℕ) → IsWhole most f × (inner ≡ constraints_text f ++ 125 ∷ after) → bytes ≡ 32 ∷ sign ∷ 123 ∷ inner → Changed most sign (read ++ f ∷ []) after xs rest → Changed most sign read bytes xs rest
    further f inner after is m c = (
      f ∷ c.0,
      (is.0, c.1),
      c.2 ∙ append_assoc read (f ∷ []) c.0,
      m ∙ rw (is.1, c.3) (ap (λ (z : List ℕ). 32 ∷ sign ∷ 123 ∷ z) (sym (append_assoc (constraints_text f ++ 125 ∷ []) (flat_map (change_text sign) c.0) rest ∙ append_assoc (constraints_text f) (125 ∷ []) (flat_map (change_text sign) c.0 ++ rest)))),
    )

other : (fs : Lists) → IsLast 45 (flat_map (change_text 43) fs)
other [] = refl
other (f ∷ fs) = refl

pub both_again : (most : ℕ) (out add : Lists) → AreWhole most out → AreWhole most add → both_at (list_at most) (changes_text out add) ≡ Some ((out, add), [])
unfolding both_at changes_text
both_again most out add a b =
    let one = changes_again most 45 out (flat_map (change_text 43) add) a (other add) in
    let e : flat_map (change_text 43) add ++ [] ≡ flat_map (change_text 43) add = append-nil (flat_map (change_text 43) add) in
    let two : changes_at (list_at most) 43 (length (flat_map (change_text 43) add)) [] (flat_map (change_text 43) add) ≡ Some (add, []) = ap (λ (z : List ℕ). changes_at (list_at most) 43 (length z) [] z) (sym e) ∙ changes_again most 43 add [] b refl in
    rw (one, two) refl

pub both_spelled : (most : ℕ) (bytes : List ℕ) (l : Lists × Lists) → both_at (list_at most) bytes ≡ Some (l, []) → AreWhole most l.0 × AreWhole most l.1 × (bytes ≡ changes_text l.0 l.1)
unfolding both_at changes_text
both_spelled most bytes l e =
    let o = bind_some (changes_at (list_at most) 45 (length bytes) [] bytes) (λ o. changes_at (list_at most) 43 (length o.1) [] o.1 >>= λ a. Some ((o.0, a.0), a.1)) (l, []) e in
    let a = bind_some (changes_at (list_at most) 43 (length o.0.1) [] o.0.1) (λ a. Some ((o.0.0, a.0), a.1)) (l, []) o.2 in
    let p = pair_in (o.0.0, a.0.0) a.0.1 l [] a.2 in
    let one = changes_spelled most 45 (length bytes) [] bytes o.0.0 o.0.1 o.1 in
    let two = changes_spelled most 43 (length o.0.1) [] o.0.1 a.0.0 a.0.1 a.1 in
    subst (λ (z : Lists × Lists). AreWhole most z.0 × AreWhole most z.1 × (bytes ≡ flat_map (change_text 45) z.0 ++ flat_map (change_text 43) z.1)) p.0
    (subst (AreWhole most) (sym one.2) one.1, subst (AreWhole most) (sym two.2) two.1, joins bytes one.0 o.0.0 two.0 a.0.0 o.0.1 a.0.1 one.3 (sym one.2) two.3 (sym two.2) p.1)
  where
    joins : (bytes : List ℕ) (xs out ys add : Lists) (b c : List ℕ) → bytes ≡ flat_map (change_text 45) xs ++ b → xs ≡ out → b ≡ flat_map (change_text 43) ys ++ c → ys ≡ add → c ≡ [] → bytes ≡ flat_map (change_text 45) out ++ flat_map (change_text 43) add
    joins bytes xs out ys add b c one two three four five = one ∙ rw (two, three, four, five, append-nil (flat_map (change_text 43) add)) refl
