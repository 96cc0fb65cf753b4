-- The text of a str value is read as it, and nothing else is.
use Rattle.std.proofs.Common.{◌≡◌, ℕ, Bool, true, false, cond, refl, sym, ap, subst, ◌∙◌, List, [], ◌∷◌, ◌++◌, append_assoc}
use Rattle.std.specs.Prelude.{Some, None, ◌==◌}
use Rattle.std.specs.declared.option.Option.{Option}
use Rattle.std.specs.List.{flat_map}
use Rattle.std.proofs.lemmas.List.{append-nil}
use Rattle.filter_values.specs.Text.{IsText, is_text}
use Rattle.filter_text.specs.Reading.{◌>>=◌}
use Rattle.filter_text.specs.ValueText.{escape, string_text}
use Rattle.filter_text.specs.Values.{body_at, text_at, checked}
use Rattle.filter_values.proofs.TextTests.{text_tested, tested_text}
use Rattle.std.proofs.lemmas.Bool.{eqb-true}

-- one byte of a text is read as it
one : (read more : List ℕ) (b : ℕ) → body_at read false (escape b ++ more) ≡ body_at (read ++ b ∷ []) false more
one read more b = go (b == 34) refl (b == 92) refl (b == 10) refl (b == 9) refl
  where
    go : (p : Bool) → (b == 34) ≡ p → (q : Bool) → (b == 92) ≡ q → (r : Bool) → (b == 10) ≡ r → (s : Bool) → (b == 9) ≡ s → body_at read false (escape b ++ more) ≡ body_at (read ++ b ∷ []) false more
    go true p q qe r re s se = rw (eqb-true b 34 p) refl
    go false p true qe r re s se = rw (eqb-true b 92 qe) refl
    go false p false qe true re s se = rw (eqb-true b 10 re) refl
    go false p false qe false re true se = rw (eqb-true b 9 se) refl
    go false p false qe false re false se = simp (p, qe, re, se)

pub body_again : (read t tail : List ℕ) → body_at read false (flat_map escape t ++ 34 ∷ tail) ≡ Some (read ++ t, tail)
body_again read [] tail = ap (λ (x : List ℕ). Some (x, tail)) (sym (append-nil read))
body_again read (b ∷ t) tail =
    let e : body_at read false ((escape b ++ flat_map escape t) ++ 34 ∷ tail) ≡ body_at read false (escape b ++ (flat_map escape t ++ 34 ∷ tail)) = ap (λ (x : List ℕ). body_at read false x) (append_assoc (escape b) (flat_map escape t) (34 ∷ tail)) in
    e ∙ one read (flat_map escape t ++ 34 ∷ tail) b ∙ body_again (read ++ b ∷ []) t tail ∙ ap (λ (x : List ℕ). Some (x, tail)) (append_assoc read (b ∷ []) t)

-- what is read as a text is its text: behind a backslash, the byte that it hides comes first
abbrev Spelled : Bool → List ℕ → List ℕ → List ℕ → List ℕ → Type 0
Spelled false read bytes x tail = (t : List ℕ) × (x ≡ read ++ t) × (bytes ≡ flat_map escape t ++ 34 ∷ tail)
Spelled true read bytes x tail = (t : List ℕ) × (x ≡ read ++ t) × (92 ∷ bytes ≡ flat_map escape t ++ 34 ∷ tail)

-- a byte more in front
more : (read t x : List ℕ) (c : ℕ) → x ≡ (read ++ c ∷ []) ++ t → x ≡ read ++ c ∷ t
more read t x c e = e ∙ append_assoc read (c ∷ []) t

abbrev front-of : Option (List ℕ × List ℕ) → List ℕ
front-of None = []
front-of (Some p) = p.0

abbrev tail-of : Option (List ℕ × List ℕ) → List ℕ
tail-of None = []
tail-of (Some p) = p.1

pub some-inj : (a b x y : List ℕ) → ◌≡◌ {A = Option (List ℕ × List ℕ)} (Some (a, b)) (Some (x, y)) → (a ≡ x) × (b ≡ y)
some-inj a b x y e = (ap front-of e, ap tail-of e)

clear : (b : ℕ) → (b == 34) ≡ false → (b == 92) ≡ false → (b == 10) ≡ false → (b == 9) ≡ false → escape b ≡ b ∷ []
clear b p q r s = simp (p, q, r, s)

behind : (b c : ℕ) (rest others : List ℕ) → b ≡ c → rest ≡ others → 92 ∷ b ∷ rest ≡ 92 ∷ c ∷ others
behind b c rest others e f = cc

pub body_spelled : (read : List ℕ) (slashed : Bool) (bytes x tail : List ℕ) → body_at read slashed bytes ≡ Some (x, tail) → Spelled slashed read bytes x tail
body_spelled read slashed [] x tail e = absurd cc
body_spelled read true (b ∷ rest) x tail e = go (b == 34) refl (b == 92) refl (b == 110) refl (b == 116) refl e (λ (c : ℕ) h. body_spelled (read ++ c ∷ []) false rest x tail h)
  where
    go : (p : Bool) → (b == 34) ≡ p → (q : Bool) → (b == 92) ≡ q → (r : Bool) → (b == 110) ≡ r → (s : Bool) → (b == 116) ≡ s
        → body_at read true (b ∷ rest) ≡ Some (x, tail)
        → ((c : ℕ) → body_at (read ++ c ∷ []) false rest ≡ Some (x, tail) → Spelled false (read ++ c ∷ []) rest x tail)
        → Spelled true read (b ∷ rest) x tail
    go true p q qe r re s se e k = let i = eqb-true b 34 p in let w = k 34 (subst (λ (z : ℕ). body_at read true (z ∷ rest) ≡ Some (x, tail)) i e) in (34 ∷ w.0, more read w.0 x 34 w.1, behind b 34 rest (flat_map escape w.0 ++ 34 ∷ tail) i w.2)
    go false p true qe r re s se e k = let i = eqb-true b 92 qe in let w = k 92 (subst (λ (z : ℕ). body_at read true (z ∷ rest) ≡ Some (x, tail)) i e) in (92 ∷ w.0, more read w.0 x 92 w.1, behind b 92 rest (flat_map escape w.0 ++ 34 ∷ tail) i w.2)
    go false p false qe true re s se e k = let i = eqb-true b 110 re in let w = k 10 (subst (λ (z : ℕ). body_at read true (z ∷ rest) ≡ Some (x, tail)) i e) in (10 ∷ w.0, more read w.0 x 10 w.1, behind b 110 rest (flat_map escape w.0 ++ 34 ∷ tail) i w.2)
    go false p false qe false re true se e k = let i = eqb-true b 116 se in let w = k 9 (subst (λ (z : ℕ). body_at read true (z ∷ rest) ≡ Some (x, tail)) i e) in (9 ∷ w.0, more read w.0 x 9 w.1, behind b 116 rest (flat_map escape w.0 ++ 34 ∷ tail) i w.2)
    go false p false qe false re false se e k = let z : body_at read true (b ∷ rest) ≡ None = simp (p, qe, re, se) in absurd cc
body_spelled read false (b ∷ rest) x tail e = go (b == 34) refl (b == 92) refl (b == 10) refl (b == 9) refl e (λ (c : ℕ) h. body_spelled (read ++ c ∷ []) false rest x tail h) (λ h. body_spelled read true rest x tail h)
  where
    go : (p : Bool) → (b == 34) ≡ p → (q : Bool) → (b == 92) ≡ q → (r : Bool) → (b == 10) ≡ r → (s : Bool) → (b == 9) ≡ s
        → body_at read false (b ∷ rest) ≡ Some (x, tail)
        → ((c : ℕ) → body_at (read ++ c ∷ []) false rest ≡ Some (x, tail) → Spelled false (read ++ c ∷ []) rest x tail)
        → (body_at read true rest ≡ Some (x, tail) → Spelled true read rest x tail)
        → Spelled false read (b ∷ rest) x tail
    go true p q qe r re s se e k m = let i = eqb-true b 34 p in let w = some-inj read rest x tail (subst (λ (z : ℕ). body_at read false (z ∷ rest) ≡ Some (x, tail)) i e) in let u : rest ≡ tail = w.1 in ([], sym w.0 ∙ sym (append-nil read), cc)
    go false p true qe r re s se e k m = let i = eqb-true b 92 qe in let w = m (subst (λ (z : ℕ). body_at read false (z ∷ rest) ≡ Some (x, tail)) i e) in (w.0, w.1, ap (λ (z : ℕ). z ∷ rest) i ∙ w.2)
    go false p false qe true re s se e k m = let z : body_at read false (b ∷ rest) ≡ None = simp (p, qe, re) in absurd cc
    go false p false qe false re true se e k m = let z : body_at read false (b ∷ rest) ≡ None = simp (p, qe, re, se) in absurd cc
    go false p false qe false re false se e k m = let z : body_at read false (b ∷ rest) ≡ body_at (read ++ b ∷ []) false rest = simp (p, qe, re, se) in let w = k b (sym z ∙ e) in (b ∷ w.0, more read w.0 x b w.1, ap (λ (z : List ℕ). b ∷ z) w.2 ∙ ap (λ (z : List ℕ). (z ++ flat_map escape w.0) ++ 34 ∷ tail) (sym (clear b p qe re se)))

pub text_again : (t tail : List ℕ) → IsText t → text_at (string_text t ++ tail) ≡ Some (t, tail)
unfolding text_at
text_again t tail is =
    let e : body_at [] false ((flat_map escape t ++ 34 ∷ []) ++ tail) ≡ Some (t, tail) = ap (λ (x : List ℕ). body_at [] false x) (append_assoc (flat_map escape t) (34 ∷ []) tail) ∙ body_again [] t tail in
    rw (e, text_tested t is) refl

pub text_spelled : (bytes t tail : List ℕ) → text_at bytes ≡ Some (t, tail) → IsText t × (bytes ≡ string_text t ++ tail)
unfolding text_at
text_spelled [] t tail e = absurd cc
text_spelled (b ∷ rest) t tail e = go (b == 34) refl e
  where
    done : (r : Option (List ℕ × List ℕ)) → body_at [] false rest ≡ r → (r >>= checked) ≡ Some (t, tail) → IsText t × (34 ∷ rest ≡ string_text t ++ tail)
    done None h e = absurd cc
    done (Some x) h e = last (is_text x.0) refl e
      where
        last : (p : Bool) → is_text x.0 ≡ p → cond p (Some x) None ≡ Some (t, tail) → IsText t × (34 ∷ rest ≡ string_text t ++ tail)
        last true p e =
            let i = some-inj x.0 x.1 t tail e in
            let w = body_spelled [] false rest x.0 x.1 h in
            let same : w.0 ≡ t = sym w.1 ∙ i.0 in
            (subst IsText i.0 (tested_text x.0 p), ap (λ (z : List ℕ). 34 ∷ z) (w.2 ∙ rw (same, i.1) (sym (append_assoc (flat_map escape t) (34 ∷ []) tail))))
        last false p e = absurd cc

    go : (p : Bool) → (b == 34) ≡ p → cond p (body_at [] false rest >>= checked) None ≡ Some (t, tail) → IsText t × (b ∷ rest ≡ string_text t ++ tail)
    go true p e = rw (eqb-true b 34 p) (done (body_at [] false rest) refl e)
    go false p e = absurd cc
