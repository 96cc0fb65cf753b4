-- A filter matches where as many of its parts are satisfied as it has.
use Rattle.std.proofs.Common.{◌≡◌, ◌&&◌, ◌||◌, ◌∙◌, ℕ, ◌+◌, ◌<◌, ◌≤◌, Bool, true, false, not, cond, List, [], ◌∷◌, length, Some, None, refl, sym, ap, ap₂, subst, arith, nat_lt, nat_eq}
use Rattle.std.specs.declared.option.Option.{Option}
use Rattle.std.specs.List.{list_all, list_any}
use Rattle.std.specs.Str.{bytes_eq}
use Rattle.std.proofs.lemmas.Bool.Decides.{nat_tests}
use Rattle.std.proofs.lemmas.Bool.{both_ways}
use Rattle.filter_values.specs.Value.{kind_of, same_kind}
use Rattle.filter_constraints.specs.Constraint.{ConstraintParts, same_subject, satisfies}
use Rattle.filter_constraints.proofs.BytesLemmas.{bytes_eq-tells}
use Rattle.filter_constraints.proofs.ConstraintLaws.{sat-kind, subject-tells}
use Rattle.filter_values.specs.declared.value.Kind.{Kind}
use Rattle.filter_values.specs.declared.value.Kind.TheVariants as kinds
use Rattle.filter_types.specs.Notice.{Attribute, attribute_at, AreRising}
use Rattle.filter_types.specs.Cover.{attribute_satisfies}
use Rattle.filter_types.proofs.SideBySide.{later_rising}
use Rattle.match_index.specs.Pairs.{tally}
use Rattle.match_index.proofs.Tallies.{tally-agree, tally-none}
use Rattle.match_filters.specs.Index.{is_satisfied}
use Rattle.match_filters.specs.Parts.{is_alone, is_on, is_beside, ends_part, parts_of, is_missed, is_part_met}
use Rattle.match_filters.proofs.Satisfied.{none-later}

abbrev one_of : (Attribute → Bool) → Option Attribute → ℕ
one_of t None = 0
one_of t (Some a) = cond (t a) 1 0

-- two tests that differ on the attribute of one name alone
sum-change : (t u : Attribute → Bool) (name : List ℕ) (n : List Attribute) → AreRising n → ((a : Attribute) → bytes_eq a.0 name ≡ false → u a ≡ t a) → tally u n + one_of t (attribute_at n name) ≡ tally t n + one_of u (attribute_at n name)
sum-change t u name [] r h = refl
sum-change t u name (a ∷ n) r h = go (bytes_eq a.0 name) refl (sum-change t u name n (later_rising (a ∷ n) a n refl r) h)
  where
    go : (b : Bool) → bytes_eq a.0 name ≡ b → tally u n + one_of t (attribute_at n name) ≡ tally t n + one_of u (attribute_at n name)
        → cond (u a) 1 0 + tally u n + one_of t (cond b (Some a) (attribute_at n name)) ≡ cond (t a) 1 0 + tally t n + one_of u (cond b (Some a) (attribute_at n name))
    go true e ih =
        let k : attribute_at n name ≡ None = subst (λ (m : List ℕ). attribute_at n m ≡ None) (bytes_eq-tells a.0 name e) (none-later a n r) in
        omega (arith, ih, ap (one_of t) k, ap (one_of u) k)
    go false e ih = omega (arith, ih, ap {B = ℕ} (λ (b : Bool). cond b 1 0) (h a e))

named-so : (n : List Attribute) (name : List ℕ) (a : Attribute) → attribute_at n name ≡ Some a → bytes_eq a.0 name ≡ true
named-so [] name a e = cc
named-so (b ∷ n) name a e = go (bytes_eq b.0 name) refl e (named-so n name a)
  where
    go : (s : Bool) → bytes_eq b.0 name ≡ s → cond s (Some b) (attribute_at n name) ≡ Some a → (attribute_at n name ≡ Some a → bytes_eq a.0 name ≡ true) → bytes_eq a.0 name ≡ true
    go true q e ih = let s : b ≡ a = cc in ap (λ (x : Attribute). bytes_eq x.0 name) (sym s) ∙ q
    go false q e ih = ih e

-- how many are satisfied, how many there are, and whether all are satisfied
pub record Tells (got wanted : ℕ) (all : Bool) : Type 0 where
  pub few : got ≤ wanted
  pub to : got ≡ wanted → all ≡ true
  pub from : all ≡ true → got ≡ wanted

one-more : (g w g2 w2 : ℕ) (s all : Bool) → g2 ≡ cond s 1 0 + g → w2 ≡ 1 + w → Tells g w all → Tells g2 w2 (s && all)
one-more g w g2 w2 true all e f t = record { few = omega (arith, e, f, t.few); to = λ q. t.to (omega (arith, e, f, q)); from = λ q. omega (arith, e, f, t.from q) }
one-more g w g2 w2 false all e f t = record { few = omega (arith, e, f, t.few); to = λ q. absurd (omega (arith, e, f, q, t.few)); from = λ q. cc }

still : (g w g2 w2 : ℕ) (s all : Bool) → g2 ≡ g → w2 ≡ w → s ≡ true → Tells g w all → Tells g2 w2 (s && all)
still g w g2 w2 true all e f h t = record { few = omega (arith, e, f, t.few); to = λ q. t.to (omega (arith, e, f, q)); from = λ q. omega (arith, e, f, t.from q) }
still g w g2 w2 false all e f h t = cc

lost : (g w g2 w2 : ℕ) (s all : Bool) → g2 ≤ g → w2 ≡ w → s ≡ false → (all ≡ true → g ≤ g2 → ⊥) → Tells g w all → Tells g2 w2 (s && all)
lost g w g2 w2 true all e f h n t = cc
lost g w g2 w2 false all e f h n t = record { few = omega (arith, e, f, t.few); to = λ q. absurd (n (t.to (omega (arith, e, f, q, t.few))) (omega (arith, e, f, q, t.few))); from = λ q. cc }

abbrev bit_of : Bool → ℕ
bit_of b = cond b 1 0

-- a constraint that doesn't belong to the part on an attribute
skipped : (a : Attribute) (c : ConstraintParts) (f : List ConstraintParts) → is_on a c ≡ false → is_part_met (c ∷ f) a ≡ is_part_met f a
skipped a c f h =
    let inside : tally (is_on a) (c ∷ f) ≡ tally (is_on a) f = omega (arith, ap {B = ℕ} bit_of h) in
    let missed : tally (is_missed a) (c ∷ f) ≡ tally (is_missed a) f = omega (arith, ap {B = ℕ} (λ (b : Bool). bit_of (b && not (satisfies c a.1))) h) in
    ap₂ (λ (x y : ℕ). nat_lt 0 x && nat_eq y 0) inside missed

any-some : {X : Type 0} (p : X → Bool) (xs : List X) → list_any p xs ≡ true → 0 < tally p xs
any-some p [] e = cc
any-some p (x ∷ xs) e = go (p x) e (any-some p xs)
  where
    go : (b : Bool) → b || list_any p xs ≡ true → (list_any p xs ≡ true → 0 < tally p xs) → 0 < bit_of b + tally p xs
    go true e ih = omega arith
    go false e ih = omega (arith, ih e)

any-none : {X : Type 0} (p : X → Bool) (xs : List X) → list_any p xs ≡ false → tally p xs ≡ 0
any-none p [] e = refl
any-none p (x ∷ xs) e = go (p x) e (any-none p xs)
  where
    go : (b : Bool) → b || list_any p xs ≡ false → (list_any p xs ≡ false → tally p xs ≡ 0) → bit_of b + tally p xs ≡ 0
    go true e ih = cc
    go false e ih = omega (arith, ih e)

both-few : {X : Type 0} (p q : X → Bool) (xs : List X) → tally (λ x. p x && q x) xs ≤ tally p xs
both-few p q [] = omega arith
both-few p q (x ∷ xs) = omega (arith, both-few p q xs, each (p x) (q x))
  where
    each : (a b : Bool) → bit_of (a && b) ≤ bit_of a
    each true true = omega arith
    each true false = omega arith
    each false b = omega arith

module _ (n : List Attribute) (a : Attribute) (c : ConstraintParts) (there : attribute_at n c.name ≡ Some a) where
  name-is : a.0 ≡ c.name
  name-is = bytes_eq-tells a.0 c.name (named-so n c.name a there)

  -- what the attribute's part misses is nothing where all is satisfied
  none-missed : (f : List ConstraintParts) → list_all (is_satisfied n) f ≡ true → tally (is_missed a) f ≡ 0
  none-missed [] h = refl
  none-missed (d ∷ f) h = omega (arith, none-missed f (and_second (is_satisfied n d) (list_all (is_satisfied n) f) h), ap bit_of (each (is_alone d) (bytes_eq a.0 d.name) refl))
    where
      and_second : (x y : Bool) → x && y ≡ true → y ≡ true
      and_second true y e = e
      and_second false y e = cc

      and_first : (x y : Bool) → x && y ≡ true → x ≡ true
      and_first true y e = refl
      and_first false y e = cc

      none : (k : Bool) → (k && not true) ≡ false
      none true = refl
      none false = refl

      each : (l s : Bool) → bytes_eq a.0 d.name ≡ s → ((not l && (s && same_kind (kind_of a.1) d.kind)) && not (satisfies d a.1)) ≡ false
      each true s e = refl
      each false false e = refl
      each false true e =
          let m : c.name ≡ d.name = sym name-is ∙ bytes_eq-tells a.0 d.name e in
          let o : attribute_at n d.name ≡ Some a = ap (attribute_at n) (sym m) ∙ there in
          let s : satisfies d a.1 ≡ true = sym (ap (λ x. attribute_satisfies x d) o) ∙ and_first (is_satisfied n d) (list_all (is_satisfied n) f) h in
          ap (λ x. same_kind (kind_of a.1) d.kind && not x) s ∙ none (same_kind (kind_of a.1) d.kind)

-- a constraint of a part whose attribute isn't there, or doesn't satisfy it
unmet : (n : List Attribute) (c : ConstraintParts) (f : List ConstraintParts) → is_alone c ≡ false → is_satisfied n c ≡ false → tally (is_part_met (c ∷ f)) n ≡ tally (is_part_met f) n
    → (list_any (is_beside c) f ≡ true → list_all (is_satisfied n) f ≡ true → ⊥)
    → Tells (tally (is_part_met f) n + tally (λ d. is_alone d && is_satisfied n d) f) (parts_of f) (list_all (is_satisfied n) f)
    → Tells (tally (is_part_met (c ∷ f)) n + tally (λ d. is_alone d && is_satisfied n d) (c ∷ f)) (parts_of (c ∷ f)) (list_all (is_satisfied n) (c ∷ f))
unmet n c f l s e free t = go (list_any (is_beside c) f) refl
  where
    g : ℕ
    g = tally (is_part_met f) n + tally (λ d. is_alone d && is_satisfied n d) f

    g2 : ℕ
    g2 = tally (is_part_met (c ∷ f)) n + tally (λ d. is_alone d && is_satisfied n d) (c ∷ f)

    same : g2 ≡ g
    same = omega (arith, e, ap {B = ℕ} (λ (b : Bool). bit_of (b && is_satisfied n c)) l)

    go : (b : Bool) → list_any (is_beside c) f ≡ b → Tells g2 (parts_of (c ∷ f)) (is_satisfied n c && list_all (is_satisfied n) f)
    go true q =
        let w : parts_of (c ∷ f) ≡ parts_of f = omega (arith, ap₂ {C = ℕ} (λ (x y : Bool). bit_of (x || not y)) l q) in
        lost g (parts_of f) g2 (parts_of (c ∷ f)) (is_satisfied n c) (list_all (is_satisfied n) f) (omega (arith, same)) w s (λ a m. free q a) t
    go false q =
        let w : parts_of (c ∷ f) ≡ 1 + parts_of f = omega (arith, ap₂ {C = ℕ} (λ (x y : Bool). bit_of (x || not y)) l q) in
        one-more g (parts_of f) g2 (parts_of (c ∷ f)) (is_satisfied n c) (list_all (is_satisfied n) f) (omega (arith, same, ap {B = ℕ} bit_of s)) w t

other-name : (a : Attribute) (c : ConstraintParts) → bytes_eq a.0 c.name ≡ false → is_on a c ≡ false
other-name a c e = ap (λ (b : Bool). not (is_alone c) && (b && same_kind (kind_of a.1) c.kind)) e ∙ never (not (is_alone c))
  where
    never : (b : Bool) → (b && false) ≡ false
    never true = refl
    never false = refl

module _ (n : List Attribute) (rising : AreRising n) (a : Attribute) (c : ConstraintParts) (there : attribute_at n c.name ≡ Some a) where
  -- one attribute alone can be of the constraint's part
  one-part : (f : List ConstraintParts) → tally (is_part_met (c ∷ f)) n + bit_of (is_part_met f a) ≡ tally (is_part_met f) n + bit_of (is_part_met (c ∷ f) a)
  one-part f =
      let s = sum-change (is_part_met f) (is_part_met (c ∷ f)) c.name n rising (λ x e. skipped x c f (other-name x c e)) in
      omega (arith, s, ap (one_of (is_part_met f)) there, ap (one_of (is_part_met (c ∷ f))) there)

  sat-is : is_satisfied n c ≡ satisfies c a.1
  sat-is = ap (λ o. attribute_satisfies o c) there

  module _ (l : is_alone c ≡ false) (k : same_kind (kind_of a.1) c.kind ≡ true) where
    on : is_on a c ≡ true
    on = rw (l, named-so n c.name a there, k) refl

    subject : (a.0 ≡ c.name) × (kind_of a.1 ≡ c.kind)
    subject = subject-tells (record { name = a.0; kind = kind_of a.1; op = c.op; operand = c.operand }) c (rw (named-so n c.name a there, k) refl)

    beside : (d : ConstraintParts) → is_on a d ≡ is_beside c d
    beside d = ap₂ (λ (m : List ℕ) (z : Kind). not (is_alone d) && (bytes_eq m d.name && same_kind z d.kind)) subject.0 subject.1

    -- what is in the part, and what of it is missed, where the constraint comes to others
    numbers : (f : List ConstraintParts) → is_part_met (c ∷ f) a ≡ (nat_lt 0 (1 + tally (is_on a) f) && nat_eq (bit_of (not (satisfies c a.1)) + tally (is_missed a) f) 0)
    numbers f = ap (λ (b : Bool). nat_lt 0 (bit_of b + tally (is_on a) f) && nat_eq (bit_of (b && not (satisfies c a.1)) + tally (is_missed a) f) 0) on

    alone-none : (f : List ConstraintParts) → tally (λ d. is_alone d && is_satisfied n d) (c ∷ f) ≡ tally (λ d. is_alone d && is_satisfied n d) f
    alone-none f = omega (arith, ap {B = ℕ} (λ (b : Bool). bit_of (b && is_satisfied n c)) l)

    met : (f : List ConstraintParts) → Tells (tally (is_part_met f) n + tally (λ d. is_alone d && is_satisfied n d) f) (parts_of f) (list_all (is_satisfied n) f)
        → Tells (tally (is_part_met (c ∷ f)) n + tally (λ d. is_alone d && is_satisfied n d) (c ∷ f)) (parts_of (c ∷ f)) (list_all (is_satisfied n) (c ∷ f))
    met f t = go (list_any (is_beside c) f) refl
      where
        inside : ℕ
        inside = tally (is_on a) f

        missed : ℕ
        missed = tally (is_missed a) f

        g : ℕ
        g = tally (is_part_met f) n + tally (λ d. is_alone d && is_satisfied n d) f

        g2 : ℕ
        g2 = tally (is_part_met (c ∷ f)) n + tally (λ d. is_alone d && is_satisfied n d) (c ∷ f)

        as-beside : inside ≡ tally (is_beside c) f
        as-beside = tally-agree (is_on a) (is_beside c) f beside

        first : (s : Bool) → (nat_lt 0 1 && nat_eq (bit_of (not s)) 0) ≡ s
        first true = refl
        first false = refl

        go-true : list_any (is_beside c) f ≡ true → (s : Bool) → satisfies c a.1 ≡ s → Tells g2 (parts_of (c ∷ f)) (is_satisfied n c && list_all (is_satisfied n) f)
        go-true q true e =
            let w : parts_of (c ∷ f) ≡ parts_of f = omega (arith, ap₂ {C = ℕ} (λ (x y : Bool). bit_of (x || not y)) l q) in
            let some : 0 < inside = omega (arith, as-beside, any-some (is_beside c) f q) in
            let m : is_part_met (c ∷ f) a ≡ is_part_met f a = numbers f ∙ (ap (λ (b : Bool). nat_lt 0 (1 + inside) && nat_eq (bit_of (not b) + missed) 0) e ∙ grind (arith, nat_tests, some)) in
            still g (parts_of f) g2 (parts_of (c ∷ f)) (is_satisfied n c) (list_all (is_satisfied n) f) (omega (arith, one-part f, alone-none f, ap {B = ℕ} bit_of m)) w (sat-is ∙ e) t
        go-true q false e =
            let w : parts_of (c ∷ f) ≡ parts_of f = omega (arith, ap₂ {C = ℕ} (λ (x y : Bool). bit_of (x || not y)) l q) in
            let some : 0 < inside = omega (arith, as-beside, any-some (is_beside c) f q) in
            let m : is_part_met (c ∷ f) a ≡ false = numbers f ∙ (ap (λ (b : Bool). nat_lt 0 (1 + inside) && nat_eq (bit_of (not b) + missed) 0) e ∙ grind (arith, nat_tests)) in
            lost g (parts_of f) g2 (parts_of (c ∷ f)) (is_satisfied n c) (list_all (is_satisfied n) f) (omega (arith, one-part f, alone-none f, ap {B = ℕ} bit_of m)) w (sat-is ∙ e)
            (λ all more.
            let none : missed ≡ 0 = none-missed n a c there f all in
            let was : is_part_met f a ≡ true = grind (arith, nat_tests, none, some) in
            omega (arith, one-part f, alone-none f, ap {B = ℕ} bit_of m, ap {B = ℕ} bit_of was, more))
            t

        go : (b : Bool) → list_any (is_beside c) f ≡ b → Tells g2 (parts_of (c ∷ f)) (is_satisfied n c && list_all (is_satisfied n) f)
        go true q = go-true q (satisfies c a.1) refl
        go false q =
            let w : parts_of (c ∷ f) ≡ 1 + parts_of f = omega (arith, ap₂ {C = ℕ} (λ (x y : Bool). bit_of (x || not y)) l q) in
            let none : inside ≡ 0 = as-beside ∙ any-none (is_beside c) f q in
            let few : missed ≡ 0 = omega (arith, none, both-few (is_on a) (λ d. not (satisfies d a.1)) f) in
            let was : is_part_met f a ≡ false = ap (λ (x : ℕ). nat_lt 0 x && nat_eq missed 0) none in
            let m : is_part_met (c ∷ f) a ≡ satisfies c a.1 = numbers f ∙ (ap₂ (λ (x y : ℕ). nat_lt 0 (1 + x) && nat_eq (bit_of (not (satisfies c a.1)) + y) 0) none few ∙ plain (satisfies c a.1)) in
            one-more g (parts_of f) g2 (parts_of (c ∷ f)) (is_satisfied n c) (list_all (is_satisfied n) f) (omega (arith, one-part f, alone-none f, ap {B = ℕ} bit_of was, ap {B = ℕ} bit_of m, ap {B = ℕ} bit_of sat-is)) w t
          where
            plain : (s : Bool) → (nat_lt 0 (1 + 0) && nat_eq (bit_of (not s) + 0) 0) ≡ s
            plain true = refl
            plain false = refl

-- a constraint that is satisfied beside one that has no attribute, or one of another kind
beside-satisfied : (n : List Attribute) (c : ConstraintParts) (f : List ConstraintParts) → list_any (is_beside c) f ≡ true → list_all (is_satisfied n) f ≡ true → ((a : Attribute) → attribute_at n c.name ≡ Some a → same_kind (kind_of a.1) c.kind ≡ false) → ⊥
beside-satisfied n c [] q h none = cc
beside-satisfied n c (d ∷ f) q h none = go (is_beside c d) refl q (λ r g. beside-satisfied n c f r g none)
  where
    and_second : (x y : Bool) → x && y ≡ true → y ≡ true
    and_second true y e = e
    and_second false y e = cc

    and_first : (x y : Bool) → x && y ≡ true → x ≡ true
    and_first true y e = refl
    and_first false y e = cc

    here : same_subject c d ≡ true → (o : Option Attribute) → attribute_at n c.name ≡ o → attribute_satisfies (attribute_at n d.name) d ≡ true → ⊥
    here s None e m =
        let w : attribute_satisfies None d ≡ true = ap (λ o. attribute_satisfies o d) (sym (ap (attribute_at n) (sym (subject-tells c d s).0) ∙ e)) ∙ m in
        cc
    here s (Some a) e m =
        let w : satisfies d a.1 ≡ true = ap (λ o. attribute_satisfies o d) (sym (ap (attribute_at n) (sym (subject-tells c d s).0) ∙ e)) ∙ m in
        let same : same_kind (kind_of a.1) c.kind ≡ true = ap (λ (z : Kind). same_kind z c.kind) (sym (sat-kind d a.1 w)) ∙ (ap (λ (z : Kind). same_kind z c.kind) (sym (subject-tells c d s).1) ∙ kind-self c.kind) in
        both_ways (same_kind (kind_of a.1) c.kind) (none a e) same
      where
        kind-self : (x : Kind) → same_kind x x ≡ true
        kind-self kinds.Bool = refl
        kind-self kinds.Int = refl
        kind-self kinds.Str = refl
        kind-self kinds.Time = refl

    go : (b : Bool) → is_beside c d ≡ b → b || list_any (is_beside c) f ≡ true → (list_any (is_beside c) f ≡ true → list_all (is_satisfied n) f ≡ true → ⊥) → ⊥
    go true e r ih = here (and_second (not (is_alone d)) (same_subject c d) e) (attribute_at n c.name) refl (and_first (is_satisfied n d) (list_all (is_satisfied n) f) h)
    go false e r ih = ih r (and_second (is_satisfied n d) (list_all (is_satisfied n) f) h)

-- how many parts are satisfied tells whether all are
pub parts-tell : (n : List Attribute) → AreRising n → (f : List ConstraintParts) → Tells (tally (is_part_met f) n + tally (λ d. is_alone d && is_satisfied n d) f) (parts_of f) (list_all (is_satisfied n) f)
parts-tell n rising [] =
    let none = tally-none (is_part_met []) n (λ a. refl) in
    record { few = omega (arith, none); to = λ e. refl; from = λ e. omega (arith, none) }
parts-tell n rising (c ∷ f) = go (parts-tell n rising f) (is_alone c) refl (attribute_at n c.name) refl
  where
    before : Type 0
    before = Tells (tally (is_part_met f) n + tally (λ d. is_alone d && is_satisfied n d) f) (parts_of f) (list_all (is_satisfied n) f)

    wanted : Type 0
    wanted = Tells (tally (is_part_met (c ∷ f)) n + tally (λ d. is_alone d && is_satisfied n d) (c ∷ f)) (parts_of (c ∷ f)) (list_all (is_satisfied n) (c ∷ f))

    no-on : (a : Attribute) → is_alone c ≡ true → is_on a c ≡ false
    no-on a l = ap (λ (b : Bool). not b && (bytes_eq a.0 c.name && same_kind (kind_of a.1) c.kind)) l

    unsatisfied : (a : Attribute) → attribute_at n c.name ≡ Some a → same_kind (kind_of a.1) c.kind ≡ false → is_satisfied n c ≡ false
    unsatisfied a e k = ap (λ o. attribute_satisfies o c) e ∙ deny (satisfies c a.1) refl
      where
        deny : (b : Bool) → satisfies c a.1 ≡ b → b ≡ false
        deny false s = refl
        deny true s = absurd (both_ways (same_kind (kind_of a.1) c.kind) k (ap (λ (z : Kind). same_kind z c.kind) (sym (sat-kind c a.1 s)) ∙ kind-self c.kind))
          where
            kind-self : (x : Kind) → same_kind x x ≡ true
            kind-self kinds.Bool = refl
            kind-self kinds.Int = refl
            kind-self kinds.Str = refl
            kind-self kinds.Time = refl

    other : before → is_alone c ≡ false → (a : Attribute) → attribute_at n c.name ≡ Some a → (b : Bool) → same_kind (kind_of a.1) c.kind ≡ b → wanted
    other t l a e true k = met n rising a c e l k f t
    other t l a e false k =
        let off : is_on a c ≡ false = ap₂ (λ (x y : Bool). not (is_alone c) && (x && y)) (named-so n c.name a e) k ∙ last (not (is_alone c)) in
        let same : is_part_met (c ∷ f) a ≡ is_part_met f a = skipped a c f off in
        unmet n c f l (unsatisfied a e k) (omega (arith, one-part n rising a c e f, ap {B = ℕ} bit_of same)) (λ q h. beside-satisfied n c f q h (λ b p. (let s : a ≡ b = cc in subst (λ (z : Attribute). same_kind (kind_of z.1) c.kind ≡ false) s k))) t
      where
        last : (b : Bool) → (b && (true && false)) ≡ false
        last true = refl
        last false = refl

    go : before → (l : Bool) → is_alone c ≡ l → (o : Option Attribute) → attribute_at n c.name ≡ o → wanted
    go t true l o e =
        let same = tally-agree (is_part_met (c ∷ f)) (is_part_met f) n (λ a. skipped a c f (no-on a l)) in
        let w : parts_of (c ∷ f) ≡ 1 + parts_of f = omega (arith, ap {B = ℕ} (λ (x : Bool). bit_of (x || not (list_any (is_beside c) f))) l) in
        one-more (tally (is_part_met f) n + tally (λ d. is_alone d && is_satisfied n d) f) (parts_of f) (tally (is_part_met (c ∷ f)) n + tally (λ d. is_alone d && is_satisfied n d) (c ∷ f)) (parts_of (c ∷ f)) (is_satisfied n c) (list_all (is_satisfied n) f)
        (omega (arith, same, ap {B = ℕ} (λ (b : Bool). bit_of (b && is_satisfied n c)) l)) w t
    go t false l None e =
        let sum = sum-change (is_part_met f) (is_part_met (c ∷ f)) c.name n rising (λ x q. skipped x c f (other-name x c q)) in
        unmet n c f l (ap (λ o. attribute_satisfies o c) e) (omega (arith, sum, ap (one_of (is_part_met f)) e, ap (one_of (is_part_met (c ∷ f))) e)) (λ q h. beside-satisfied n c f q h (λ a p. cc)) t
    go t false l (Some a) e = other t l a e (same_kind (kind_of a.1) c.kind) refl

pub parts-few : (f : List ConstraintParts) → parts_of f ≤ length f
parts-few [] = omega arith
parts-few (c ∷ f) = omega (arith, parts-few f, each (ends_part c f))
  where
    each : (b : Bool) → bit_of b ≤ 1
    each true = omega arith
    each false = omega arith
