-- How the rows of a link turn as what is held changes.
use Rattle.std.proofs.Common.{◌≡◌, ◌≢◌, ◌⊎◌, inl, inr, ℕ, zero, suc, ◌<◌, nat_lt, Bool, true, false, cond, ◌||◌, ◌&&◌, List, [], ◌∷◌, length, map, get_or, set, take, slice_get, Some, refl, sym, ap, ap₂, subst, ◌∙◌, arith}
use Rattle.std.specs.List.{list_any}
use Rattle.std.proofs.lemmas.List.{get_or-set_same}
use Rattle.std.proofs.lemmas.List.{length-set}
use Rattle.std.proofs.lemmas.Option.{same_Some, slice_get_read}
use Rattle.std.proofs.lemmas.Bool.{cases_eq}
use Rattle.base.specs.Sets.{Has, IsRising, put_in, minus}
use Rattle.base.proofs.Sets.{minus-iff, has-union}
use Rattle.base_bits.specs.Words.{passing}
use Rattle.base_bits.specs.Rows.{Numbers, is_in}
use Rattle.base_bits.proofs.Passing.{nat_laws, passing-is, has-passing, passing-has}
use Rattle.base_order.specs.Order.{root_numbers, picked, IsChange}
use Rattle.base_order.proofs.SettledRoots.{in-has, has-in, out-has, put-own, put-other, take-own, take-other}
use Rattle.base_order.proofs.Over.{get-set-same, get-set-other}
use Rattle.server_stock.specs.Held.{Held, needs, elsewhere, row_at, without, with, wanted, wanted_numbers}
use Rattle.server_stock.specs.declared.sides.Side.{Side}
use Rattle.server_stock.specs.Sides.{announced_of, offered_at, turned, announced_from, sent_numbers, empty_side, IsSide, IsDue, AreSides}
use Rattle.server_stock.proofs.Counts.{set-twice, set-none}
use Rattle.std.specs.Cmp.{both_ways}

or-mono : (a b c d : Bool) → (a ≡ true → b ≡ true) → (c ≡ true → d ≡ true) → (a || c) ≡ true → (b || d) ≡ true
or-mono true b c d f g e = rw (f refl) refl
or-mono false true c d f g e = refl
or-mono false false c d f g e = g e

pub set-own : (i : ℕ) (xs : List ℕ) (b : Bool) → is_in i (cond b (put_in nat_lt i xs) (minus nat_lt xs (i ∷ []))) ≡ b
set-own i xs true = put-own i xs
set-own i xs false = take-own i xs

pub set-other : (i k : ℕ) (xs : List ℕ) (b : Bool) → k ≢ i → is_in k (cond b (put_in nat_lt i xs) (minus nat_lt xs (i ∷ []))) ≡ is_in k xs
set-other i k xs true n = put-other i k xs n
set-other i k xs false n = take-other i k xs n

module _ (f : ℕ → Bool) (i : ℕ) (b : Bool) (holds : b ≡ f i) (now new : List ℕ) (is : new ≡ cond b (put_in nat_lt i now) (minus nat_lt now (i ∷ []))) where
  pub step-own : is_in i new ≡ f i
  step-own = ap (is_in i) is ∙ (set-own i now b ∙ holds)

  pub step-settled : (k : ℕ) → is_in k now ≡ f k → is_in k new ≡ f k
  step-settled k e = elim (cases_eq k i) [
    | inl q ↦ subst (λ z. is_in z new ≡ f z) (sym q) step-own
    | inr n ↦ ap (is_in k) is ∙ (set-other i k now b n ∙ e)
  ]

  pub step-toward : (old : List ℕ) (k : ℕ) → (is_in k now ≡ is_in k old) ⊎ (is_in k now ≡ f k) → (is_in k new ≡ is_in k old) ⊎ (is_in k new ≡ f k)
  step-toward old k (inl e) = elim (cases_eq k i) [
    | inl q ↦ inr (subst (λ z. is_in z new ≡ f z) (sym q) step-own)
    | inr n ↦ inl (ap (is_in k) is ∙ (set-other i k now b n ∙ e))
  ]
  step-toward old k (inr e) = inr (step-settled k e)

-- a need that was renewed at what went and at what came
module _ (f : ℕ → Bool) (old mid new out add : List ℕ)
    (s1 : (k : ℕ) → Has k out → is_in k mid ≡ f k) (t1 : (k : ℕ) → (is_in k mid ≡ is_in k old) ⊎ (is_in k mid ≡ f k))
    (s2 : (k : ℕ) → Has k add → is_in k new ≡ f k) (t2 : (k : ℕ) → (is_in k new ≡ is_in k mid) ⊎ (is_in k new ≡ f k))
    (kept : (k : ℕ) → Has k old → (Has k out → ⊥) → f k ≡ true) (fresh : (k : ℕ) → f k ≡ true → (Has k add → ⊥) → Has k old) where
  final : (k : ℕ) → is_in k new ≡ f k
  final k = adds (is_in k add) refl
    where
      rest : (Has k out → ⊥) → (Has k add → ⊥) → is_in k old ≡ f k
      rest n m = both_ways (is_in k old) (f k) (λ e. kept k (in-has k old e) n) (λ e. has-in k old (fresh k e m))

      mids : (Has k add → ⊥) → (b : Bool) → is_in k out ≡ b → is_in k mid ≡ f k
      mids m true e = s1 k (in-has k out e)
      mids m false e = elim (t1 k) [ inl q ↦ q ∙ rest (out-has k out e) m | inr q ↦ q ]

      adds : (b : Bool) → is_in k add ≡ b → is_in k new ≡ f k
      adds true e = s2 k (in-has k add e)
      adds false e = elim (t2 k) [ inl q ↦ q ∙ mids (out-has k add e) (is_in k out) refl | inr q ↦ q ]

  pub renewed : (width : ℕ) → IsRising nat_lt new → ((k : ℕ) → Has k new → k < width) → ((k : ℕ) → f k ≡ true → k < width) → new ≡ passing f width
  renewed width rising within below =
      sym (passing-is f width new rising (λ i e. in-has i new (final i ∙ e)) (λ i h. (within i h, sym (final i) ∙ has-in i new h)))

  pub changed : {T : Type 0} (covers : T → T → Bool) (items : List T) (roots : List ℕ) → roots ≡ root_numbers covers items old → IsChange covers items new roots out add
  changed covers items roots e =
      record {
        was = old;
        roots = e;
        left = λ i h. left i h (is_in i out) refl;
        joined = λ i h. joined i h (is_in i add) refl;
      }
    where
      left : (i : ℕ) → Has i old → (b : Bool) → is_in i out ≡ b → Has i new ⊎ Has i out
      left i h true q = inr (in-has i out q)
      left i h false q = inl (in-has i new (final i ∙ kept i h (out-has i out q)))

      joined : (i : ℕ) → Has i new → (b : Bool) → is_in i add ≡ b → Has i old ⊎ Has i add
      joined i h true q = inr (in-has i add q)
      joined i h false q = inl (fresh i (sym (final i) ∙ has-in i new h) (out-has i add q))

  -- what is needed is below the width, where what was needed and what came is
  pub below : (width : ℕ) → ((k : ℕ) → Has k old → k < width) → ((k : ℕ) → Has k add → k < width) → (k : ℕ) → f k ≡ true → k < width
  below width within come k e = go (is_in k add) refl
    where
      go : (b : Bool) → is_in k add ≡ b → k < width
      go true q = come k (in-has k add q)
      go false q = within k (fresh k e (out-has k add q))

pub numbers-are : (s : Numbers) (w : ℕ) (m : List ℕ) → s.width ≡ w → s.members ≡ m → s ≡ record { width = w; members = m }
numbers-are s w m e f = ap₂ (λ (x : ℕ) (y : List ℕ). record { width = x; members = y }) e f

pub side-is : {o a b c d o' e f g h : Numbers} → o ≡ o' → a ≡ e → b ≡ f → c ≡ g → d ≡ h
    → ◌≡◌ {A = Side} (record { offered = o; need = a; roots = b; withdrawn = c; added = d }) (record { offered = o'; need = e; roots = f; withdrawn = g; added = h })
side-is w p q r s =
    ap₂ (λ (x : Numbers × (Numbers × Numbers)) (y : Numbers × Numbers). record { offered = x.0; need = x.1.0; roots = x.1.1; withdrawn = y.0; added = y.1 })
    (ap₂ (λ (z : Numbers) (x : Numbers × Numbers). (z, x)) w (ap₂ (λ (x y : Numbers). (x, y)) p q)) (ap₂ (λ (x y : Numbers). (x, y)) r s)

module _ (t : Numbers → Bool) where
  any-mono : (xs : List Numbers) (p : ℕ) (x : Numbers) → (t (row_at xs p) ≡ true → t x ≡ true) → list_any t xs ≡ true → list_any t (set xs p x) ≡ true
  any-mono [] p x f e = e
  any-mono (y ∷ ys) zero x f e = or-mono (t y) (t x) (list_any t ys) (list_any t ys) f (λ z. z) e
  any-mono (y ∷ ys) (suc p) x f e = or-mono (t y) (t y) (list_any t ys) (list_any t (set ys p x)) (λ z. z) (any-mono ys p x f) e

  pub elsewhere-mono : (xs : List Numbers) (q p : ℕ) (x : Numbers) → (t (row_at xs p) ≡ true → t x ≡ true) → elsewhere t q xs ≡ true → elsewhere t q (set xs p x) ≡ true
  elsewhere-mono [] q p x f e = e
  elsewhere-mono (y ∷ ys) zero zero x f e = e
  elsewhere-mono (y ∷ ys) zero (suc p) x f e = any-mono ys p x f e
  elsewhere-mono (y ∷ ys) (suc q) zero x f e = or-mono (t y) (t x) (elsewhere t q ys) (elsewhere t q ys) f (λ z. z) e
  elsewhere-mono (y ∷ ys) (suc q) (suc p) x f e = or-mono (t y) (t y) (elsewhere t q ys) (elsewhere t q (set ys p x)) (λ z. z) (elsewhere-mono ys q p x f) e

  pub elsewhere-back : (xs : List Numbers) (q p : ℕ) (x : Numbers) → p < length xs → (t x ≡ true → t (row_at xs p) ≡ true) → elsewhere t q (set xs p x) ≡ true → elsewhere t q xs ≡ true
  elsewhere-back xs q p x l f e =
      subst (λ z. elsewhere t q z ≡ true) (set-twice xs p x (row_at xs p) ∙ set-none xs p (row_at xs p) refl)
      (elsewhere-mono (set xs p x) q p (row_at xs p) (subst (λ z. t z ≡ true → t (row_at xs p) ≡ true) (sym (get_or-set_same xs p x (record { width = 0; members = [] }) l)) f) e)

-- a row that changed
module _ (rows : List Numbers) (p : ℕ) (out add : List ℕ) (there : p < length rows) where
  r : Numbers
  r = row_at rows p

  new : Numbers
  new = with (without r out) add

  pub needs-kept : (q k : ℕ) → needs rows q k ≡ true → (Has k out → ⊥) → needs (set rows p (with (without (row_at rows p) out) add)) q k ≡ true
  unfolding needs r new
  needs-kept q k e n = elsewhere-mono (λ r. is_in k r.members) rows q p new
      (λ m. has-in k new.members ((has-union nat_laws k add (minus nat_lt r.members out)).1 (inr ((minus-iff nat_laws k r.members out).1 (in-has k r.members m, n))))) e

  pub needs-fresh : (q k : ℕ) → needs (set rows p (with (without (row_at rows p) out) add)) q k ≡ true → (Has k add → ⊥) → needs rows q k ≡ true
  unfolding needs r new
  needs-fresh q k e n = elsewhere-back (λ r. is_in k r.members) rows q p new there was e
    where
      was : is_in k new.members ≡ true → is_in k r.members ≡ true
      was m = elim ((has-union nat_laws k add (minus nat_lt r.members out)).0 (in-has k new.members m)) [
        | inl h ↦ absurd (n h)
        | inr h ↦ has-in k r.members ((minus-iff nat_laws k r.members out).0 h).0
      ]

module _ {A : Type 0} where
  pub get-some : (xs : List A) (p : ℕ) → p < length xs → (x : A) × (slice_get xs p ≡ Some x)
  get-some [] p l = absurd (omega arith)
  get-some (y ∷ ys) zero l = (y, refl)
  get-some (y ∷ ys) (suc p) l = get-some ys p (omega arith)

  pub get-within : (xs : List A) (p : ℕ) (x : A) → slice_get xs p ≡ Some x → p < length xs
  get-within [] p x e = absurd cc
  get-within (y ∷ ys) zero x e = omega arith
  get-within (y ∷ ys) (suc p) x e = let l = get-within ys p x e in omega (arith, l)

-- what stands below n is among the first n of a list
pub get-take : {A : Type 0} (n : ℕ) (xs : List A) (p : ℕ) (x : A) → p < n → slice_get xs p ≡ Some x → Has x (take n xs)
get-take zero xs p x l e = absurd (omega (arith, l))
get-take (suc n) [] p x l e = absurd cc
get-take (suc n) (y ∷ ys) zero x l e = inl (sym (same_Some y x e))
get-take (suc n) (y ∷ ys) (suc p) x l e = inr (get-take n ys p x (omega (arith, l)) e)

-- what is offered at links each of which offers what it did
pub same-offered : {T : Type 0} (items : List T) (new old : List Side) → length new ≡ length old
    → ((q : ℕ) (s : Side) → slice_get old q ≡ Some s → (t : Side) × (slice_get new q ≡ Some t) × (t.offered ≡ s.offered)) → map (offered_at items) new ≡ map (offered_at items) old
same-offered items [] [] l f = refl
same-offered items (t ∷ ts) [] l f = absurd (omega (arith, l))
same-offered items [] (s ∷ ss) l f = absurd (omega (arith, l))
same-offered {T} items (t ∷ ts) (s ∷ ss) l f =
    let w = f zero s refl in
    let e : t ≡ w.0 = same_Some t w.0 w.1 in
    ap₂ (λ (x : List T) (xs : List (List T)). x ∷ xs) (ap (offered_at items) e ∙ ap (λ (o : Numbers). picked items o.members) w.2)
    (same-offered items ts ss (omega (arith, l)) (λ q x h. f (suc q) x h))

-- what is wanted is held elsewhere, and offered
wanted-parts : (offered : List ℕ) (rows : List Numbers) (q k : ℕ) → wanted offered rows q k ≡ true → (needs rows q k ≡ true) × (is_in k offered ≡ true)
wanted-parts offered rows q k e = both (needs rows q k) (is_in k offered) e
  where
    both : (a b : Bool) → (a && b) ≡ true → (a ≡ true) × (b ≡ true)
    both true b e = (refl, e)
    both false b e = absurd cc

wanted-both : (offered : List ℕ) (rows : List Numbers) (q k : ℕ) → needs rows q k ≡ true → is_in k offered ≡ true → wanted offered rows q k ≡ true
wanted-both offered rows q k e f = rw (e, f) refl

-- a link's rows once what is held has changed at a place
module _ {T : Type 0} (covers : T → T → Bool) (items : List T) (rows : List Numbers) (p : ℕ) (out add : List ℕ) (there : p < length rows) where
  pub due : (q : ℕ) (s : Side) → IsSide covers items rows q s → ((k : ℕ) → needs rows q k ≡ true → k < length items) → IsDue covers items (set rows p (with (without (row_at rows p) out) add)) out add q s
  due q s is below =
      record {
        wide = is.wide;
        known = is.roots ∙ ap (root_numbers covers items) (sym is.need);
        kept = λ k h n.
            let w = wanted-parts s.offered.members rows q k (has-passing (wanted s.offered.members rows q) (length items) k (subst (Has k) is.need h)).1 in
            wanted-both s.offered.members now q k (needs-kept rows p out add there q k w.0 n) w.1;
        fresh = λ k e n.
            let v = wanted-parts s.offered.members now q k e in
            let w = needs-fresh rows p out add there q k v.0 n in
            subst (Has k) (sym is.need) (passing-has (wanted s.offered.members rows q) (length items) k (below k w) (wanted-both s.offered.members rows q k w v.1));
      }
    where
      now : List Numbers
      now = set rows p (with (without (row_at rows p) out) add)

module _ {T : Type 0} (covers : T → T → Bool) (items : List T) (rows : List Numbers) where
  -- what is announced of a turn
  pub announced-turned : (q : ℕ) (s : Side) (offered : Numbers) (then : List Numbers) → IsSide covers items rows q s
      → announced_of (turned covers items offered then q s) ≡ announced_from (sent_numbers covers items s.offered.members rows q) (sent_numbers covers items offered.members then q)
  announced-turned q s offered then is =
      ap (λ z. announced_from z (sent_numbers covers items offered.members then q)) is.roots

  pub side-turned : (q : ℕ) (s : Side) (offered : Numbers) (then : List Numbers) → offered.width ≡ length items → IsSide covers items then q (turned covers items offered then q s)
  side-turned q s offered then w = record { wide = record { offered = w; need = refl; roots = refl; withdrawn = refl; added = refl }; need = refl; roots = refl }

  pub side-empty : (q : ℕ) → ((k : ℕ) → needs rows q k ≡ false) → IsSide covers items rows q (empty_side (length items))
  side-empty q none =
      record {
        wide = record { offered = refl; need = refl; roots = refl; withdrawn = refl; added = refl };
        need = sym e;
        roots = sym (ap (root_numbers covers items) e);
      }
    where
      all : List ℕ
      all = passing (λ k. true) (length items)

      never : (k : ℕ) → wanted (passing (λ k. true) (length items)) rows q k ≡ false
      never k = ap (λ b. b && is_in k (passing (λ k. true) (length items))) (none k)

      e : wanted_numbers (length items) (passing (λ k. true) (length items)) rows q ≡ []
      e = passing-is (wanted (passing (λ k. true) (length items)) rows q) (length items) [] tt (λ k t. absurd (grind (arith, never k, t))) (λ k h. absurd h)

-- the rows of links, once other rows are held
module _ {T : Type 0} (covers : T → T → Bool) (items : List T) (old new : List Side) (held then : Held) (are : AreSides covers items held old) (width : then.width ≡ held.width)
    (same : length then.rows ≡ length held.rows) (long : length new ≡ length old)
    (each : (p : ℕ) (s : Side) → slice_get old p ≡ Some s → slice_get new p ≡ Some (turned covers items s.offered then.rows p s)) where
  pub sides-turned : AreSides covers items then new
  sides-turned =
      record {
        width = width ∙ are.width;
        few = let f = are.few in omega (arith, f, same, long);
        each = λ q x e.
            let l = get-within new q x e in
            let s = get-some old q (omega (arith, l, long)) in
            subst (IsSide covers items then.rows q) (same_Some (turned covers items s.0.offered then.rows q s.0) x (sym (each q s.0 s.1) ∙ e))
            (side-turned covers items then.rows q s.0 s.0.offered then.rows (are.each q s.0 s.1).wide.offered);
      }

-- the rows of a link, once something else is offered there
module _ {T : Type 0} (covers : T → T → Bool) (items : List T) (held : Held) (sides : List Side) (p : ℕ) (s : Side) (are : AreSides covers items held sides) (there : p < length sides) (is : s ≡ get_or sides p s) where
  pub side-get : slice_get sides p ≡ Some s
  side-get = slice_get_read sides (length sides) p s refl there is

  pub side-read : IsSide covers items held.rows p s
  side-read = are.each p s side-get

  pub sides-offered : (offered : Numbers) (new : Side) → offered.width ≡ length items → new ≡ turned covers items offered held.rows p s → AreSides covers items held (set sides p new)
  sides-offered offered new w e = record {
    width = are.width;
    few = let l = length-set sides p new in let f = are.few in omega (arith, l, f);
    each = λ q x f. each q x f (cases_eq q p);
  }
    where
      each : (q : ℕ) (x : Side) → slice_get (set sides p new) q ≡ Some x → ((q ≡ p) ⊎ (q ≡ p → ⊥)) → IsSide covers items held.rows q x
      each q x f (inl a) =
          let b : new ≡ x = same_Some new x (sym (get-set-same sides p new there) ∙ subst (λ z. slice_get (set sides p new) z ≡ Some x) a f) in
          subst (λ z. IsSide covers items held.rows z x) (sym a) (subst (IsSide covers items held.rows p) (sym e ∙ b) (side-turned covers items held.rows p s offered held.rows w))
      each q x f (inr d) = are.each q x (sym (get-set-other sides p q new d) ∙ f)
