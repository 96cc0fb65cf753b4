-- Lemmas on attributes in the order of their names.
use Rattle.std.proofs.Common.{◌≡◌, ◌⊎◌, inl, inr, suc, ◌<◌, ◌≤◌, Bool, true, false, cond, Ordering, refl, sym, subst, arith, List, [], ◌∷◌, length}
use Rattle.std.specs.declared.cmp.Ordering.TheVariants.{Less, Equal, Greater}
use Rattle.std.specs.Ordering.{is_lt, nat_cmp}
use Rattle.std.specs.Cmp.Lexicographic.{slice_cmp, nat_list_cmp_total}
use Rattle.base.specs.Sets.{IsRising, put_in, set_of}
use Rattle.filter_types.specs.Notice.{Attribute, AreRising, is_name_less}
use Rattle.filter_text.specs.MessageText.{Each}
use Rattle.document_reader.proofs.Notices.{less_is, set-rising}

are-rising : (n : List Attribute) → IsRising is_name_less n → AreRising n
are-rising [] r = tt
are-rising (a ∷ []) r = tt
are-rising (a ∷ b ∷ n) r = (less_is a b (r.0 b (inl refl)), are-rising (b ∷ n) r.1)

pub set_rises : (xs : List Attribute) → AreRising (set_of is_name_less xs)
set_rises xs = are-rising (set_of is_name_less xs) (set-rising xs)

put_each : (P : Attribute → Type 0) (x : Attribute) (ys : List Attribute) → P x → Each P ys → Each P (put_in is_name_less x ys)
put_each P x [] p h = (p, tt)
put_each P x (y ∷ ys) p h = go (is_name_less x y) (is_name_less y x) (put_each P x ys p h.1)
  where
    go : (b c : Bool) → Each P (put_in is_name_less x ys) → Each P (cond b (x ∷ y ∷ ys) (cond c (y ∷ put_in is_name_less x ys) (y ∷ ys)))
    go true c k = (p, h)
    go false true k = (h.0, k)
    go false false k = h

pub set_each : (P : Attribute → Type 0) (xs : List Attribute) → Each P xs → Each P (set_of is_name_less xs)
set_each P [] h = tt
set_each P (x ∷ xs) h = put_each P x (set_of is_name_less xs) h.0 (set_each P xs h.1)

put_length : (x : Attribute) (ys : List Attribute) → (0 < length (put_in is_name_less x ys)) × (length (put_in is_name_less x ys) ≤ suc (length ys))
put_length x [] = (omega arith, omega arith)
put_length x (y ∷ ys) = go (is_name_less x y) (is_name_less y x) (put_length x ys)
  where
    go : (b c : Bool) → (0 < length (put_in is_name_less x ys)) × (length (put_in is_name_less x ys) ≤ suc (length ys))
        → (0 < length (cond b (x ∷ y ∷ ys) (cond c (y ∷ put_in is_name_less x ys) (y ∷ ys)))) × (length (cond b (x ∷ y ∷ ys) (cond c (y ∷ put_in is_name_less x ys) (y ∷ ys))) ≤ suc (length (y ∷ ys)))
    go true c k = (omega arith, omega arith)
    go false true k = (omega arith, omega (arith, k.1))
    go false false k = (omega arith, omega arith)

pub set_some : (xs : List Attribute) → 0 < length xs → 0 < length (set_of is_name_less xs)
set_some [] l = absurd (omega arith)
set_some (x ∷ xs) l = (put_length x (set_of is_name_less xs)).0

pub set_few : (xs : List Attribute) → length (set_of is_name_less xs) ≤ length xs
set_few [] = omega arith
set_few (x ∷ xs) = omega (arith, (put_length x (set_of is_name_less xs)).1, set_few xs)
