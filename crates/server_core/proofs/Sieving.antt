-- Numbers that pass a test, one after the other.
use Rattle.std.proofs.Common.{◌≡◌, ◌↔◌, inl, inr, ℕ, ◌+◌, ◌<◌, Bool, true, false, List, [], ◌∷◌, ◌++◌, length, take, get_or, slice_get, Some, refl, sym, subst, ◌∙◌, add-one}
use mathlib.Core.Bool.{beq}
use Rattle.base.specs.Sets.{Has}
use Rattle.base_bits.proofs.Passing.{has-push, push-old, push-new}
use Rattle.server_stock.proofs.Turns.{get-some}
use Rattle.server_core.specs.Due.{IsHeldAt, IsHeldAs}
use Rattle.server_core.proofs.Going.{got-number}
use Rattle.base.proofs.Lists.{take-suc-some}
use Rattle.std.proofs.lemmas.Bool.{false≢true}

-- the numbers of a list are those seen that pass
abbrev pub Sieved : (ℕ → Type 0) → List ℕ → List ℕ → Type 0
Sieved P seen list = (k : ℕ) → Has k list ↔ (Has k seen × P k)

next : (numbers : List ℕ) (i : ℕ) → i < length numbers → take (i + 1) numbers ≡ take i numbers ++ get_or numbers i 0 ∷ []
next numbers i l = rw add-one (take-suc-some numbers i (get_or numbers i 0) (got-number numbers i l))

pub sieve-none : (P : ℕ → Type 0) (list : List ℕ) → list ≡ [] → Sieved P [] list
sieve-none P list e k = (λ h. absurd (subst (Has k) e h), λ h. absurd h.0)

pub sieve-yes : (P : ℕ → Type 0) (numbers list : List ℕ) (i : ℕ) → i < length numbers → Sieved P (take i numbers) list → P (get_or numbers i 0) → Sieved P (take (i + 1) numbers) (list ++ get_or numbers i 0 ∷ [])
sieve-yes P numbers list i l s passes k = (to, from)
  where
    n : ℕ
    n = get_or numbers i 0

    to : Has k (list ++ get_or numbers i 0 ∷ []) → Has k (take (i + 1) numbers) × P k
    to h = elim (has-push k (get_or numbers i 0) list h) [
      | inl m ↦ let w = (s k).0 m in (subst (Has k) (sym (next numbers i l)) (push-old k (get_or numbers i 0) (take i numbers) w.0), w.1)
      | inr q ↦ (subst (Has k) (sym (next numbers i l)) (subst (λ z. Has z (take i numbers ++ get_or numbers i 0 ∷ [])) (sym q) (push-new (get_or numbers i 0) (take i numbers))), subst P (sym q) passes)
    ]

    from : Has k (take (i + 1) numbers) × P k → Has k (list ++ get_or numbers i 0 ∷ [])
    from h = elim (has-push k (get_or numbers i 0) (take i numbers) (subst (Has k) (next numbers i l) h.0)) [
      | inl m ↦ push-old k (get_or numbers i 0) list ((s k).1 (m, h.1))
      | inr q ↦ subst (λ z. Has z (list ++ get_or numbers i 0 ∷ [])) (sym q) (push-new (get_or numbers i 0) list)
    ]

pub sieve-no : (P : ℕ → Type 0) (numbers list : List ℕ) (i : ℕ) → i < length numbers → Sieved P (take i numbers) list → (P (get_or numbers i 0) → ⊥) → Sieved P (take (i + 1) numbers) list
sieve-no P numbers list i l s fails k = (to, from)
  where
    to : Has k list → Has k (take (i + 1) numbers) × P k
    to h = let w = (s k).0 h in (subst (Has k) (sym (next numbers i l)) (push-old k (get_or numbers i 0) (take i numbers) w.0), w.1)

    from : Has k (take (i + 1) numbers) × P k → Has k list
    from h = elim (has-push k (get_or numbers i 0) (take i numbers) (subst (Has k) (next numbers i l) h.0)) [
      | inl m ↦ (s k).1 (m, h.1)
      | inr q ↦ absurd (fails (subst P q h.1))
    ]

-- whether the item of a number is held
module _ {T : Type 0} (items held : List T) (n : ℕ) (b : Bool) (there : n < length items) (iff : (x : T) → slice_get items n ≡ Some x → (b ≡ true) ↔ Has x held) where
  is-held : b ≡ true → IsHeldAt items held n
  is-held e = let x = get-some items n there in record { item = x.0; at = x.1; is_held = (iff x.0 x.1).0 e }

  not-held : b ≡ false → IsHeldAt items held n → ⊥
  not-held e h = false≢true (sym e ∙ (iff h.item h.at).1 h.is_held)

-- and whether that is what is asked
module _ {T : Type 0} (items held : List T) (n : ℕ) where
  pub held-as : (b want : Bool) → n < length items → ((x : T) → slice_get items n ≡ Some x → (b ≡ true) ↔ Has x held) → beq b want ≡ true → IsHeldAs want items held n
  held-as true true there iff e = is-held items held n true there iff refl
  held-as false true there iff e = absurd (false≢true e)
  held-as true false there iff e = absurd (false≢true e)
  held-as false false there iff e = not-held items held n false there iff refl

  pub held-else : (b want : Bool) → n < length items → ((x : T) → slice_get items n ≡ Some x → (b ≡ true) ↔ Has x held) → beq b want ≡ false → IsHeldAs want items held n → ⊥
  held-else true true there iff e h = false≢true (sym e)
  held-else false true there iff e h = not-held items held n false there iff refl h
  held-else true false there iff e h = h (is-held items held n true there iff refl)
  held-else false false there iff e h = false≢true (sym e)
