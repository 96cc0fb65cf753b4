-- What the members of a set are that is listed, or shown by words.
use Rattle.std.proofs.Common.{◌≡◌, ◌≢◌, ◌↔◌, ℕ, nat_lt, List, [], ◌∷◌, length, refl, sym, ap, subst, ◌∙◌, arith}
use Rattle.base.specs.Sets.{Has, IsRising}
use Rattle.base_bits.specs.Words.{bit, members_of, IsPickedByBoth, IsPickedByList, IsPickedOf}
use Rattle.base_bits.specs.Rows.{Numbers, IsSet, IsKept}
use Rattle.base_bits.specs.Sets.{members_by, set_by, IsSetBy}
use Rattle.base_bits.proofs.Rows.{Shows, is-set, has-bit, bit-has, members-eq}
use Rattle.base_bits.proofs.Lists.{listed-members}

some-word : {word : ℕ} {words : List ℕ} → word ∷ words ≢ []
some-word e = absurd (grind (arith, e))

-- where there are words they show the set
pub shown : (list words : List ℕ) (width : ℕ) → IsSetBy list words width → words ≢ [] → Shows words width (set_by list words width)
shown list [] width is n = absurd (n refl)
shown list (word ∷ words) width is n = record { kept = is.kept n; view = refl }

pub set-by : (list words : List ℕ) (width : ℕ) → IsSetBy list words width → IsSet (set_by list words width)
set-by list [] width is = record { rising = is.rising; within = is.within; fits = is.fits }
set-by list (word ∷ words) width is = is-set (shown list (word ∷ words) width is some-word)

-- no words show a set of no width
pub members-shown : (words : List ℕ) (width : ℕ) → IsKept words width → members_by [] words width ≡ members_of words width
members-shown [] width is = let e : width ≡ 0 = omega (arith, is.long) in sym (ap (members_of []) e)
members-shown (word ∷ words) width is = refl

module _ {others : List ℕ} {t : Numbers} (that : Shows others t.width t) (words : List ℕ) (from : ℕ) where
  pub picked-listed : (list : List ℕ) (q : ℕ) → IsPickedByList words from list others q ↔ IsPickedOf words from list t.members q
  picked-listed list q = ((λ h. (h.0, h.1, bit-has that h.0 h.2, h.3)), (λ h. (h.0, h.1, has-bit that h.0 h.2, h.3)))

  pub picked-shown : {own : List ℕ} {s : Numbers} → Shows own s.width s → (q : ℕ) → IsPickedByBoth words from own others q ↔ IsPickedOf words from s.members t.members q
  picked-shown is q = ((λ h. (h.0, bit-has is h.0 h.1, bit-has that h.0 h.2, h.3)), (λ h. (h.0, has-bit is h.0 h.1, has-bit that h.0 h.2, h.3)))

module _ (list words : List ℕ) (width : ℕ) where
  -- without words the members are listed
  pub set-listed : length words ≡ 0 → set_by list words width ≡ record { width = width; members = list }
  set-listed = go words
    where
      go : (ws : List ℕ) → length ws ≡ 0 → set_by list ws width ≡ record { width = width; members = list }
      go [] e = refl
      go (word ∷ ws) e = absurd (omega (arith, e))

  -- a set that is seen, by its words
  pub seen-shown : (s : Numbers) → IsSetBy list words width → set_by list words width ≡ s → length words ≢ 0 → Shows words s.width s
  seen-shown s is view some = subst (λ (z : Numbers). Shows words z.width z) view (shown list words width is (λ e. some (ap length e)))

  -- the numbers of the words are its members
  pub words-members : (s : Numbers) (numbers : List ℕ) → IsSetBy list words width → set_by list words width ≡ s → length words ≢ 0 → IsRising nat_lt numbers → ((i : ℕ) → Has i numbers ↔ (bit words i ≡ 1)) → numbers ≡ s.members
  words-members s numbers is view some rising exact =
      let that = seen-shown s is view some in
      sym (listed-members words s.width numbers that.kept rising exact) ∙ members-eq that
