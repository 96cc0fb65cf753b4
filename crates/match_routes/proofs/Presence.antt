-- Proves that the numbers whose row has a place are exactly those that are present.
use Rattle.std.proofs.Common.{◌≡◌, ◌≢◌, inl, inr, ℕ, zero, suc, ◌<◌, nat_lt, List, [], ◌∷◌, length, get_or, set, sym, subst, ◌∙◌}
use Rattle.std.proofs.lemmas.Bool.{cases_eq}
use Rattle.std.proofs.lemmas.List.{get_or-set_same, get_or-set_other}
use Rattle.base.specs.Sets.{Has, put_in, minus}
use Rattle.base.proofs.Sets.{has-put_in, minus-iff}
use Rattle.base_bits.specs.Rows.{Numbers}
use Rattle.base_bits.proofs.Passing.{nat_laws}
use Rattle.match_routes.specs.Rows.{AreEmpty}
use Rattle.match_routes.specs.Columns.{ArePresent}
use Rattle.match_routes.proofs.Pairs.{nothing}

-- nothing is present in empty rows
pub none-present : (columns : List Numbers) → AreEmpty columns → (i place : ℕ) → Has place (get_or columns i nothing).members → ⊥
none-present [] e i place h = h
none-present (c ∷ cs) e zero place h = subst (Has place) e.0 h
none-present (c ∷ cs) e (suc i) place h = none-present cs e.1 i place h

module _ (columns : List Numbers) (number : ℕ) (new : Numbers) (known : number < length columns) (width : ℕ) (present : Numbers) (is : ArePresent width present columns) where
  other : (i place : ℕ) → i ≢ number → Has place (get_or (set columns number new) i nothing).members → Has i present.members
  other i place n h = is.each i place (subst (λ (z : Numbers). Has place z.members) (get_or-set_other columns number i new nothing n) h)

  -- a number that gets a place is put in
  pub put-present : (later : Numbers) → later.width ≡ present.width → later.members ≡ put_in nat_lt number present.members → ArePresent width later (set columns number new)
  put-present later wide members = record {
    wide = wide ∙ is.wide;
    each = λ i place h. subst (Has i) (sym members) ((has-put_in nat_laws number i present.members).1 (elim (cases_eq i number) [
      | inl e ↦ inl e
      | inr n ↦ inr (other i place n h)
    ]));
  }

  -- where a row has less, the same are present
  pub less-present : ((place : ℕ) → Has place new.members → Has place (get_or columns number nothing).members) → ArePresent width present (set columns number new)
  less-present less = record {
    wide = is.wide;
    each = λ i place h. elim (cases_eq i number) [
      | inl e ↦
          let g = subst (λ (z : ℕ). Has place (get_or (set columns number new) z nothing).members) e h in
          let l = less place (subst (λ (z : Numbers). Has place z.members) (get_or-set_same columns number new nothing known) g) in
          subst (λ z. Has z present.members) (sym e) (is.each number place l)
      | inr n ↦ other i place n h
    ];
  }

-- what a row has less is in the row that it was
pub less-of : (place : ℕ) (new : Numbers) (column : Numbers) → new.members ≡ minus nat_lt column.members (place ∷ []) → (q : ℕ) → Has q new.members → Has q column.members
less-of place new column is q h = ((minus-iff nat_laws q column.members (place ∷ [])).0 (subst (Has q) is h)).0
