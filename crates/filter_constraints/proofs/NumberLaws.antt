-- Covering of forms of numbers is what the forms allow.
use Rattle.std.proofs.Common.{inl, inr, ◌⊎◌, ◌≡◌, ℤ, true, arith}
use Rattle.std.proofs.lemmas.Int.{ints}
use Rattle.filter_constraints.specs.Numbers.{Numbers, number_allows, number_covers, number_compatible, IsWithin, IsWide, IsNumberForm}
use Rattle.filter_constraints.specs.Numbers.Numbers.{empty, all, equal, unequal, at_most, at_least}

-- the number that a form names
abbrev mark : ℤ → Numbers → ℤ
mark least empty = least
mark least all = least
mark least (equal u) = u
mark least (unequal u) = u
mark least (at_most u) = u
mark least (at_least u) = u

abbrev Passes : Numbers → Numbers → ℤ → Type 0
Passes k m x = number_allows m x ≡ true → number_allows k x ≡ true

mark-IsWithin : (least greatest : ℤ) (k : Numbers) → IsWide least greatest → IsNumberForm least greatest k → IsWithin least greatest (mark least k)
mark-IsWithin least greatest empty w i = record { low = omega (arith, ints); high = omega (arith, ints) }
mark-IsWithin least greatest all w i = record { low = omega (arith, ints); high = omega (arith, ints) }
mark-IsWithin least greatest (equal u) w i = i
mark-IsWithin least greatest (unequal u) w i = record { low = omega (arith, ints); high = omega (arith, ints) }
mark-IsWithin least greatest (at_most u) w i = record { low = omega (arith, ints); high = omega (arith, ints) }
mark-IsWithin least greatest (at_least u) w i = record { low = omega (arith, ints); high = omega (arith, ints) }

-- four numbers tell
four : (least greatest : ℤ) (k m : Numbers) → IsWide least greatest → IsNumberForm least greatest k → IsNumberForm least greatest m → Passes k m least → Passes k m greatest → Passes k m (mark least k) → Passes k m (mark least m) → number_covers k m ≡ true
four least greatest k m w i j a b c d = grind (arith, ints)

pub complete : (least greatest : ℤ) (k m : Numbers) → IsWide least greatest → IsNumberForm least greatest k → IsNumberForm least greatest m → ((x : ℤ) → IsWithin least greatest x → Passes k m x) → number_covers k m ≡ true
complete least greatest k m w i j h =
    let low : IsWithin least greatest least = record { low = omega (arith, ints); high = omega (arith, ints) } in
    let high : IsWithin least greatest greatest = record { low = omega (arith, ints); high = omega (arith, ints) } in
    four least greatest k m w i j (h least low) (h greatest high) (h (mark least k) (mark-IsWithin least greatest k w i)) (h (mark least m) (mark-IsWithin least greatest m w j))

abbrev Both : Numbers → Numbers → ℤ → Type 0
Both k m x = (number_allows k x ≡ true) × (number_allows m x ≡ true)

-- one of four numbers meets both
one_of_four : (least greatest : ℤ) (k m : Numbers) → IsWide least greatest → IsNumberForm least greatest k → IsNumberForm least greatest m → number_compatible k m ≡ true → Both k m least ⊎ Both k m greatest ⊎ Both k m (mark least k) ⊎ Both k m (mark least m)
one_of_four least greatest k m w i j a = grind (arith, ints)

pub exact : (least greatest : ℤ) (k m : Numbers) → IsWide least greatest → IsNumberForm least greatest k → IsNumberForm least greatest m → number_compatible k m ≡ true → (x : ℤ) × IsWithin least greatest x × (number_allows k x ≡ true) × (number_allows m x ≡ true)
exact least greatest k m w i j a =
    let low : IsWithin least greatest least = record { low = omega (arith, ints); high = omega (arith, ints) } in
    let high : IsWithin least greatest greatest = record { low = omega (arith, ints); high = omega (arith, ints) } in
    elim (one_of_four least greatest k m w i j a) [
      | inl b ↦ (least, low, b.0, b.1)
      | inr r ↦ elim r [
        | inl b ↦ (greatest, high, b.0, b.1)
        | inr s ↦ elim s [
          | inl b ↦ (mark least k, mark-IsWithin least greatest k w i, b.0, b.1)
          | inr b ↦ (mark least m, mark-IsWithin least greatest m w j, b.0, b.1)
        ]
      ]
    ]

pub sound : (k m : Numbers) (x : ℤ) → number_covers k m ≡ true → number_allows m x ≡ true → number_allows k x ≡ true
sound k m x h j = grind (arith, ints)

pub reflexive : (k : Numbers) → number_covers k k ≡ true
reflexive k = grind (arith, ints)

pub transitive : (k m n : Numbers) → number_covers k m ≡ true → number_covers m n ≡ true → number_covers k n ≡ true
transitive k m n h j = grind (arith, ints)

pub never_wrong : (k m : Numbers) (x : ℤ) → number_allows k x ≡ true → number_allows m x ≡ true → number_compatible k m ≡ true
never_wrong k m x h j = grind (arith, ints)
