-- Truth values: which they are, and what they are of.
use Rattle.std.proofs.Common.{◌≡◌, Bool, true, false, not, ◌&&◌, ◌||◌, refl}

pub data Test (b : Bool) : Type 0 where
  Yes : b ≡ true → Test b
  No : b ≡ false → Test b

pub test : (b : Bool) → Test b
test true = Yes refl
test false = No refl

pub both-left : (a b : Bool) → a && b ≡ true → a ≡ true
both-left true b e = refl
both-left false b e = absurd cc

pub both-right : (a b : Bool) → a && b ≡ true → b ≡ true
both-right true b e = e
both-right false b e = absurd cc

pub either-left : (a b : Bool) → a ≡ true → a || b ≡ true
either-left true b e = refl
either-left false b e = absurd cc

pub either-right : (a b : Bool) → b ≡ true → a || b ≡ true
either-right true b e = refl
either-right false b e = e

pub not-now : (b : Bool) → not b ≡ true → b ≡ true → ⊥
not-now true e f = absurd cc
not-now false e f = absurd cc
