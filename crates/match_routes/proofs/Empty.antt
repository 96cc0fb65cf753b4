-- Lemmas on rows that have no member.
use Rattle.std.proofs.Common.{ℕ, zero, suc, ◌<◌, ◌^◌, [], replicate, refl}
use Rattle.match_routes.specs.Rows.{AreSets, AreEmpty}

pub empty-rows : (n width : ℕ) → AreEmpty (replicate n (record { width = width; members = [] }))
empty-rows zero width = tt
empty-rows (suc n) width = (refl, empty-rows n width)

pub sets-rows : (n width : ℕ) → width < 2 ^ 32 → AreSets width (replicate n (record { width = width; members = [] }))
sets-rows zero width l = tt
sets-rows (suc n) width l = (record { rising = tt; within = λ i h. absurd h; fits = l }, refl, sets-rows n width l)
