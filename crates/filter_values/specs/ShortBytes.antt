-- What bytes are kept, in the value itself or apart.
use Rattle.std.specs.Prelude.{ℕ, ◌≤◌, List, take}
use Rattle.filter_values.specs.declared.short_bytes.Store.{Store}
use Rattle.filter_values.specs.declared.short_bytes.Store.TheVariants.{Inside, Apart}

-- the bytes that are kept
abbrev pub stored : Store → List ℕ
stored (Inside count bytes) = take count bytes
stored (Apart bytes) = bytes.items

-- the count of what lies inside is at most the places
abbrev pub IsStore : Store → Type 0
IsStore (Inside count bytes) = count ≤ 30
IsStore (Apart bytes) = Unit {0}
