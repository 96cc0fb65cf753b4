-- Defines the count of looks at the ring that found no free place.
use Rattle.std.specs.Prelude.{◌≡◌, ℕ, ◌+◌, ◌%◌, ◌^◌}
use Rattle.thread_lane.specs.declared.fulls.Fulls.{Fulls}

-- how many, below 2 ^ 64
abbrev pub full_count : Fulls → ℕ
full_count f = f.count

-- one more was counted; after 2 ^ 64 - 1 comes 0
abbrev pub IsOneMore : Fulls → Fulls → Type 0
IsOneMore f g = full_count g ≡ (full_count f + 1) % 2 ^ 64
