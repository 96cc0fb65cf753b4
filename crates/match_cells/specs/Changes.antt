-- A set of numbers as words, and what it is after some changes: each puts a number in that is no member, or takes a member out.
use Rattle.std.specs.Prelude.{◌≡◌, ◌≢◌, ◌==◌, Bool, ℕ, ◌+◌, ◌*◌, ◌/◌, ◌%◌, ◌^◌, ◌<◌, ◌≤◌, List, length, take, drop, slice_index, slice_set, bit_xor}
use Rattle.std.specs.List.{fold}
use Rattle.base_bits.specs.Words.{bit}

-- the words with one number's bit turned
abbrev pub turned : List ℕ → ℕ → List ℕ
turned words k = slice_set words (k / 64) (bit_xor (slice_index words (k / 64)) (1 * 2 ^ (k % 64) % 2 ^ 64))

-- the words after so many of the changes
abbrev pub after : List ℕ → List ℕ → ℕ → List ℕ
after first changes r = fold turned first (take r changes)

-- the words at the beginning, and the numbers that change
pub record Past : Type 0 where
  pub first : List ℕ
  pub changes : List ℕ

-- each change is of a number that the words have a bit for
abbrev pub AreWithin : ℕ → List ℕ → Type 0
AreWithin span changes = (i : ℕ) → i < length changes → slice_index changes i < 64 * span

-- so many words from a place on
abbrev pub words_at : List ℕ → ℕ → ℕ → List ℕ
words_at words from count = take count (drop from words)

-- so many marks, each of as many words as this span: the words before the first change and behind each 32 more, and now
pub record IsKept (span count : ℕ) (marks now first changes : List ℕ) : Type 0 where
  pub wide : length first ≡ span
  pub present : now ≡ after first changes (length changes)
  pub within : AreWithin span changes
  pub some : 0 < count
  pub long : length marks ≡ count * span
  pub past : count * 32 ≤ length changes + 32
  pub marked : (s : ℕ) → s < count → words_at marks (s * span) span ≡ after first changes (s * 32)

-- the words now
abbrev pub present : Past → List ℕ
present h = after h.first h.changes (length h.changes)

-- what was before is as before
pub record Continues (old new : Past) : Type 0 where
  pub first : new.first ≡ old.first
  pub longer : length old.changes ≤ length new.changes
  pub same : (r : ℕ) → r ≤ length old.changes → after new.first new.changes r ≡ after old.first old.changes r

-- the words now with one number in the set or out of it
pub record IsPut (k : ℕ) (is : Bool) (old new : Past) : Type 0 where
  pub continues : Continues old new
  pub there : (bit (present new) k == 1) ≡ is
  pub others : (i : ℕ) → i ≢ k → bit (present new) i ≡ bit (present old) i
