-- THE RULE OF THE MARK'S WORD, and what each step on it tells the end that makes it (`View` says what each part of an end's view is). So it says when a miss
-- is counted: these outcomes are part of what the lane's contracts say.
use Rattle.std.specs.Prelude.{◌≡◌, ℕ, ◌+◌, ◌≤◌, true, false, List, slice_index, length}
use mathlib.Core.Option.{some}
use lib.ListN.{get_elem?}
use Rattle.atomic_table.specs.Table.{State, Me}
use Rattle.thread_lane.specs.declared.mark.View.{View}

-- the view of the end that puts: it has pushed n items
abbrev pub putter : ℕ → View
putter n = record { puts = true; count = n; misses = 0 }

-- the view of the end that takes: the mark showed it n last, and it counted m misses
abbrev pub taker : ℕ → ℕ → View
taker n m = record { puts = false; count = n; misses = m }

-- WHAT AN END KNOWS HOLDS: the word is the putting end's number, and at least the number that was shown
pub record FitsWord (word : ℕ) (v : View) : Type 0 where
  pub is_its : v.puts ≡ true → v.count ≡ word
  pub no_more : v.count ≤ word

-- the end k has the view v
abbrev pub HasEndView : State (Unit {0}) View → ℕ → View → Type 0
HasEndView s k v = get_elem? s.views k ≡ some v

-- THE RULE: there is one word, which fits each view, and just one end puts
pub record Marked (s : State (Unit {0}) View) : Type 0 where
  pub one_word : length s.words ≡ 1
  pub fit : (k : ℕ) (v : View) → HasEndView s k v → FitsWord (slice_index s.words 0) v
  pub one_puts : (j k : ℕ) (v w : View) → HasEndView s j v → HasEndView s k w → v.puts ≡ true → w.puts ≡ true → j ≡ k

-- WHAT AN END HAS at a step: its view, and the slots that it took, of which a mark has none
abbrev pub view_of : Me (Unit {0}) View → View
view_of m = m.0

abbrev pub slots_of : Me (Unit {0}) View → List (ℕ × Unit {0})
slots_of m = m.1

-- WHAT THE STORE TELLS: the word is the number of items that were pushed
pub record Raised (pushed : ℕ) (before after : Me (Unit {0}) View) : Type 0 where
  pub view : view_of after ≡ putter pushed
  pub slots : slots_of after ≡ slots_of before

-- WHAT A LOOK AT THE WORD TELLS an end that has had so many items: one more miss where it finds just that number, else only what it shows
pub record Looked (had : ℕ) (before : Me (Unit {0}) View) (found : ℕ) (after : Me (Unit {0}) View) : Type 0 where
  pub all_had : found ≡ had → view_of after ≡ taker found ((view_of before).misses + 1)
  pub more : ¬ (found ≡ had) → view_of after ≡ taker found (view_of before).misses
  pub slots : slots_of after ≡ slots_of before
