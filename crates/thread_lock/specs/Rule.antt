-- THE RULE OF THE LOCK, over plain data: a table with one word, one slot, and a view for each pass (`View` says what each part of a view is).
-- What each step tells its pass stands here too, and so when a pass counts a miss: these outcomes are part of what the lock's contracts say.
use Rattle.std.specs.Prelude.{◌≡◌, ℕ, ◌+◌, ◌-◌, ◌<◌, ◌⊎◌, true, false, List, [], ◌∷◌, ◌++◌, length, slice_index, Option, Some, None}
use mathlib.Core.List.{IsPrefix}
use mathlib.Core.Option.{some}
use lib.ListN.{get_elem?}
use Rattle.atomic_table.specs.Table.{State, Me, rest}
use Rattle.atomic_table.specs.Seated.{TableId}
use Rattle.atomic_table.specs.declared.shared.Seat.{Seat}
use Rattle.thread_lock.specs.declared.view.View.{View}

-- each of the lists is a prefix of xs
abbrev pub EachBegins : {I : Type 0} → List I → List (List I) → Type 0
EachBegins xs [] = Unit {0}
EachBegins xs (l ∷ ls) = IsPrefix l xs × EachBegins xs ls

module _ {I R : Type 0} where
  -- the first view, at the making: it knows root and list, and has as many parts as there will be passes
  abbrev pub opener : R → List I → ℕ → View I R
  opener root list passes = record { number = 0; root = Some root; seen = list; joined = []; parts = passes; hand = false; out = false; misses = 0 }

  -- the view of no pass, which is also what is left of a pass that was joined
  abbrev pub nobody : View I R
  nobody = record { number = 0; root = None; seen = []; joined = []; parts = 0; hand = false; out = false; misses = 0 }

  -- a new pass is split off: it has the number and one part, and the first view goes on to the next number
  abbrev pub stays : View I R → View I R
  stays v = record v { number = v.number + 1; parts = v.parts - 1 }

  abbrev pub branch : View I R → View I R
  branch v = record v { joined = []; parts = 1; hand = false; out = false; misses = 0 }

  -- a pass takes in another: its parts, and what it and those that it took in had seen
  abbrev pub united : View I R → View I R → View I R
  united v w = record v { joined = v.joined ++ (w.seen ∷ w.joined); parts = v.parts + w.parts }

  -- a miss was counted
  abbrev pub missed : View I R → View I R
  missed v = record v { misses = v.misses + 1 }

  -- the value was taken, with this list, and the slot with it
  abbrev pub took : View I R → List I → View I R
  took v list = record v { seen = list; hand = true; out = true }

  -- the value was put back, with this list
  abbrev pub gave : View I R → List I → View I R
  gave v list = record v { seen = list; hand = false; out = false }

  -- the slot was laid back empty
  abbrev pub laid : View I R → View I R
  laid v = record v { out = false }

  -- the empty slot was taken again
  abbrev pub lifted : View I R → View I R
  lifted v = record v { out = true }

  -- the view of a badge
  abbrev pub view_in : List (View I R) → View I R
  view_in [] = nobody
  view_in (v ∷ vs) = v

  -- f of each view, added up
  abbrev pub total : (View I R → ℕ) → List (View I R) → ℕ
  total f [] = 0
  total f (v ∷ vs) = f v + total f vs

  -- WHAT A VIEW KNOWS HOLDS, where front is the list that the value has, or had when it was taken: a pass that was not joined knows the root; and what it
  -- has seen, and what the passes that it took in had seen, begins front
  pub record Fits (root : R) (front : List I) (v : View I R) : Type 0 where
    pub knows : 0 < v.parts → v.root ≡ Some root
    pub saw : IsPrefix v.seen front
    pub joined_saw : EachBegins front v.joined

  -- the pass k has the view v
  abbrev pub HasView : {T : Type 0} → State (Option T) (View I R) → ℕ → View I R → Type 0
  HasView s k v = get_elem? s.views k ≡ some v

  -- what lies in the slot: a value, or none
  abbrev pub Lies : {T : Type 0} → State (Option T) (View I R) → Option T → Type 0
  Lies s x = get_elem? s.homes 0 ≡ some (some x)

  -- WHAT A PASS HAS at a step: its view, and the slots that it took, the last one first, each with what lay in it
  abbrev pub view_of : {T : Type 0} → Me (Option T) (View I R) → View I R
  view_of m = m.0

  abbrev pub slots_of : {T : Type 0} → Me (Option T) (View I R) → List (ℕ × Option T)
  slots_of m = m.1

module _ {T I R : Type 0} (root_of : T → R) (list_of : T → List I) where
  -- AT HOME: the word is 0, the value lies in the slot, and nobody has it in hand
  pub record Home (root : R) (front : List I) (s : State (Option T) (View I R)) : Type 0 where
    pub word : slice_index s.words 0 ≡ 0
    pub value : T
    pub lies : Lies s (Some value)
    pub has_root : root_of value ≡ root
    pub has_list : list_of value ≡ front
    pub nobody_has : (k : ℕ) (v : View I R) → HasView s k v → v.hand ≡ false

  -- IN HAND: the word is 1, and just one pass, which was not joined, has the value in hand and has seen its list; the slot is out with it, or lies there empty
  pub record Away (front : List I) (s : State (Option T) (View I R)) : Type 0 where
    pub word : slice_index s.words 0 ≡ 1
    pub holder : ℕ
    pub view : View I R
    pub is_its : HasView s holder view
    pub has : view.hand ≡ true
    pub lives : 0 < view.parts
    pub saw : view.seen ≡ front
    pub is_empty : view.out ≡ false → Lies s None
    pub only : (k : ℕ) (v : View I R) → HasView s k v → v.hand ≡ true → k ≡ holder

  -- THE RULE: the passes have as many parts as there were passes at first; what each knows holds; and the value is at home or in one hand
  pub record Kept (root : R) (passes : ℕ) (s : State (Option T) (View I R)) : Type 0 where
    pub one_word : length s.words ≡ 1
    pub parts : total (λ v. v.parts) s.views ≡ passes
    pub front : List I
    pub fit : (k : ℕ) (v : View I R) → HasView s k v → Fits root front v
    pub place : Home root front s ⊎ Away front s

  -- THE VALUE WAS TAKEN, with its slot: it has the root, and its list begins with what the pass had seen
  pub record Took (before after : Me (Option T) (View I R)) : Type 0 where
    pub value : T
    pub view : view_of after ≡ took (view_of before) (list_of value)
    pub slots : slots_of after ≡ (0, Some value) ∷ slots_of before
    pub has_root : (view_of before).root ≡ Some (root_of value)
    pub further : IsPrefix (view_of before).seen (list_of value)

  -- A MISS: the pass had nothing in hand, so another one has the value; one more miss, and nothing else
  pub record Missed (before after : Me (Option T) (View I R)) : Type 0 where
    pub free : (view_of before).hand ≡ false
    pub view : view_of after ≡ missed (view_of before)
    pub slots : slots_of after ≡ slots_of before

  -- WHAT THE EXCHANGE OF A TAKE TELLS: where it found 0 the value was taken, and else it is a miss
  pub record Taken (before : Me (Option T) (View I R)) (found : ℕ) (after : Me (Option T) (View I R)) : Type 0 where
    pub at_home : found ≡ 0 → Took before after
    pub away : ¬ (found ≡ 0) → Missed before after

module _ {T I : Type 0} (list_of : T → List I) where
  abbrev pub list_in : Option T → List I
  list_in None = []
  list_in (Some x) = list_of x

  -- the list of the value in the slot that was taken last
  abbrev pub carried_list : List (ℕ × Option T) → List I
  carried_list [] = []
  carried_list (x ∷ xs) = list_in x.1

module _ {T I R : Type 0} (list_of : T → List I) where
  -- WHAT THE STORE OF A PUT TELLS: the value went back with its slot, and the pass has seen its list
  pub record PutBack (before after : Me (Option T) (View I R)) : Type 0 where
    pub view : view_of after ≡ gave (view_of before) (carried_list list_of (slots_of before))
    pub slots : slots_of after ≡ rest (slots_of before)

module _ {T I R : Type 0} where
  -- the slot went back empty, and the value stays in hand
  pub record Laid (before after : Me (Option T) (View I R)) : Type 0 where
    pub view : view_of after ≡ laid (view_of before)
    pub slots : slots_of after ≡ rest (slots_of before)

  -- the empty slot is out with the pass again
  pub record Lifted (before after : Me (Option T) (View I R)) : Type 0 where
    pub view : view_of after ≡ lifted (view_of before)
    pub slots : slots_of after ≡ (0, None) ∷ slots_of before

module _ {I R : Type 0} where
  -- the seat of the first view, of which so many passes of all were split off
  pub record IsFirst {T : Type 0} (table : TableId) (root : R) (list : List I) (passes split : ℕ) (seat : Seat (Option T) (View I R)) : Type 0 where
    pub seated : seat.table_id ≡ table
    pub view : view_of seat.me ≡ record (opener root list passes) { number = split; parts = passes - split }
    pub bare : slots_of seat.me ≡ []
