-- What a contract sees of a lock and of its passes.
use Rattle.std.specs.Prelude.{◌≡◌, ℕ, Bool, false, List, Some}
use Rattle.thread_lock.specs.declared.lock.Pass.{Pass}
use Rattle.thread_lock.specs.declared.lock.TurnLock.{TurnLock}
use Rattle.thread_lock.specs.Rule.{view_in}

module _ {I R : Type 0} where
  -- the number that the pass was given when the lock was made
  abbrev pub pass_number : Pass I R → ℕ
  pass_number p = (view_in p.badge.views).number

  -- the list of the value, as far as this pass has seen it
  abbrev pub seen_by : Pass I R → List I
  seen_by p = (view_in p.badge.views).seen

  -- whether the pass has the value in hand
  abbrev pub has_in_hand : Pass I R → Bool
  has_in_hand p = (view_in p.badge.views).hand

  -- how often the pass found that another one has the value in hand
  abbrev pub pass_misses : Pass I R → ℕ
  pass_misses p = (view_in p.badge.views).misses

  -- it is the same pass, later
  abbrev pub IsSamePass : Pass I R → Pass I R → Type 0
  IsSamePass p q = (q.badge.table_id ≡ p.badge.table_id) × ((view_in q.badge.views).root ≡ (view_in p.badge.views).root) × (pass_number q ≡ pass_number p)

  -- a pass that has seen this list, has nothing in hand and counted no miss
  abbrev pub IsFresh : List I → Pass I R → Type 0
  IsFresh l p = (seen_by p ≡ l) × (has_in_hand p ≡ false) × (pass_misses p ≡ 0)

module _ {T I R : Type 0} where
  -- the value with which the lock was made
  abbrev pub first_value : TurnLock T R I → T
  first_value lock = lock.table.shared.key.value.value

  -- how many passes were made
  abbrev pub pass_count : TurnLock T R I → ℕ
  pass_count lock = lock.table.shared.key.passes

  -- the pass is one of this lock's, and knows its root
  abbrev pub IsPassOf : (T → R) → TurnLock T R I → Pass I R → Type 0
  IsPassOf root lock p = (p.badge.table_id ≡ lock.table.shared.table_id) × ((view_in p.badge.views).root ≡ Some (root (first_value lock)))
