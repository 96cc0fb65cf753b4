-- What a change of a client's own set is, by numbers.
use Rattle.std.specs.Prelude.{◌≡◌, ℕ, ◌<◌, Bool, List, [], ◌∷◌, length}
use Rattle.base.specs.Sets.{Has, union, minus}
use Rattle.base_order.specs.Order.{picked}
use Rattle.server_session.specs.declared.planned.Moved.{Moved}
use Rattle.server_session.specs.declared.planned.Moved.TheVariants.{Nothing, Added, Withdrawn}

-- the numbers that go, and those that come
abbrev pub gone : Moved → List ℕ
gone Nothing = []
gone (Added i) = []
gone (Withdrawn numbers) = numbers

abbrev pub come : Moved → List ℕ
come Nothing = []
come (Added i) = i ∷ []
come (Withdrawn numbers) = []

-- a change turns one set of items into another, and is by numbers of items
pub record IsMoved {T : Type 0} (before : T → T → Bool) (items now next : List T) (moved : Moved) : Type 0 where
  pub turned : union before (picked items (come moved)) (minus before now (picked items (gone moved))) ≡ next
  pub gone_known : (i : ℕ) → Has i (gone moved) → i < length items
  pub come_known : (i : ℕ) → Has i (come moved) → i < length items
