-- What is held from the interfaces of a server, as a set of pairs of an interface and an item.
use Rattle.std.specs.Prelude.{ℕ, ◌==◌, not, Bool, List, map, filter}
use Rattle.base.specs.Sets.{set_of}

-- an item that is held from an interface
pub record Holding (T : Type 0) : Type 0 where
  pub interface : ℕ
  pub item : T

module _ {T : Type 0} (before : T → T → Bool) where
  -- the set of the items of the holdings that a test lets pass
  abbrev pub items_where : (Holding T → Bool) → List (Holding T) → List T
  items_where test holdings = set_of before (map (λ h. h.item) (filter test holdings))

  -- what is held from an interface
  abbrev pub held_from : ℕ → List (Holding T) → List T
  held_from interface holdings = items_where (λ h. h.interface == interface) holdings

  -- what is held from the other interfaces
  abbrev pub held_elsewhere : ℕ → List (Holding T) → List T
  held_elsewhere interface holdings = items_where (λ h. not (h.interface == interface)) holdings
