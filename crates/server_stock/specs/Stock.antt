-- What contracts see of a stock: the items, the interfaces, and the pairs of an interface and an item that is held from it.
use Rattle.std.specs.Prelude.{◌≡◌, ℕ, ◌==◌, not, nat_lt, Bool, List, [], ◌∷◌, ◌++◌, length, map, filter, refl}
use Rattle.std.specs.Coded.{Coded, code_by, coded×, coded_ℕ, coded_list}
use Rattle.base.specs.Sets.{IsRising, member, set_of, roots, minus}
use Rattle.base_bits.specs.Rows.{Numbers}
use Rattle.base_order.specs.Order.{picked}
use Rattle.server_stock.specs.Held.{Held}
use Rattle.server_stock.specs.Sides.{Announced, announced_code, AreSides}
use Rattle.server_stock.specs.declared.sides.Side.{Side}

-- an item that is held from an interface
pub record Holding (T : Type 0) : Type 0 where
  pub interface : ℕ
  pub item : T

abbrev pub holding_code : {T : Type 0} → Coded T → Coded (Holding T)
holding_code {T} code = code_by (ℕ × T) (coded× coded_ℕ code) (λ h. (h.interface, h.item)) (λ p. record { interface = p.0; item = p.1 }) (λ _. refl)

module _ {T : Type 0} (before : T → T → Bool) where
  -- the set of the items of the holdings that a test lets pass
  abbrev pub items_where : (Holding T → Bool) → List (Holding T) → List T
  items_where test holdings = set_of before (map (λ h. h.item) (filter test holdings))

  -- what is held from an interface
  abbrev pub held_from : ℕ → List (Holding T) → List T
  held_from interface holdings = items_where (λ h. h.interface == interface) holdings

  -- what is held from the other interfaces
  abbrev pub held_elsewhere : ℕ → List (Holding T) → List T
  held_elsewhere interface holdings = items_where (λ h. not (h.interface == interface)) holdings

-- the items, the interfaces, of which the links are the first, what is held from them, and for each link the items that are offered there
-- and what the last change announced, by numbers
pub record Stocked (T : Type 0) : Type 0 where
  pub items : List T
  pub interfaces : List ℕ
  pub holdings : List (Holding T)
  pub offered : List (List T)
  pub announced : List Announced

abbrev pub stocked_code : {T : Type 0} → Coded T → Coded (Stocked T)
stocked_code {T} code = code_by ((List T × List ℕ) × (List (Holding T) × (List (List T) × List Announced)))
    (coded× (coded× (coded_list code) (coded_list coded_ℕ))
    (coded× (coded_list (holding_code code)) (coded× (coded_list (coded_list code)) (coded_list announced_code))))
    (λ s. ((s.items, s.interfaces), (s.holdings, (s.offered, s.announced))))
    (λ p. record { items = p.0.0; interfaces = p.0.1; holdings = p.1.0; offered = p.1.1.0; announced = p.1.1.1 }) (λ _. refl)

-- what is needed on a link: what is held from the other interfaces and offered there
abbrev pub needed : {T : Type 0} → (T → T → Bool) → List T → ℕ → List (Holding T) → List T
needed before offered link holdings = filter (λ x. member before x offered) (held_elsewhere before link holdings)

-- what is sent on a link: the roots of what is needed there
abbrev pub sent : {T : Type 0} → (T → T → Bool) → (T → T → Bool) → List T → ℕ → List (Holding T) → List T
sent covers before offered link holdings = roots covers before (needed before offered link holdings)

-- the pairs that the rows of the interfaces represent
abbrev pub pairs_of : {T : Type 0} → List T → List ℕ → List Numbers → List (Holding T)
pairs_of items [] rows = []
pairs_of items (i ∷ is) [] = []
pairs_of items (i ∷ is) (r ∷ rs) = map (λ x. record { interface = i; item = x }) (picked items r.members) ++ pairs_of items is rs

-- the interfaces rise, each has its row, and the first of them are links with their rows
pub record IsStock {T : Type 0} (covers : T → T → Bool) (items : List T) (interfaces : List ℕ) (held : Held) (sides : List Side) : Type 0 where
  pub rising : IsRising nat_lt interfaces
  pub long : length interfaces ≡ length held.rows
  pub links : AreSides covers items held sides

-- what was announced on a link is what has left the items sent on it, and what has joined them
pub record IsAnnounced {T : Type 0} (before : T → T → Bool) (items old new : List T) (announced : Announced) : Type 0 where
  pub withdrawn : picked items announced.withdrawn ≡ minus before old new
  pub added : picked items announced.added ≡ minus before new old
