-- What is kept for a link: the numbers that are offered there, those of them that it needs, the roots of these, and what the last change
-- withdrew from the roots and added to them.
use Rattle.std.specs.Prelude.{◌≡◌, ℕ, ◌≤◌, Bool, nat_lt, true, List, [], length, slice_get, Some, refl}
use Rattle.std.specs.Coded.{Coded, code_by, coded×, coded_ℕ, coded_list}
use Rattle.base.specs.Sets.{Has, minus}
use Rattle.base_bits.specs.Rows.{Numbers}
use Rattle.base_order.specs.Order.{root_numbers, picked}
use Rattle.base_order.specs.Columns.{full_row}
use Rattle.server_stock.specs.Held.{Held, wanted, wanted_numbers}
use Rattle.server_stock.specs.declared.sides.Side.{Side}

-- what a change withdrew from the roots of a link, and what it added
pub record Announced : Type 0 where
  pub withdrawn : List ℕ
  pub added : List ℕ

abbrev pub announced_code : Coded Announced
announced_code = code_by (List ℕ × List ℕ) (coded× (coded_list coded_ℕ) (coded_list coded_ℕ)) (λ t. (t.withdrawn, t.added))
    (λ p. record { withdrawn = p.0; added = p.1 }) (λ _. refl)

abbrev pub announced_of : Side → Announced
announced_of s = record { withdrawn = s.withdrawn.members; added = s.added.members }

-- the items offered at a link
abbrev pub offered_at : {T : Type 0} → List T → Side → List T
offered_at items s = picked items s.offered.members

-- what changes from some numbers to others
abbrev pub announced_from : List ℕ → List ℕ → Announced
announced_from old new = record { withdrawn = minus nat_lt old new; added = minus nat_lt new old }

-- each row of a link has the width
pub record IsWide (width : ℕ) (s : Side) : Type 0 where
  pub offered : s.offered.width ≡ width
  pub need : s.need.width ≡ width
  pub roots : s.roots.width ≡ width
  pub withdrawn : s.withdrawn.width ≡ width
  pub added : s.added.width ≡ width

module _ {T : Type 0} (covers : T → T → Bool) (items : List T) where
  -- the numbers sent on the link at a place: the roots of those that are held from other places and offered there
  abbrev pub sent_numbers : List ℕ → List Numbers → ℕ → List ℕ
  sent_numbers offered rows p = root_numbers covers items (wanted_numbers (length items) offered rows p)

  -- the rows of a link, once these are the rows that are held and what is offered there
  abbrev pub turned : Numbers → List Numbers → ℕ → Side → Side
  turned offered rows p s =
      record {
        offered = offered;
        need = record { width = length items; members = wanted_numbers (length items) offered.members rows p };
        roots = record { width = length items; members = sent_numbers offered.members rows p };
        withdrawn = record { width = length items; members = minus nat_lt s.roots.members (sent_numbers offered.members rows p) };
        added = record { width = length items; members = minus nat_lt (sent_numbers offered.members rows p) s.roots.members };
      }

  -- a link's rows are those that it needs and sends
  pub record IsSide (rows : List Numbers) (p : ℕ) (s : Side) : Type 0 where
    pub wide : IsWide (length items) s
    pub need : s.need.members ≡ wanted_numbers (length items) s.offered.members rows p
    pub roots : s.roots.members ≡ sent_numbers s.offered.members rows p

  -- a link's rows are to be brought up to these rows: its roots are those of its need, only numbers of `out` have left this since, and only
  -- numbers of `add` have joined it
  pub record IsDue (rows : List Numbers) (out add : List ℕ) (p : ℕ) (s : Side) : Type 0 where
    pub wide : IsWide (length items) s
    pub known : s.roots.members ≡ root_numbers covers items s.need.members
    pub kept : (k : ℕ) → Has k s.need.members → (Has k out → ⊥) → wanted s.offered.members rows p k ≡ true
    pub fresh : (k : ℕ) → wanted s.offered.members rows p k ≡ true → (Has k add → ⊥) → Has k s.need.members

  -- each link has its rows, and is one of the places; what is held has a number for each item
  pub record AreSides (held : Held) (sides : List Side) : Type 0 where
    pub width : held.width ≡ length items
    pub few : length sides ≤ length held.rows
    pub each : (p : ℕ) (s : Side) → slice_get sides p ≡ Some s → IsSide held.rows p s

-- the rows of a link where all is offered and nothing needed
abbrev pub empty_side : ℕ → Side
empty_side width =
    let empty : Numbers = record { width = width; members = [] } in
    record { offered = full_row width; need = empty; roots = empty; withdrawn = empty; added = empty }
