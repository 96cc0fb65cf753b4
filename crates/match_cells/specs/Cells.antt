-- Cells: values below the first operand, at it, between it and the second one, at the second, and so on.
use Rattle.std.specs.Prelude.{◌≡◌, ◌↔◌, ℕ, zero, suc, ◌+◌, ◌*◌, ◌<◌, ◌≤◌, List, [], ◌∷◌, Vec, length, slice_index, slice_index_or}
use Rattle.std.specs.List.{sum_by}
use Rattle.std.specs.declared.alloc.Global.{Global}
use Rattle.base_bits.specs.Words.{bit}
use Rattle.match_cells.specs.Changes.{Past, after}
use Rattle.match_cells.specs.declared.ask.Ask.{Ask}
use Rattle.match_cells.specs.declared.ask.Side.TheVariants as sides
use Rattle.match_cells.specs.Asks.{missed, own}

-- the asks at each operand, which rise
abbrev pub Groups : Type 0
Groups = List (Vec Ask Global)

-- how many asks of a filter are not met in a cell
abbrev pub lost_in : ℕ → Groups → ℕ → ℕ
lost_in k [] cell = 0
lost_in k (g ∷ gs) zero = missed sides.Below k g.items + lost_in k gs zero
lost_in k (g ∷ gs) (suc zero) = missed sides.At k g.items + lost_in k gs zero
lost_in k (g ∷ gs) (suc (suc cell)) = missed sides.Above k g.items + lost_in k gs cell

-- how many asks a filter has in all
abbrev pub asked : ℕ → Groups → ℕ
asked k groups = sum_by (λ (g : Vec Ask Global). own k g.items) groups

-- how many asks there are
abbrev pub total : Groups → ℕ
total groups = sum_by (λ (g : Vec Ask Global). length g.items) groups

-- the filter asks something, and all of it is met in the cell
abbrev pub IsMet : Groups → ℕ → ℕ → Type 0
IsMet groups cell k = (0 < asked k groups) × (lost_in k groups cell ≡ 0)

-- each ask is of a filter that has a bit in so many words
abbrev pub AreKnown : ℕ → Groups → Type 0
AreKnown span groups =
    (d : Vec Ask Global) (e : Ask) (c i : ℕ) → c < length groups → i < length (slice_index_or groups c d).items
    → (slice_index_or (slice_index_or groups c d).items i e).id < 64 * span

-- where a history stands behind each cell
pub record CellParts : Type 0 where
  pub past : Past
  pub ends : List ℕ

-- in the history at each of the first cells are the filters all of whose asks are met there
abbrev pub AreTold : Groups → Past → List ℕ → Type 0
AreTold groups h ends =
    (e : ℕ) → e < length ends
    → (slice_index ends e ≤ length h.changes) × ((k : ℕ) → (bit (after h.first h.changes (slice_index ends e)) k ≡ 1) ↔ IsMet groups e k)

-- the cells of the groups
pub record AreCells (span : ℕ) (groups : Groups) (cells : CellParts) : Type 0 where
  pub wide : length cells.past.first ≡ span
  pub long : length cells.ends ≡ 2 * length groups + 1
  pub told : AreTold groups cells.past cells.ends
