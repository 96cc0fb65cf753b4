-- How rows are put to those of the clients that a publication meets; no promise to a caller speaks of it.
use Rattle.std.specs.Prelude.{◌≡◌, ℕ, zero, suc, Bool, false, cond, List, [], ◌∷◌, ◌++◌, Some, slice_get, Vec}
use Rattle.std.specs.declared.alloc.Global.{Global}
use Rattle.output_flood.specs.declared.owed.OwedRow.{OwedRow}
use Rattle.output_flood.specs.declared.publication.Publication.{Publication}
use Rattle.output_flood.specs.declared.meeting.Met.{Met}
use Rattle.net_model.specs.Parts.{ClientParts}
use Rattle.output_flood.specs.Publications.{rows_of}
use Rattle.output_flood.specs.Tables.{is_found}

-- the rows of the client at a place
abbrev pub rows_at : List (Vec OwedRow Global) → ℕ → List OwedRow
rows_at [] i = []
rows_at (rows ∷ all) zero = rows.items
rows_at (rows ∷ all) (suc i) = rows_at all i

-- the row, where there is one
abbrev pub once : Bool → OwedRow → List OwedRow
once met row = cond met (row ∷ []) []

-- what a publication adds to the rows of the client at a place
abbrev pub rows_by : ℕ → Publication → Met → List OwedRow
rows_by i p met =
    once (is_found i met.every) (record { id = p.id; must = p.advertised })
    ++ once (is_found i met.others.items) (record { id = p.id; must = false })

-- at each client's place are its rows of these publications
abbrev pub HaveRows : List ClientParts → List Publication → List (Vec OwedRow Global) → Type 0
HaveRows clients publications all =
    (i : ℕ) (client : ClientParts) → slice_get clients i ≡ Some client → rows_at all i ≡ rows_of client.script publications
