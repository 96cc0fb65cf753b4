-- Defines that each entry of a journal has its messages beside it.
use Rattle.std.proofs.Common.{◌≡◌, ℕ, zero, suc, List, [], ◌∷◌, length, refl, ap}
use Rattle.net_model.specs.Parts.{NetParts, EntryParts}
use Rattle.net_turns.specs.Told.{told_from, told_by}
use Rattle.hierarchy_turns.specs.Told.{told_from as told_below_from, told_by as told_below}

from_place : (net : NetParts) (journal : List EntryParts) (n : ℕ) (entries : List EntryParts) → length (told_from net journal n entries) ≡ length entries
from_place net journal n [] = refl
from_place net journal n (entry ∷ entries) = ap suc (from_place net journal (suc n) entries)

pub told_length : (net : NetParts) (journal : List EntryParts) → length (told_by net journal) ≡ length journal
told_length net journal = from_place net journal zero journal

from_place_below : (net : NetParts) (journal : List EntryParts) (n : ℕ) (entries : List EntryParts)
    → length (told_below_from net journal n entries) ≡ length entries
from_place_below net journal n [] = refl
from_place_below net journal n (entry ∷ entries) = ap suc (from_place_below net journal (suc n) entries)

-- and so has each of a hierarchy's
pub told_below_length : (net : NetParts) (journal : List EntryParts) → length (told_below net journal) ≡ length journal
told_below_length net journal = from_place_below net journal zero journal
