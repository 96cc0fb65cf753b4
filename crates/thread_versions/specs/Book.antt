-- Defines the book of a history, which exists in proofs alone. A pen's number is the key of its cell, and the pen is used up once
-- the cell is at home.
use Rattle.std.specs.Prelude.{ℕ, ◌≡◌, ◌<◌, true, List, [], ◌∷◌, ◌++◌, length}
use Rattle.logbook.specs.Pages.{Cell, Step, View, Book, Named, cell, may_make}
use Rattle.thread_versions.specs.declared.history.Entry.{Entry}

-- the first entry used up this pen, and each other one the pen that the entry before it names
abbrev pub AreInTurn : List Cell → ℕ → List Entry → Type 0
AreInTurn cells pen [] = Unit {0}
AreInTurn cells pen (e ∷ es) = (e.pen ≡ pen) × ((cell cells pen).1 ≡ true) × AreInTurn cells e.next es

-- the pen for the next entry
abbrev pub pen_after : ℕ → List Entry → ℕ
pen_after pen [] = pen
pen_after pen (e ∷ es) = pen_after e.next es

-- the first pen comes after the two words with which a book opens
abbrev pub first_pen : ℕ
first_pen = 2

-- the first word is at home, and 0 until the first pen is made; the entries used up one pen after the other
pub record IsBookKept (cells : List Cell) (log : List Entry) : Type 0 where
  pub word : (0 < length cells) × ((cell cells 0).1 ≡ true)
  pub first : (cell cells 0).0 ≡ 0 → length cells ≡ first_pen
  pub turns : AreInTurn cells first_pen log

-- the first word of a book
abbrev pub word_of : Book → Named
word_of b = record { tracked = true; key = 0; book = b }

-- a pen was made, the first one where the word was 0
abbrev pub MakesPen : Step Entry → View Entry ℕ → ℕ → View Entry ℕ → Type 0
MakesPen s v found w = (w.1.0.right ≡ may_make) × (found ≡ 0 → w.1.0.key ≡ first_pen)

-- the entry was added to all that had been seen
abbrev pub AddsToSeen : Step Entry → View Entry ℕ → ℕ → View Entry ℕ → Type 0
AddsToSeen s v found w = w.0 ≡ v.0 ++ s.ask ∷ []
