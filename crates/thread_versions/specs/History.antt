-- Defines the history of all pending changes, which exists in proofs alone, by its book.
use Rattle.std.specs.Prelude.{ℕ, ◌≡◌, List, map}
use Rattle.logbook.specs.Pages.{Book, Named, may_write}
use Rattle.logbook.specs.declared.tokens.Seen.{Seen}
use Rattle.logbook.specs.declared.tokens.Pen.{Pen}
use Rattle.match_routes.specs.declared.table_change.TableChange.{TableChange}
use Rattle.thread_versions.specs.declared.history.Entry.{Entry}
use Rattle.thread_versions.specs.declared.history.Law.{Law}
use Rattle.thread_versions.specs.Book.{word_of, first_pen, pen_after}

-- what contracts see of a history, or of a beginning of it: its book and its changes
pub record HistoryParts : Type 0 where
  pub book : Book
  pub log : List TableChange

-- what of a book was seen
abbrev pub SeenEntries : Type 0
SeenEntries = Seen Entry ℕ Law

abbrev pub history_parts : SeenEntries → HistoryParts
history_parts s = record { book = s.book; log = map (λ e. e.change) s.log }

-- the pen is the one for the next entry of the book, whose first word this is
pub record HasPen (first : Named) (pen : Pen) (seen : SeenEntries) : Type 0 where
  pub word : first ≡ word_of seen.book
  pub book : pen.book ≡ seen.book
  pub right : pen.nib.right ≡ may_write
  pub turn : pen.nib.key ≡ pen_after first_pen seen.log
