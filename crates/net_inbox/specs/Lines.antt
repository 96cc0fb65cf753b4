-- Defines how a delivery stands in memory: as its line, with the places of the name and of the text in it.
use Rattle.std.specs.Prelude.{◌≡◌, ℕ, ◌+◌, ◌-◌, ◌≤◌, List, length}
use Rattle.std.specs.List.{slice_range}
use Rattle.filter_text.specs.declared.id.Id.{Id}
use Rattle.filter_text.specs.Deliveries.{Delivery}
use Rattle.net_inbox.specs.Inbox.{delivery, named_line}

-- the text stands up to the newline
abbrev pub kept_delivery : Id → List ℕ → ℕ → Delivery
kept_delivery id line text_start = delivery id (slice_range line text_start (length line - 1))

-- the name stands behind the eight bytes of the word, and the whole is the line of the delivery
pub record IsKept (id : Id) (line : List ℕ) (name_end text_start : ℕ) : Type 0 where
  pub name_within : (8 ≤ name_end) × (name_end ≤ length line)
  pub text_within : text_start + 1 ≤ length line
  pub whole : line ≡ named_line (slice_range line 8 name_end) (kept_delivery id line text_start)
