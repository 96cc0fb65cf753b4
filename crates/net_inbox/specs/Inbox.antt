-- Defines deliveries by their numbers, which are their places among the deliveries of a run.
use Rattle.std.specs.Prelude.{ℕ, List, [], ◌++◌, codes, map, slice_index_or}
use Rattle.std.specs.Fmt.{decimal}
use Rattle.filter_text.specs.declared.id.Id.{Id}
use Rattle.filter_text.specs.Deliveries.{Delivery}
use Rattle.net_inbox.specs.declared.inbox.Received.{Received}

abbrev pub delivery : Id → List ℕ → Delivery
delivery id bytes = record { id = id; bytes = bytes }

-- the delivery with a number; an empty one of no publication where there is none
abbrev pub delivery_at : List Delivery → ℕ → Delivery
delivery_at all number = slice_index_or all number (delivery (record { publisher = 0; ordinal = 0 }) [])

abbrev pub at_numbers : List Delivery → List ℕ → List Delivery
at_numbers all numbers = map (delivery_at all) numbers

-- what was received, in order
abbrev pub in_order : Received → List Delivery
in_order received = at_numbers received.deliveries.now received.numbers.now

-- `deliver PUBLISHER ORDINAL NOTICE`, where the publisher has this name; ended by a newline
unfoldable pub named_line : List ℕ → Delivery → List ℕ
named_line name d = codes "deliver " ++ name ++ codes " " ++ decimal d.id.ordinal ++ codes " " ++ d.bytes ++ codes "\n"
