-- What is counted of a journal while it is told.
use Rattle.std.specs.Prelude.{ℕ, ◌<◌, ◌^◌, List}
use Rattle.filter_text.specs.declared.sent.Sent.{Sent}
use Rattle.net_model.specs.Parts.{EntryParts}
use Rattle.output_traffic.specs.declared.carried.Carried.{Carried}
use Rattle.output_traffic.specs.Carried.{changes_on, notices_on}
use Rattle.output_traffic.specs.Counts.{AreCounts}

-- the entries of a journal put fewer than 2 ^ 32 notifications on each link, and fewer other messages, with their messages beside them
pub record AreFew (journal : List EntryParts) (outs : List (List Sent)) : Type 0 where
  pub notices : (from to : ℕ) → notices_on journal outs from to < 2 ^ 32
  pub changes : (from to : ℕ) → changes_on journal outs from to < 2 ^ 32

-- it is counted what the entries of a journal put on each link, with their messages beside them
pub record Carries (carried : Carried) (journal : List EntryParts) (outs : List (List Sent)) : Type 0 where
  pub notices : AreCounts carried.notices (notices_on journal outs)
  pub changes : AreCounts carried.changes (changes_on journal outs)
