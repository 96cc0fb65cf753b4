-- Defines the turn that an entry of a journal was made by.
use Rattle.std.specs.Prelude.{ℕ}
use Rattle.net_model.specs.declared.turn.Act.{Act}
use Rattle.net_model.specs.declared.turn.Act.TheVariants as acts
use Rattle.net_model.specs.declared.turn.Turn.{Turn}
use Rattle.net_model.specs.declared.turn.Turn.TheVariants as turns
use Rattle.net_model.specs.Parts.{EntryParts}

-- the turn of a server's act
abbrev pub turn_by : ℕ → Act → Turn
turn_by server (acts.Command client) = turns.Command client
turn_by server (acts.Receive from) = turns.Receive server from
turn_by server acts.TableUpdate = turns.TableUpdate server

-- the turn of an entry
abbrev pub turn_of_entry : EntryParts → Turn
turn_of_entry entry = turn_by entry.server entry.act
