-- Defines the text of what the servers did.
use Rattle.std.specs.Prelude.{ℕ, List, [], ◌∷◌, ◌++◌, codes, length}
use Rattle.std.specs.List.{flat_map}
use Rattle.std.specs.Fmt.{decimal}
use Rattle.filter_text.specs.declared.sent.Sent.{Sent}
use Rattle.net_model.specs.declared.turn.Act.{Act}
use Rattle.net_model.specs.declared.turn.Act.TheVariants as acts
use Rattle.net_model.specs.Parts.{ClientParts, NetParts, EntryParts}
use Rattle.net_model.specs.Nets.{client_name}

-- `command NAME`, `take NEIGHBOUR` or `version`
unfoldable pub act_text : List ClientParts → Act → List ℕ
act_text clients (acts.Command client) = codes "command " ++ client_name clients client
act_text clients (acts.Receive from) = codes "take " ++ decimal from
act_text clients acts.TableUpdate = codes "version"

-- `entry STAMP SERVER` and what it did
unfoldable pub entry_line : List ClientParts → EntryParts → List ℕ
entry_line clients entry = codes "entry " ++ decimal entry.stamp ++ codes " " ++ decimal entry.server ++ codes " " ++ act_text clients entry.act ++ codes "\n"

-- `out NEIGHBOUR MESSAGE`
unfoldable pub sent_line : Sent → List ℕ
sent_line sent = codes "out " ++ decimal sent.to ++ codes " " ++ sent.bytes ++ codes "\n"

-- an entry with the messages of its step
unfoldable pub entry_text : List ClientParts → EntryParts → List Sent → List ℕ
entry_text clients entry messages = entry_line clients entry ++ flat_map sent_line messages

-- all entries, with their messages beside them
abbrev pub entries_text : List ClientParts → List EntryParts → List (List Sent) → List ℕ
entries_text clients [] outs = []
entries_text clients (entry ∷ entries) [] = []
entries_text clients (entry ∷ entries) (messages ∷ outs) = entry_text clients entry messages ++ entries_text clients entries outs

-- `trace COUNT`
unfoldable pub trace_head : ℕ → List ℕ
trace_head entries = codes "trace " ++ decimal entries ++ codes "\n"

-- THE TEXT OF A JOURNAL
abbrev pub trace_text : NetParts → List EntryParts → List (List Sent) → List ℕ
trace_text net journal outs = trace_head (length journal) ++ entries_text net.clients journal outs
