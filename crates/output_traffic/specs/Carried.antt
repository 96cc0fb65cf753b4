-- What the entries of a journal put on each link, by the texts of their messages.
use Rattle.std.specs.Prelude.{ℕ, ◌+◌, ◌==◌, ◌&&◌, not, Bool, cond, List, [], ◌∷◌, take, codes}
use Rattle.std.specs.Str.{bytes_eq}
use Rattle.base.specs.Numbers.{sum_over, count}
use Rattle.filter_text.specs.declared.sent.Sent.{Sent}
use Rattle.net_model.specs.Parts.{EntryParts}

-- whether a message is a notification: its text begins with the word `notice`
abbrev pub is_notice : List ℕ → Bool
is_notice text = bytes_eq (take 7 text) (codes "notice ")

-- whether it is none: a change of filters or of advertisements
abbrev pub is_change : List ℕ → Bool
is_change text = not (is_notice text)

-- how many of some messages go to a server and pass a test of their text
abbrev pub sent_to : (List ℕ → Bool) → ℕ → List Sent → ℕ
sent_to test to sent = sum_over (λ message. count ((message.to == to) && test message.bytes)) sent

-- how many such messages an entry of a server puts on the link from one server to another
abbrev pub put_on : (List ℕ → Bool) → ℕ → List Sent → ℕ → ℕ → ℕ
put_on test server sent from to = cond (server == from) (sent_to test to sent) 0

-- the same of all entries, with their messages beside them
abbrev pub carried : (List ℕ → Bool) → List EntryParts → List (List Sent) → ℕ → ℕ → ℕ
carried test [] outs from to = 0
carried test (entry ∷ entries) [] from to = 0
carried test (entry ∷ entries) (sent ∷ outs) from to = put_on test entry.server sent from to + carried test entries outs from to

-- HOW MANY NOTIFICATIONS, and how many messages on filters and advertisements, a journal puts on the link from one server to another
abbrev pub notices_on : List EntryParts → List (List Sent) → ℕ → ℕ → ℕ
notices_on journal outs from to = carried is_notice journal outs from to

abbrev pub changes_on : List EntryParts → List (List Sent) → ℕ → ℕ → ℕ
changes_on journal outs from to = carried is_change journal outs from to
