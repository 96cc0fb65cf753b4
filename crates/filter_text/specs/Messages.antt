-- Defines which message bytes spell.
use Rattle.std.specs.Prelude.{ℕ, List, [], Some, None, codes, if◌then◌else◌}
use Rattle.std.specs.declared.option.Option.{Option}
use Rattle.std.specs.Str.{bytes_eq}
use Rattle.filter_constraints.specs.Constraint.{ConstraintParts}
use Rattle.filter_types.specs.Before.{list_before}
use Rattle.filter_text.specs.declared.id.Id.{Id}
use Rattle.filter_text.specs.declared.message_text.MessageText.{MessageText}
use Rattle.filter_text.specs.declared.message_text.MessageText.TheVariants as messages
use Rattle.filter_text.specs.Reading.{◌>>=◌}
use Rattle.filter_text.specs.Words.{word_at, space_at, number_at}
use Rattle.filter_text.specs.Notices.{notice_of}
use Rattle.filter_text.specs.Filters.{list_at}
use Rattle.filter_text.specs.Changes.{change_of}

-- an id in front, and what follows it
unfoldable pub id_at : List ℕ → Option (Id × List ℕ)
id_at bytes = number_at 1024 bytes >>= λ p. space_at p.1 >>= λ r. number_at 100000 r.1 >>= λ o. Some (record { publisher = p.0; ordinal = o.0 }, o.1)

-- the id and the notice behind the word of the sort
unfoldable pub notice_message_of : List ℕ → Option MessageText
notice_message_of bytes = space_at bytes >>= λ r. id_at r.1 >>= λ i. space_at i.1 >>= λ s. notice_of s.1 >>= λ n. Some (messages.Notice i.0 n)

-- lists of filters or of advertisements
abbrev pub Lists : Type 0
Lists = List (List ConstraintParts)

-- the change of lists of at most so many constraints
abbrev pub lists_of : ℕ → List ℕ → Option (Lists × Lists)
lists_of most bytes = change_of list_before (list_at most) bytes

-- a message of filters
abbrev pub as_subs : Lists × Lists → Option MessageText
as_subs l = Some (messages.Subs l.0 l.1)

-- a message of advertisements
abbrev pub as_advs : Lists × Lists → Option MessageText
as_advs l = Some (messages.Advs l.0 l.1)

-- a message by its first word
abbrev pub tagged_of : List ℕ × List ℕ → Option MessageText
tagged_of w =
    if bytes_eq w.0 (codes "notice") then notice_message_of w.1
    else if bytes_eq w.0 (codes "subs") then (lists_of 16 w.1 >>= as_subs)
    else if bytes_eq w.0 (codes "advs") then (lists_of 64 w.1 >>= as_advs)
    else None

-- the message that the bytes spell
unfoldable pub message_of : List ℕ → Option MessageText
message_of bytes = tagged_of (word_at [] bytes)
