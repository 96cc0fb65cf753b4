-- Defines the text of a message on its way, written or not.
use Rattle.std.specs.Prelude.{ℕ, List}
use Rattle.filter_text.specs.declared.sent_text.Source.{Source}
use Rattle.filter_text.specs.declared.sent_text.Source.TheVariants.{Written, Told}
use Rattle.filter_text.specs.MessageText.{message_text, IsMessageText}

-- its bytes, or those that would be written
abbrev pub text_in : Source → List ℕ
text_in (Written bytes) = bytes
text_in (Told message) = message_text message

-- a message that is kept in place of its text has one
abbrev pub IsSource : Source → Type 0
IsSource (Written bytes) = Unit {0}
IsSource (Told message) = IsMessageText (message_text message) message
