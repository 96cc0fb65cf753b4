-- Proves that each value has one text, and each text one value of a sort.
use Rattle.std.proofs.Common.{◌≡◌, ℕ, List, sym, ap, ◌∙◌}
use Rattle.std.proofs.lemmas.Option.{same_Some}
use Rattle.filter_constraints.specs.Constraint.{ConstraintParts}
use Rattle.filter_types.specs.Notice.{Attribute}
use Rattle.filter_text.specs.declared.message_text.MessageText.{MessageText}
use Rattle.filter_text.specs.NoticeText.{IsNoticeText}
use Rattle.filter_text.specs.FilterText.{IsListText}
use Rattle.filter_text.specs.MessageText.{IsMessageText}
use Rattle.filter_text.specs.Notices.{notice_of}
use Rattle.filter_text.specs.Filters.{list_of}
use Rattle.filter_text.specs.Messages.{message_of}
use Rattle.filter_text.proofs.NoticeLaws.{notice_again}
use Rattle.filter_text.proofs.FilterLaws.{text_again}
use Rattle.filter_text.proofs.MessageLaws.{message_again}

pub notice_value : (bytes : List ℕ) (m n : List Attribute) → IsNoticeText bytes m → IsNoticeText bytes n → m ≡ n
notice_value bytes m n a b = same_Some m n (sym (notice_again m a.notice) ∙ ap notice_of (sym a.text ∙ b.text) ∙ notice_again n b.notice)

pub list_value : (most : ℕ) (bytes : List ℕ) (f g : List ConstraintParts) → IsListText most bytes f → IsListText most bytes g → f ≡ g
list_value most bytes f g a b = same_Some f g (sym (text_again most f a.whole) ∙ ap (list_of most) (sym a.text ∙ b.text) ∙ text_again most g b.whole)

pub message_value : (bytes : List ℕ) (m n : MessageText) → IsMessageText bytes m → IsMessageText bytes n → m ≡ n
message_value bytes m n a b = same_Some m n (sym (message_again m a.sound a.sendable) ∙ ap message_of (sym a.text ∙ b.text) ∙ message_again n b.sound b.sendable)

pub notice_once : (n : List Attribute) (a b : List ℕ) → IsNoticeText a n → IsNoticeText b n → a ≡ b
notice_once n a b x y = x.text ∙ sym y.text

pub list_once : (most : ℕ) (f : List ConstraintParts) (a b : List ℕ) → IsListText most a f → IsListText most b f → a ≡ b
list_once most f a b x y = x.text ∙ sym y.text

pub message_once : (m : MessageText) (a b : List ℕ) → IsMessageText a m → IsMessageText b m → a ≡ b
message_once m a b x y = x.text ∙ sym y.text
