-- Defines the text of a message: a notice with its id, or changes of filters or of advertisements.
use Rattle.std.specs.Prelude.{◌≡◌, ◌++◌, ◌+◌, ◌<◌, ℕ, List, [], ◌∷◌, length, codes}
use Rattle.std.specs.Fmt.{decimal}
use Rattle.std.specs.Int.{IsInRange}
use Rattle.std.specs.List.{flat_map}
use Rattle.filter_constraints.specs.Constraint.{ConstraintParts}
use Rattle.filter_types.specs.Notice.{IsNotice}
use Rattle.filter_types.specs.Before.{list_before}
use Rattle.base.specs.Sets.{Has, IsRising}
use Rattle.filter_text.specs.declared.id.Id.{Id}
use Rattle.filter_text.specs.declared.message_text.MessageText.{MessageText}
use Rattle.filter_text.specs.declared.message_text.MessageText.TheVariants as messages
use Rattle.filter_text.specs.NoticeText.{notice_text}
use Rattle.filter_text.specs.FilterText.{constraints_text, IsWhole}

-- a text between braces (123, 125), behind a space (32) and a sign
abbrev pub signed : ℕ → List ℕ → List ℕ
signed sign text = 32 ∷ sign ∷ 123 ∷ (text ++ 125 ∷ [])

-- a list that is taken out (sign `-`) or added (sign `+`): space, sign, and the list between braces
abbrev pub change_text : ℕ → List ConstraintParts → List ℕ
change_text sign f = signed sign (constraints_text f)

-- what is taken out (sign 45, `-`), then what is added (sign 43, `+`)
unfoldable pub changes_text : List (List ConstraintParts) → List (List ConstraintParts) → List ℕ
changes_text out add = flat_map (change_text 45) out ++ flat_map (change_text 43) add

-- publisher and ordinal, with a space (32) between them
unfoldable pub id_text : Id → List ℕ
id_text id = decimal id.publisher ++ 32 ∷ decimal id.ordinal

-- a notice behind its id, or changes of filters or of advertisements, behind the word of the sort
unfoldable pub message_text : MessageText → List ℕ
message_text (messages.Notice id n) = codes "notice " ++ id_text id ++ 32 ∷ notice_text n
message_text (messages.Subs out add) = codes "subs" ++ changes_text out add
message_text (messages.Advs out add) = codes "advs" ++ changes_text out add

-- a publisher is a client's number, 1 to 1,024, and an ordinal one of its publications', 1 to 100,000
abbrev pub IsId : Id → Type 0
IsId id = IsInRange 1 1024 id.publisher × IsInRange 1 100000 id.ordinal

-- each list is strictly rising, no member is in both, and there is at least one in all
pub record IsChange (out add : List (List ConstraintParts)) : Type 0 where
  pub out_rising : IsRising list_before out
  pub add_rising : IsRising list_before add
  pub apart : (f : List ConstraintParts) → Has f out → Has f add → ⊥
  pub some : 0 < length out + length add

-- what a message must meet to have a text: its id in range, or its lists a change
abbrev pub IsSendable : MessageText → Type 0
IsSendable (messages.Notice id n) = IsId id
IsSendable (messages.Subs out add) = IsChange out add
IsSendable (messages.Advs out add) = IsChange out add

-- each member is so
abbrev pub Each : {A : Type 0} → (A → Type 0) → List A → Type 0
Each P [] = Unit {0}
Each P (x ∷ rest) = P x × Each P rest

-- each list is well formed
abbrev pub AreWhole : ℕ → List (List ConstraintParts) → Type 0
AreWhole most fs = Each (IsWhole most) fs

-- what a program's types keep of a message: its notice, its filters, its advertisements are well formed
abbrev pub IsSoundMessage : MessageText → Type 0
IsSoundMessage (messages.Notice id n) = IsNotice n
IsSoundMessage (messages.Subs out add) = AreWhole 16 out × AreWhole 16 add
IsSoundMessage (messages.Advs out add) = AreWhole 64 out × AreWhole 64 add

-- the bytes are the text of a message
pub record IsMessageText (bytes : List ℕ) (m : MessageText) : Type 0 where
  pub sound : IsSoundMessage m
  pub sendable : IsSendable m
  pub text : bytes ≡ message_text m
