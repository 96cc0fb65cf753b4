-- Defines the canonical line of a command, and the commands that documents of a version have.
use Rattle.std.specs.Prelude.{◌≡◌, ◌++◌, ℕ, nat_lt, Bool, true, List, codes}
use Rattle.filter_values.specs.Value.{kind_of}
use Rattle.filter_values.specs.declared.value.Kind.{Kind}
use Rattle.filter_values.specs.declared.value.Kind.TheVariants as kinds
use Rattle.filter_constraints.specs.Constraint.{ConstraintParts}
use Rattle.filter_types.specs.Notice.{Attribute, IsNotice}
use Rattle.filter_text.specs.FilterText.{constraints_text, IsWhole}
use Rattle.filter_text.specs.NoticeText.{notice_text}
use Rattle.filter_text.specs.MessageText.{Each}
use Rattle.filter_text.specs.declared.command.Command.{Command}
use Rattle.filter_text.specs.declared.command.Command.TheVariants as commands

-- THE LINE OF A COMMAND: its first word, a space, and the wire text of its filter, advertisement or notice
unfoldable pub command_text : Command → List ℕ
command_text (commands.Subscribe f) = codes "subscribe " ++ constraints_text f
command_text (commands.Unsubscribe f) = codes "unsubscribe " ++ constraints_text f
command_text (commands.Advertise a) = codes "advertise " ++ constraints_text a
command_text (commands.Unadvertise a) = codes "unadvertise " ++ constraints_text a
command_text (commands.Publish n) = codes "publish " ++ notice_text n

-- documents of the version have the kind: version 1 has no times
abbrev pub has_kind : ℕ → Kind → Bool
has_kind version kinds.Time = nat_lt 1 version
has_kind version kind = true

-- a whole list of at most so many constraints, of kinds of the version
pub record IsListIn (most version : ℕ) (f : List ConstraintParts) : Type 0 where
  pub whole : IsWhole most f
  pub kinds : Each (λ c. has_kind version c.kind ≡ true) f

-- a notice, with values of kinds of the version
pub record IsNoticeIn (version : ℕ) (n : List Attribute) : Type 0 where
  pub notice : IsNotice n
  pub kinds : Each (λ a. has_kind version (kind_of a.1) ≡ true) n

-- a command of documents of the version
abbrev pub IsCommandIn : ℕ → Command → Type 0
IsCommandIn version (commands.Subscribe f) = IsListIn 16 version f
IsCommandIn version (commands.Unsubscribe f) = IsListIn 16 version f
IsCommandIn version (commands.Advertise a) = IsListIn 64 version a
IsCommandIn version (commands.Unadvertise a) = IsListIn 64 version a
IsCommandIn version (commands.Publish n) = IsNoticeIn version n
