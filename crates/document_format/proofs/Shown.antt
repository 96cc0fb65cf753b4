-- No byte of a canonical line is below a space.
use Rattle.std.proofs.Common.{◌≡◌, ℕ, suc, Bool, true, false, ◌&&◌, refl, arith, List, [], ◌∷◌, ◌++◌, Option, Some, None, rules, nat_le}
use Rattle.std.specs.Prelude.{pos, negsuc, codes, ◌==◌}
use Rattle.std.specs.List.{list_all, flat_map}
use Rattle.std.specs.Fmt.{decimal}
use Rattle.std.proofs.lemmas.Fmt.{decimal_is_IsNumeral}
use Rattle.std.proofs.lemmas.Bool.Decides.{nat_tests}
use Rattle.filter_values.specs.Name.{IsName}
use Rattle.filter_values.specs.Text.{is_open_byte}
use Rattle.filter_values.specs.Value.{IsValue, kind_of}
use Rattle.filter_values.specs.declared.value.Value.{Value}
use Rattle.filter_values.specs.declared.value.Value.TheVariants as values
use Rattle.filter_values.specs.declared.value.Kind.{Kind}
use Rattle.filter_values.specs.declared.value.Kind.TheVariants as kinds
use Rattle.filter_constraints.specs.declared.op.Op.{Op}
use Rattle.filter_constraints.specs.declared.op.Op.TheVariants as ops
use Rattle.filter_constraints.specs.Constraint.{ConstraintParts, IsConstraint}
use Rattle.filter_types.specs.Canonical.{AreConstraints}
use Rattle.filter_types.specs.Notice.{Attribute, AreNames, AreValues}
use Rattle.filter_text.specs.ValueText.{escape, value_text, kind_word, op_word}
use Rattle.filter_text.specs.NoticeText.{attribute_text, notice_text, later}
use Rattle.filter_text.specs.FilterText.{test_text, constraint_text, constraints_text, AreNamed}
use Rattle.filter_text.specs.declared.command.Command.{Command}
use Rattle.filter_text.specs.declared.command.Command.TheVariants as commands
use Rattle.document_format.specs.CommandText.{command_text, IsCommandIn}
use Rattle.document_format.proofs.Cuts.{digits_bytes}
use Rattle.document_format.proofs.PartLaws.{operand_value}
use Rattle.document_format.proofs.LineLaws.{are_shown}
use Rattle.document_format.proofs.WordLaws.{word_shown, name_word}
use Rattle.std.proofs.lemmas.Bool.{and_parts}
use Rattle.base.proofs.Lists.{list_all-append}

pub shown-then : (xs ys : List ℕ) → are_shown xs ≡ true → are_shown ys ≡ true → are_shown (xs ++ 32 ∷ ys) ≡ true
shown-then xs ys e f = list_all-append (nat_le 32) xs (32 ∷ ys) e f

name_shown : (name : List ℕ) → IsName name → are_shown name ≡ true
name_shown name is = word_shown name (name_word name is).bytes

open_high : (b : ℕ) → is_open_byte b ≡ true → (b == 10) ≡ false → (b == 9) ≡ false → nat_le 32 b ≡ true
open_high b e f g = grind (arith, nat_tests, e, f, g)

escape_shown : (b : ℕ) → is_open_byte b ≡ true → are_shown (escape b) ≡ true
escape_shown b o = go (b == 34) refl (b == 92) refl (b == 10) refl (b == 9) refl
  where
    go : (p : Bool) → (b == 34) ≡ p → (q : Bool) → (b == 92) ≡ q → (r : Bool) → (b == 10) ≡ r → (s : Bool) → (b == 9) ≡ s → are_shown (escape b) ≡ true
    go true p q qe r re s se = rw p refl
    go false p true qe r re s se = rw (p, qe) refl
    go false p false qe true re s se = rw (p, qe, re) refl
    go false p false qe false re true se = rw (p, qe, re, se) refl
    go false p false qe false re false se = rw (p, qe, re, se) (let h : nat_le 32 b ≡ true = open_high b o re se in rw h refl)

escapes_shown : (t : List ℕ) → list_all is_open_byte t ≡ true → are_shown (flat_map escape t) ≡ true
escapes_shown [] e = refl
escapes_shown (b ∷ t) e = let h = and_parts (is_open_byte b) (list_all is_open_byte t) e in list_all-append (nat_le 32) (escape b) (flat_map escape t) (escape_shown b h.0) (escapes_shown t h.1)

value_shown : (v : Value) → IsValue v → are_shown (value_text v) ≡ true
value_shown (values.Bool true) is = refl
value_shown (values.Bool false) is = refl
value_shown (values.Int (pos n)) is = word_shown (decimal n) (digits_bytes (decimal n) (decimal_is_IsNumeral n (search rules)).0.1)
value_shown (values.Int (negsuc n)) is = word_shown (decimal (suc n)) (digits_bytes (decimal (suc n)) (decimal_is_IsNumeral (suc n) (search rules)).0.1)
value_shown (values.Str t) is = list_all-append (nat_le 32) (flat_map escape t) (34 ∷ []) (escapes_shown t is.open_bytes) refl
value_shown (values.Time n) is = word_shown (decimal n) (digits_bytes (decimal n) (decimal_is_IsNumeral n is).0.1)

kind_shown : (k : Kind) → are_shown (kind_word k) ≡ true
kind_shown kinds.Bool = refl
kind_shown kinds.Int = refl
kind_shown kinds.Str = refl
kind_shown kinds.Time = refl

op_shown : (op : Op) → are_shown (op_word op) ≡ true
op_shown ops.Any = refl
op_shown ops.Eq = refl
op_shown ops.Ne = refl
op_shown ops.Lt = refl
op_shown ops.Le = refl
op_shown ops.Gt = refl
op_shown ops.Ge = refl
op_shown ops.Prefix = refl
op_shown ops.Suffix = refl
op_shown ops.Contains = refl

constraint_shown : (c : ConstraintParts) → IsName c.name → IsConstraint c → are_shown (constraint_text c) ≡ true
unfolding constraint_text
constraint_shown c name is = shown-then c.name (kind_word c.kind ++ 32 ∷ test_text c.op c.operand) (name_shown c.name name) (shown-then (kind_word c.kind) (test_text c.op c.operand) (kind_shown c.kind) (go c.operand refl))
  where
    go : (u : Option Value) → c.operand ≡ u → are_shown (test_text c.op u) ≡ true
    go None e = op_shown c.op
    go (Some u) e = shown-then (op_word c.op) (value_text u) (op_shown c.op) (value_shown u (operand_value c u e is))

attribute_shown : (a : Attribute) → IsName a.0 → IsValue a.1 → are_shown (attribute_text a) ≡ true
unfolding attribute_text
attribute_shown a name is = shown-then (a.0 ++ 32 ∷ kind_word (kind_of a.1)) (value_text a.1) (shown-then a.0 (kind_word (kind_of a.1)) (name_shown a.0 name) (kind_shown (kind_of a.1))) (value_shown a.1 is)

constraints_later : (f : List ConstraintParts) → AreNamed f → AreConstraints f → are_shown (later constraint_text f) ≡ true
constraints_later [] n is = refl
constraints_later (c ∷ f) n is = list_all-append (nat_le 32) (codes "; " ++ constraint_text c) (later constraint_text f) (constraint_shown c n.0 is.0) (constraints_later f n.1 is.1)

pub constraints_shown : (f : List ConstraintParts) → AreNamed f → AreConstraints f → are_shown (constraints_text f) ≡ true
unfolding constraints_text
constraints_shown [] n is = refl
constraints_shown (c ∷ f) n is = list_all-append (nat_le 32) (constraint_text c) (later constraint_text f) (constraint_shown c n.0 is.0) (constraints_later f n.1 is.1)

attributes_later : (n : List Attribute) → AreNames n → AreValues n → are_shown (later attribute_text n) ≡ true
attributes_later [] a b = refl
attributes_later (x ∷ n) a b = list_all-append (nat_le 32) (codes "; " ++ attribute_text x) (later attribute_text n) (attribute_shown x a.0 b.0) (attributes_later n a.1 b.1)

pub notice_shown : (n : List Attribute) → AreNames n → AreValues n → are_shown (notice_text n) ≡ true
unfolding notice_text
notice_shown [] a b = refl
notice_shown (x ∷ n) a b = list_all-append (nat_le 32) (attribute_text x) (later attribute_text n) (attribute_shown x a.0 b.0) (attributes_later n a.1 b.1)

pub command_shown : (version : ℕ) (c : Command) → IsCommandIn version c → are_shown (command_text c) ≡ true
unfolding command_text
command_shown version (commands.Subscribe f) is = constraints_shown f is.whole.named is.whole.listed.whole
command_shown version (commands.Unsubscribe f) is = constraints_shown f is.whole.named is.whole.listed.whole
command_shown version (commands.Advertise a) is = constraints_shown a is.whole.named is.whole.listed.whole
command_shown version (commands.Unadvertise a) is = constraints_shown a is.whole.named is.whole.listed.whole
command_shown version (commands.Publish n) is = notice_shown n is.notice.names is.notice.values
