-- A constraint and an attribute of a canonical text, as parts of a command.
use Rattle.std.proofs.Common.{◌≡◌, ◌<◌, ◌≤◌, ◌^◌, ℕ, suc, ℤ, true, false, refl, ap, subst, ◌∙◌, arith, List, [], ◌∷◌, ◌++◌, length, append_assoc, FitsSigned, rules}
use Rattle.std.specs.Prelude.{Some, None, pos, negsuc, nat_lt, ◌==◌}
use Rattle.std.specs.declared.option.Option.{Option}
use Rattle.std.specs.List.{list_all}
use Rattle.std.specs.Int.{w64}
use Rattle.std.specs.Char.{digit_value}
use Rattle.std.specs.Fmt.{signed_decimal, decimal}
use Rattle.std.specs.Str.Parse.{AllDigits, IsNumeral, without_leading_sign}
use Rattle.std.proofs.lemmas.Fmt.{decimal_is_IsNumeral}
use Rattle.std.proofs.lemmas.Bool.Decides.{nat_tests}
use Rattle.filter_values.specs.Name.{IsName}
use Rattle.filter_values.specs.Value.{IsValue, kind_of}
use Rattle.filter_values.proofs.NameTests.{name_tested}
use Rattle.filter_values.specs.declared.value.Value.{Value}
use Rattle.filter_values.specs.declared.value.Value.TheVariants as values
use Rattle.filter_values.specs.declared.value.Kind.{Kind}
use Rattle.filter_values.specs.declared.value.Kind.TheVariants as kinds
use Rattle.filter_constraints.specs.declared.op.Op.{Op}
use Rattle.filter_constraints.specs.declared.op.Op.TheVariants as ops
use Rattle.filter_constraints.specs.Constraint.{ConstraintParts, IsTest, IsConstraint}
use Rattle.filter_constraints.proofs.FaultLaws.{fault_none}
use Rattle.filter_types.specs.Notice.{Attribute}
use Rattle.filter_text.specs.ValueText.{value_text, kind_word, op_word}
use Rattle.filter_text.specs.NoticeText.{attribute_text}
use Rattle.filter_text.specs.FilterText.{test_text, constraint_text}
use Rattle.filter_text.specs.Reading.{◌>>=◌}
use Rattle.filter_text.proofs.IntLaws.{valued, fits_told}
use Rattle.document_script.specs.declared.form.Given.{Given}
use Rattle.document_script.specs.declared.form.Given.TheVariants.{Fit}
use Rattle.document_script.specs.declared.form.Part.{Part}
use Rattle.document_script.specs.declared.form.Part.TheVariants.{Whole}
use Rattle.document_script.specs.Tokens.{Token, tokens}
use Rattle.document_script.specs.Tokens.Token.{word}
use Rattle.document_script.specs.Form.{are_digits, int_given, time_given, kind_by, head_in, op_in, given_in, operand_in, part_of, constraint_in, attribute_in}
use Rattle.document_format.specs.CommandText.{has_kind}
use Rattle.document_format.proofs.Cuts.{IsEnded, name_cut, kind_cut, space_cut, value_token, value_cut, op_token, any_cut, op_cut}
use Rattle.base.proofs.Numbers.{digit-range}
use Rattle.document_script.proofs.IntLaws.{digits_are}

-- Numbers.

unsigned : (ds : List ℕ) → IsNumeral 10 ds → without_leading_sign ds ≡ ds
unsigned [] h = absurd (omega (arith, h.0))
unsigned (d ∷ ds) h =
    let r = digit-range d h.1.0 in
    let lo : 48 ≤ d = r.0 in
    let p : (d == 45) ≡ false = grind (arith, nat_tests) in
    let q : (d == 43) ≡ false = grind (arith, nat_tests) in
    rw (p, q) refl

int_digits : (z : ℤ) → FitsSigned w64 z → are_digits (without_leading_sign (signed_decimal z)) ≡ true
int_digits (pos n) is = let w = (decimal_is_IsNumeral n (search rules)).0 in rw (unsigned (decimal n) w) (digits_are (decimal n) w)
int_digits (negsuc n) is = digits_are (decimal (suc n)) (decimal_is_IsNumeral (suc n) (search rules)).0

int_again : (z : ℤ) → FitsSigned w64 z → int_given (signed_decimal z) ≡ Some (Fit (values.Int z))
unfolding int_given
int_again z is = rw (int_digits z is, valued z is, fits_told z is) refl

time_again : (n : ℕ) → n < 2 ^ 64 → time_given (decimal n) ≡ Some (Fit (values.Time n))
unfolding time_given
time_again n is =
    let w = decimal_is_IsNumeral n is in
    let small : nat_lt n (2 ^ 64) ≡ true = grind (arith, nat_tests) in
    rw (digits_are (decimal n) w.0, w.1, small) refl

-- Tokens.

kind_again : (version : ℕ) (k : Kind) → has_kind version k ≡ true → kind_by version (kind_word k) ≡ Some k
kind_again version kinds.Bool e = refl
kind_again version kinds.Int e = refl
kind_again version kinds.Str e = refl
kind_again version kinds.Time e = rw e refl

head_again : (version : ℕ) (name : List ℕ) (k : Kind) (ts : List Token) → IsName name → has_kind version k ≡ true → head_in version (word name ∷ word (kind_word k) ∷ ts) ≡ Some ((name, k), ts)
unfolding head_in
head_again version name k ts is e = rw (kind_again version k e, name_tested name is) refl

given_again : (v : Value) (ts : List Token) → IsValue v → given_in (kind_of v) (value_token v ∷ ts) ≡ Some (Fit v, ts)
given_again (values.Bool true) ts is = refl
given_again (values.Bool false) ts is = refl
given_again (values.Int z) ts is = rw (int_again z is) refl
given_again (values.Str t) ts is = refl
given_again (values.Time n) ts is = rw (time_again n is) refl

op_again : (op : Op) (ts : List Token) → op_in (op_token op ∷ ts) ≡ Some (op, ts)
op_again ops.Any ts = refl
op_again ops.Eq ts = refl
op_again ops.Ne ts = refl
op_again ops.Lt ts = refl
op_again ops.Le ts = refl
op_again ops.Gt ts = refl
op_again ops.Ge ts = refl
op_again ops.Prefix ts = refl
op_again ops.Suffix ts = refl
op_again ops.Contains ts = refl

-- Attributes.

-- the tokens of an attribute
abbrev pub attribute_tokens : Attribute → List Token
attribute_tokens a = word a.0 ∷ word (kind_word (kind_of a.1)) ∷ value_token a.1 ∷ []

-- an attribute that documents of the version may have
abbrev pub IsAttributeIn : ℕ → Attribute → Type 0
IsAttributeIn version a = IsName a.0 × IsValue a.1 × (has_kind version (kind_of a.1) ≡ true)

pub attribute_cut : (version : ℕ) (a : Attribute) (tail : List ℕ) → IsAttributeIn version a → IsEnded tail → tokens (attribute_text a ++ tail) ≡ attribute_tokens a ++ tokens tail
unfolding attribute_text
attribute_cut version a tail is s =
    let e : (a.0 ++ 32 ∷ kind_word (kind_of a.1) ++ 32 ∷ value_text a.1) ++ tail ≡ a.0 ++ 32 ∷ (kind_word (kind_of a.1) ++ 32 ∷ (value_text a.1 ++ tail)) = simp append_assoc in
    ap tokens e
    ∙ name_cut a.0 (32 ∷ (kind_word (kind_of a.1) ++ 32 ∷ (value_text a.1 ++ tail))) is.0 refl
    ∙ ap (λ ts. word a.0 ∷ ts) (space_cut (kind_word (kind_of a.1) ++ 32 ∷ (value_text a.1 ++ tail))
    ∙ kind_cut (kind_of a.1) (32 ∷ (value_text a.1 ++ tail)) refl
    ∙ ap (λ ts. word (kind_word (kind_of a.1)) ∷ ts) (space_cut (value_text a.1 ++ tail) ∙ value_cut a.1 tail is.1 s))

-- the part that an attribute is
abbrev pub attribute_part : Attribute → List ℕ × Given
attribute_part a = (a.0, Fit a.1)

pub attribute_again : (version : ℕ) (a : Attribute) (ts : List Token) → IsAttributeIn version a → attribute_in version (attribute_tokens a ++ ts) ≡ Some (attribute_part a, ts)
unfolding attribute_in
attribute_again version a ts is = rw (head_again version a.0 (kind_of a.1) (value_token a.1 ∷ ts) is.0 is.2, given_again a.1 ts is.1) refl

-- Constraints.

-- the token of an operand, if there is one
abbrev pub operand_tokens : Option Value → List Token
operand_tokens None = []
operand_tokens (Some u) = value_token u ∷ []

-- the tokens of a constraint
abbrev pub constraint_tokens : ConstraintParts → List Token
constraint_tokens c = word c.name ∷ word (kind_word c.kind) ∷ op_token c.op ∷ operand_tokens c.operand

-- a constraint that documents of the version may have
abbrev pub IsConstraintIn : ℕ → ConstraintParts → Type 0
IsConstraintIn version c = IsName c.name × IsConstraint c × (has_kind version c.kind ≡ true)

-- an operand is a value of its kind, behind an operator that has one
record IsOperand (k : Kind) (op : Op) (u : Value) : Type 0 where
  pub kind : kind_of u ≡ k
  pub value : IsValue u
  pub given : (ts : List Token) → operand_in k op ts ≡ ◌>>=◌ {B = Option Given × List Token} (given_in k ts) (λ g. Some (Some g.0, g.1))

operand_is : (kind : Kind) (op : Op) (u : Value) → IsTest kind op (Some u) → IsOperand kind op u
operand_is kinds.Bool ops.Any (values.Bool u) h = absurd h
operand_is kinds.Bool ops.Eq (values.Bool u) h = record { kind = refl; value = tt; given = λ ts. refl }
operand_is kinds.Bool ops.Ne (values.Bool u) h = record { kind = refl; value = tt; given = λ ts. refl }
operand_is kinds.Bool ops.Lt (values.Bool u) h = absurd h
operand_is kinds.Bool ops.Le (values.Bool u) h = absurd h
operand_is kinds.Bool ops.Gt (values.Bool u) h = absurd h
operand_is kinds.Bool ops.Ge (values.Bool u) h = absurd h
operand_is kinds.Bool ops.Prefix (values.Bool u) h = absurd h
operand_is kinds.Bool ops.Suffix (values.Bool u) h = absurd h
operand_is kinds.Bool ops.Contains (values.Bool u) h = absurd h
operand_is kinds.Int ops.Any (values.Int u) h = absurd h.0
operand_is kinds.Int ops.Eq (values.Int u) h = record { kind = refl; value = h.1; given = λ ts. refl }
operand_is kinds.Int ops.Ne (values.Int u) h = record { kind = refl; value = h.1; given = λ ts. refl }
operand_is kinds.Int ops.Lt (values.Int u) h = record { kind = refl; value = h.1; given = λ ts. refl }
operand_is kinds.Int ops.Le (values.Int u) h = record { kind = refl; value = h.1; given = λ ts. refl }
operand_is kinds.Int ops.Gt (values.Int u) h = record { kind = refl; value = h.1; given = λ ts. refl }
operand_is kinds.Int ops.Ge (values.Int u) h = record { kind = refl; value = h.1; given = λ ts. refl }
operand_is kinds.Int ops.Prefix (values.Int u) h = absurd h.0
operand_is kinds.Int ops.Suffix (values.Int u) h = absurd h.0
operand_is kinds.Int ops.Contains (values.Int u) h = absurd h.0
operand_is kinds.Time ops.Any (values.Time u) h = absurd h.0
operand_is kinds.Time ops.Eq (values.Time u) h = record { kind = refl; value = h.1; given = λ ts. refl }
operand_is kinds.Time ops.Ne (values.Time u) h = record { kind = refl; value = h.1; given = λ ts. refl }
operand_is kinds.Time ops.Lt (values.Time u) h = record { kind = refl; value = h.1; given = λ ts. refl }
operand_is kinds.Time ops.Le (values.Time u) h = record { kind = refl; value = h.1; given = λ ts. refl }
operand_is kinds.Time ops.Gt (values.Time u) h = record { kind = refl; value = h.1; given = λ ts. refl }
operand_is kinds.Time ops.Ge (values.Time u) h = record { kind = refl; value = h.1; given = λ ts. refl }
operand_is kinds.Time ops.Prefix (values.Time u) h = absurd h.0
operand_is kinds.Time ops.Suffix (values.Time u) h = absurd h.0
operand_is kinds.Time ops.Contains (values.Time u) h = absurd h.0
operand_is kinds.Str ops.Any (values.Str u) h = absurd h.0
operand_is kinds.Str ops.Eq (values.Str u) h = record { kind = refl; value = h.1; given = λ ts. refl }
operand_is kinds.Str ops.Ne (values.Str u) h = record { kind = refl; value = h.1; given = λ ts. refl }
operand_is kinds.Str ops.Lt (values.Str u) h = record { kind = refl; value = h.1; given = λ ts. refl }
operand_is kinds.Str ops.Le (values.Str u) h = record { kind = refl; value = h.1; given = λ ts. refl }
operand_is kinds.Str ops.Gt (values.Str u) h = record { kind = refl; value = h.1; given = λ ts. refl }
operand_is kinds.Str ops.Ge (values.Str u) h = record { kind = refl; value = h.1; given = λ ts. refl }
operand_is kinds.Str ops.Prefix (values.Str u) h = record { kind = refl; value = h.1; given = λ ts. refl }
operand_is kinds.Str ops.Suffix (values.Str u) h = record { kind = refl; value = h.1; given = λ ts. refl }
operand_is kinds.Str ops.Contains (values.Str u) h = record { kind = refl; value = h.1; given = λ ts. refl }
operand_is kinds.Bool op (values.Int u) h = absurd h
operand_is kinds.Bool op (values.Str u) h = absurd h
operand_is kinds.Bool op (values.Time u) h = absurd h
operand_is kinds.Int op (values.Bool u) h = absurd h
operand_is kinds.Int op (values.Str u) h = absurd h
operand_is kinds.Int op (values.Time u) h = absurd h
operand_is kinds.Str op (values.Bool u) h = absurd h
operand_is kinds.Str op (values.Int u) h = absurd h
operand_is kinds.Str op (values.Time u) h = absurd h
operand_is kinds.Time op (values.Bool u) h = absurd h
operand_is kinds.Time op (values.Int u) h = absurd h
operand_is kinds.Time op (values.Str u) h = absurd h

test_cut : (kind : Kind) (op : Op) (operand : Option Value) (tail : List ℕ) → IsTest kind op operand → IsEnded tail → tokens (test_text op operand ++ tail) ≡ (op_token op ∷ operand_tokens operand) ++ tokens tail
test_cut kind op None tail h s = rw h (any_cut tail s)
test_cut kind op (Some u) tail h s =
    ap tokens (append_assoc (op_word op) (32 ∷ value_text u) tail)
    ∙ op_cut op (value_text u ++ tail)
    ∙ ap (λ ts. op_token op ∷ ts) (space_cut (value_text u ++ tail) ∙ value_cut u tail (operand_is kind op u h).value s)

pub constraint_cut : (version : ℕ) (c : ConstraintParts) (tail : List ℕ) → IsConstraintIn version c → IsEnded tail → tokens (constraint_text c ++ tail) ≡ constraint_tokens c ++ tokens tail
unfolding constraint_text
constraint_cut version c tail is s =
    let e : (c.name ++ 32 ∷ (kind_word c.kind ++ 32 ∷ test_text c.op c.operand)) ++ tail ≡ c.name ++ 32 ∷ (kind_word c.kind ++ 32 ∷ (test_text c.op c.operand ++ tail)) = simp append_assoc in
    ap tokens e
    ∙ name_cut c.name (32 ∷ (kind_word c.kind ++ 32 ∷ (test_text c.op c.operand ++ tail))) is.0 refl
    ∙ ap (λ ts. word c.name ∷ ts) (space_cut (kind_word c.kind ++ 32 ∷ (test_text c.op c.operand ++ tail))
    ∙ kind_cut c.kind (32 ∷ (test_text c.op c.operand ++ tail)) refl
    ∙ ap (λ ts. word (kind_word c.kind) ∷ ts) (space_cut (test_text c.op c.operand ++ tail) ∙ test_cut c.kind c.op c.operand tail is.1 s))

test_again : (name : List ℕ) (kind : Kind) (op : Op) (operand : Option Value) (ts : List Token) → IsTest kind op operand
    → ◌>>=◌ {B = Part × List Token} (op_in (op_token op ∷ (operand_tokens operand ++ ts))) (λ o. ◌>>=◌ {B = Part × List Token} (operand_in kind o.0 o.1) (λ u. ◌>>=◌ {B = Part × List Token} (part_of name kind o.0 u.0) (λ p. Some (p, u.1))))
    ≡ Some (Whole (record { name = name; kind = kind; op = op; operand = operand }), ts)
test_again name kind op None ts h = rw h refl
test_again name kind op (Some u) ts h =
    let o = operand_is kind op u h in
    let g : given_in kind (value_token u ∷ ts) ≡ Some (Fit u, ts) = subst (λ (k : Kind). given_in k (value_token u ∷ ts) ≡ Some (Fit u, ts)) o.kind (given_again u ts o.value) in
    rw (op_again op (value_token u ∷ ts), o.given (value_token u ∷ ts), g, fault_none kind op (Some u) h) refl

pub constraint_again : (version : ℕ) (c : ConstraintParts) (ts : List Token) → IsConstraintIn version c → constraint_in version (constraint_tokens c ++ ts) ≡ Some (Whole c, ts)
unfolding constraint_in
constraint_again version c ts is = rw (head_again version c.name c.kind (op_token c.op ∷ (operand_tokens c.operand ++ ts)) is.0 is.2) (test_again c.name c.kind c.op c.operand ts is.1)

-- the operand of a constraint is a value
pub operand_value : (c : ConstraintParts) (u : Value) → c.operand ≡ Some u → IsConstraint c → IsValue u
operand_value c u e is = (operand_is c.kind c.op u (subst (IsTest c.kind c.op) e is)).value
