-- What the form of a line has: parts of constraints and attributes that documents of its version may have.
use Rattle.std.proofs.Common.{◌≡◌, ℕ, zero, suc, ◌<◌, ◌^◌, Bool, true, false, cond, refl, sym, ap, subst, arith, inl, inr, List, [], ◌∷◌, ◌++◌, length, Option, Some, None}
use Rattle.std.specs.Prelude.{nat_lt, ◌==◌, if◌then◌else◌}
use Rattle.std.specs.List.{list_all}
use Rattle.std.specs.Str.Parse.{digits_value, signed_digits_value, without_leading_sign}
use Rattle.std.specs.Str.{is_utf8}
use Rattle.std.proofs.lemmas.Bool.Decides.{nat_tests}
use Rattle.std.proofs.lemmas.Option.{same_Some}
use Rattle.filter_values.specs.Name.{IsName, is_name}
use Rattle.filter_values.specs.Text.{IsText, is_open_byte}
use Rattle.filter_values.proofs.NameTests.{tested_name}
use Rattle.filter_values.specs.Value.{IsValue, kind_of}
use Rattle.filter_values.specs.declared.value.Value.{Value}
use Rattle.filter_values.specs.declared.value.Value.TheVariants as values
use Rattle.filter_values.specs.declared.value.Kind.{Kind}
use Rattle.filter_values.specs.declared.value.Kind.TheVariants as kinds
use Rattle.filter_constraints.specs.declared.op.Op.{Op}
use Rattle.filter_constraints.specs.declared.op.Op.TheVariants as ops
use Rattle.filter_constraints.specs.declared.constraint.BadConstraint.{BadConstraint}
use Rattle.filter_constraints.specs.declared.constraint.BadConstraint.TheVariants.{EmptyPattern, BadOp, Operand, WrongKind}
use Rattle.filter_constraints.specs.Constraint.{ConstraintParts}
use Rattle.filter_constraints.specs.Faults.{fault_of, has_op}
use Rattle.filter_text.specs.MessageText.{Each}
use Rattle.filter_text.specs.Reading.{◌>>=◌}
use Rattle.filter_text.specs.Words.{fits_i64, kind_named}
use Rattle.filter_text.specs.Values.{truth_named}
use Rattle.filter_text.specs.Filters.{op_named}
use Rattle.filter_text.proofs.Options.{bind_some, pair_in, choose, tested, none_not}
use Rattle.filter_text.proofs.IntLaws.{fits_tells}
use Rattle.document_script.specs.declared.form.Given.{Given}
use Rattle.document_script.specs.declared.form.Given.TheVariants.{Fit, Wide}
use Rattle.document_script.specs.declared.form.Part.{Part}
use Rattle.document_script.specs.declared.form.Part.TheVariants.{Whole, Beyond, Empty}
use Rattle.document_script.specs.declared.verb.Verb.{Verb}
use Rattle.document_script.specs.declared.verb.Verb.TheVariants as verbs
use Rattle.document_script.specs.Tokens.{Token, token_at, tokens_in, tokens, cut_by, skip, is_string, string_seen, string_token, quoted_at, equals_at, sign_token, is_word_byte}
use Rattle.document_script.specs.Tokens.Token.{word, sign, string, long, semicolon, bad}
use Rattle.document_script.specs.Form.{CommandForm, int_given, time_given, are_digits, word_in, kind_of_version, kind_by, head_in, op_in, given_in, operand_in, judged, part_of, constraint_in, attribute_in, more_in, parts_in, verb_named, verb_in, control_in, publish_in, form_in}
use Rattle.document_script.specs.Form.CommandForm.{control, publish}
use Rattle.document_script.specs.Command.{form_of}
use Rattle.document_format.specs.CommandText.{has_kind}
use Rattle.document_format.proofs.PartLaws.{IsConstraintIn, IsAttributeIn}
use Rattle.std.proofs.lemmas.Bool.{and_parts}
use Rattle.filter_text.proofs.FilterLaws.{is_test}
use Rattle.document_reader.proofs.Members.{each_more}
use Rattle.base.proofs.Lists.{push-not-empty}

-- Tokens.

-- what each token is: the bytes of a string are a text
abbrev pub IsSeen : Token → Type 0
IsSeen (string t) = IsText t
IsSeen t = Unit {0}

seen_string : (t : List ℕ) → IsSeen (string_seen t)
seen_string t = go (is_string t) refl (nat_lt 1024 (length t)) refl
  where
    go : (p : Bool) → is_string t ≡ p → (q : Bool) → nat_lt 1024 (length t) ≡ q → IsSeen (if p then (if q then long else string t) else bad)
    go false e q f = tt
    go true e true f = tt
    go true e false f =
        let w = and_parts (is_utf8 t) (list_all is_open_byte t) e in
        record { short = grind (arith, nat_tests, f); utf8 = w.0; open_bytes = w.1 }

seen_quoted : (q : Option (List ℕ × List ℕ)) (rest : List ℕ) → IsSeen (string_token q rest).0
seen_quoted None rest = tt
seen_quoted (Some x) rest = seen_string x.0

seen_sign : (x : Bool × List ℕ) (a b : Token) → IsSeen a → IsSeen b → IsSeen (sign_token x a b).0
seen_sign (true, rest) a b h k = h
seen_sign (false, rest) a b h k = k

pick : (p : Bool) (x y : Token × List ℕ) → IsSeen x.0 → IsSeen y.0 → IsSeen (cond p x y).0
pick true x y h k = h
pick false x y h k = k

seen_at : (b : ℕ) (rest : List ℕ) → IsSeen (token_at b rest).0
unfolding token_at
seen_at b rest =
    pick (is_word_byte b) _ _ tt
    (pick (b == 34) _ _ (seen_quoted (quoted_at [] false rest) rest)
    (pick (b == 59) _ _ tt
    (pick (b == 61) _ _ tt
    (pick (b == 60) _ _ (seen_sign (equals_at rest) (sign ops.Le) (sign ops.Lt) tt tt)
    (pick (b == 62) _ _ (seen_sign (equals_at rest) (sign ops.Ge) (sign ops.Gt) tt tt)
    (pick (b == 33) _ _ (seen_sign (equals_at rest) (sign ops.Ne) bad tt tt) tt))))))

seen_in : (n : ℕ) (bytes : List ℕ) → Each IsSeen (tokens_in n bytes)
unfolding tokens_in
seen_in zero bytes = tt
seen_in (suc n) bytes = go (skip bytes) (λ rest. seen_in n rest)
  where
    go : (left : List ℕ) → ((rest : List ℕ) → Each IsSeen (tokens_in n rest)) → Each IsSeen (cut_by (λ rest. tokens_in n rest) left)
    go [] k = tt
    go (b ∷ rest) k = (seen_at b rest, k (token_at b rest).1)

-- Readers of parts: what they read is so, and the tokens that are left are seen.

word_spelled : (ts : List Token) (w : List ℕ) (rest : List Token) → Each IsSeen ts → word_in ts ≡ Some (w, rest) → Each IsSeen rest
word_spelled [] w rest h e = none_not (w, rest) e
word_spelled (word v ∷ ts) w rest h e = subst (Each IsSeen) (pair_in v ts w rest e).1 h.1
word_spelled (sign o ∷ ts) w rest h e = none_not (w, rest) e
word_spelled (string t ∷ ts) w rest h e = none_not (w, rest) e
word_spelled (long ∷ ts) w rest h e = none_not (w, rest) e
word_spelled (semicolon ∷ ts) w rest h e = none_not (w, rest) e
word_spelled (bad ∷ ts) w rest h e = none_not (w, rest) e

kind_has : (version : ℕ) (k m : Kind) → kind_of_version version k ≡ Some m → has_kind version m ≡ true
kind_has version kinds.Bool m e = subst (λ (z : Kind). has_kind version z ≡ true) (same_Some kinds.Bool m e) refl
kind_has version kinds.Int m e = subst (λ (z : Kind). has_kind version z ≡ true) (same_Some kinds.Int m e) refl
kind_has version kinds.Str m e = subst (λ (z : Kind). has_kind version z ≡ true) (same_Some kinds.Str m e) refl
kind_has version kinds.Time m e = let w = tested (nat_lt 1 version) kinds.Time m e in subst (λ (z : Kind). has_kind version z ≡ true) w.1 w.0

kind_spelled : (version : ℕ) (w : List ℕ) (k : Kind) → kind_by version w ≡ Some k → has_kind version k ≡ true
kind_spelled version w k e = let m = bind_some (kind_named w) (kind_of_version version) k e in kind_has version m.0 k m.2

-- a name and a kind of the version
abbrev IsHead : ℕ → List ℕ × Kind → Type 0
IsHead version h = IsName h.0 × (has_kind version h.1 ≡ true)

head_spelled : (version : ℕ) (ts : List Token) (h : List ℕ × Kind) (rest : List Token) → Each IsSeen ts → head_in version ts ≡ Some (h, rest) → IsHead version h × Each IsSeen rest
unfolding head_in
head_spelled version ts h rest s e =
    let n = bind_some (word_in ts) (λ n. ◌>>=◌ {B = (List ℕ × Kind) × List Token} (word_in n.1) (λ k. ◌>>=◌ {B = (List ℕ × Kind) × List Token} (kind_by version k.0) (λ kind. if is_name n.0 then Some ((n.0, kind), k.1) else None))) (h, rest) e in
    let k = bind_some (word_in n.0.1) (λ k. ◌>>=◌ {B = (List ℕ × Kind) × List Token} (kind_by version k.0) (λ kind. if is_name n.0.0 then Some ((n.0.0, kind), k.1) else None)) (h, rest) n.2 in
    let kind = bind_some (kind_by version k.0.0) (λ kind. if is_name n.0.0 then Some ((n.0.0, kind), k.0.1) else None) (h, rest) k.2 in
    let w = tested (is_name n.0.0) ((n.0.0, kind.0), k.0.1) (h, rest) kind.2 in
    let p = pair_in (n.0.0, kind.0) k.0.1 h rest (ap Some w.1) in
    let a = word_spelled ts n.0.0 n.0.1 s n.1 in
    let b = word_spelled n.0.1 k.0.0 k.0.1 a k.1 in
    (subst (IsHead version) p.0 (tested_name n.0.0 w.0, kind_spelled version k.0.0 kind.0 kind.1), subst (Each IsSeen) p.1 b)

-- a value of the kind, if it is within the limits
abbrev IsGiven : Kind → Given → Type 0
IsGiven kind (Fit v) = IsValue v × (kind_of v ≡ kind)
IsGiven kind Wide = Unit {0}

int_spelled : (w : List ℕ) (g : Given) → int_given w ≡ Some g → IsGiven kinds.Int g
unfolding int_given
int_spelled w g e =
    let t = tested (are_digits (without_leading_sign w)) (if fits_i64 (signed_digits_value 10 w) then Fit (values.Int (signed_digits_value 10 w)) else Wide) g e in
    subst (IsGiven kinds.Int) t.1 (go (fits_i64 (signed_digits_value 10 w)) refl)
  where
    go : (p : Bool) → fits_i64 (signed_digits_value 10 w) ≡ p → IsGiven kinds.Int (if p then Fit (values.Int (signed_digits_value 10 w)) else Wide)
    go true f = (fits_tells (signed_digits_value 10 w) f, refl)
    go false f = tt

time_spelled : (w : List ℕ) (g : Given) → time_given w ≡ Some g → IsGiven kinds.Time g
unfolding time_given
time_spelled w g e =
    let t = tested (are_digits w) (if nat_lt (digits_value 10 w) (2 ^ 64) then Fit (values.Time (digits_value 10 w)) else Wide) g e in
    subst (IsGiven kinds.Time) t.1 (go (nat_lt (digits_value 10 w) (2 ^ 64)) refl)
  where
    small : (n : ℕ) → nat_lt n (2 ^ 64) ≡ true → n < 2 ^ 64
    small n f = grind (arith, nat_tests)

    go : (p : Bool) → nat_lt (digits_value 10 w) (2 ^ 64) ≡ p → IsGiven kinds.Time (if p then Fit (values.Time (digits_value 10 w)) else Wide)
    go true f = (small (digits_value 10 w) f, refl)
    go false f = tt

-- what was read of a value, and the tokens that are left
abbrev Gave : Kind → Given → List Token → Type 0
Gave kind g rest = IsGiven kind g × Each IsSeen rest

gave : (kind : Kind) (g h : Given) (ts rest : List Token) → IsGiven kind g → Each IsSeen ts → ◌≡◌ {A = Option (Given × List Token)} (Some (g, ts)) (Some (h, rest)) → Gave kind h rest
gave kind g h ts rest a b e = let p = pair_in g ts h rest e in (subst (IsGiven kind) p.0 a, subst (Each IsSeen) p.1 b)

given_spelled : (kind : Kind) (ts : List Token) (g : Given) (rest : List Token) → Each IsSeen ts → given_in kind ts ≡ Some (g, rest) → Gave kind g rest
given_spelled kinds.Bool (word w ∷ ts) g rest s e =
    let b = bind_some (truth_named w) (λ b. Some (Fit (values.Bool b), ts)) (g, rest) e in
    gave kinds.Bool (Fit (values.Bool b.0)) g ts rest (tt, refl) s.1 b.2
given_spelled kinds.Int (word w ∷ ts) g rest s e =
    let b = bind_some (int_given w) (λ x. Some (x, ts)) (g, rest) e in
    gave kinds.Int b.0 g ts rest (int_spelled w b.0 b.1) s.1 b.2
given_spelled kinds.Time (word w ∷ ts) g rest s e =
    let b = bind_some (time_given w) (λ x. Some (x, ts)) (g, rest) e in
    gave kinds.Time b.0 g ts rest (time_spelled w b.0 b.1) s.1 b.2
given_spelled kinds.Str (string t ∷ ts) g rest s e = gave kinds.Str (Fit (values.Str t)) g ts rest (s.0, refl) s.1 e
given_spelled kinds.Str (long ∷ ts) g rest s e = gave kinds.Str Wide g ts rest tt s.1 e
given_spelled kinds.Bool [] g rest s e = none_not (g, rest) e
given_spelled kinds.Bool (sign o ∷ ts) g rest s e = none_not (g, rest) e
given_spelled kinds.Bool (string t ∷ ts) g rest s e = none_not (g, rest) e
given_spelled kinds.Bool (long ∷ ts) g rest s e = none_not (g, rest) e
given_spelled kinds.Bool (semicolon ∷ ts) g rest s e = none_not (g, rest) e
given_spelled kinds.Bool (bad ∷ ts) g rest s e = none_not (g, rest) e
given_spelled kinds.Int [] g rest s e = none_not (g, rest) e
given_spelled kinds.Int (sign o ∷ ts) g rest s e = none_not (g, rest) e
given_spelled kinds.Int (string t ∷ ts) g rest s e = none_not (g, rest) e
given_spelled kinds.Int (long ∷ ts) g rest s e = none_not (g, rest) e
given_spelled kinds.Int (semicolon ∷ ts) g rest s e = none_not (g, rest) e
given_spelled kinds.Int (bad ∷ ts) g rest s e = none_not (g, rest) e
given_spelled kinds.Time [] g rest s e = none_not (g, rest) e
given_spelled kinds.Time (sign o ∷ ts) g rest s e = none_not (g, rest) e
given_spelled kinds.Time (string t ∷ ts) g rest s e = none_not (g, rest) e
given_spelled kinds.Time (long ∷ ts) g rest s e = none_not (g, rest) e
given_spelled kinds.Time (semicolon ∷ ts) g rest s e = none_not (g, rest) e
given_spelled kinds.Time (bad ∷ ts) g rest s e = none_not (g, rest) e
given_spelled kinds.Str [] g rest s e = none_not (g, rest) e
given_spelled kinds.Str (word w ∷ ts) g rest s e = none_not (g, rest) e
given_spelled kinds.Str (sign o ∷ ts) g rest s e = none_not (g, rest) e
given_spelled kinds.Str (semicolon ∷ ts) g rest s e = none_not (g, rest) e
given_spelled kinds.Str (bad ∷ ts) g rest s e = none_not (g, rest) e

-- an attribute of the version, if its value is within the limits
abbrev pub IsGivenIn : ℕ → List ℕ × Given → Type 0
IsGivenIn version (name, Fit v) = IsAttributeIn version (name, v)
IsGivenIn version (name, Wide) = Unit {0}

given_in_is : (version : ℕ) (name : List ℕ) (kind : Kind) (g : Given) → IsHead version (name, kind) → IsGiven kind g → IsGivenIn version (name, g)
given_in_is version name kind (Fit v) h k = (h.0, k.0, subst (λ (z : Kind). has_kind version z ≡ true) (sym k.1) h.1)
given_in_is version name kind Wide h k = tt

attribute_spelled : (version : ℕ) (ts : List Token) (a : List ℕ × Given) (rest : List Token) → Each IsSeen ts → attribute_in version ts ≡ Some (a, rest) → IsGivenIn version a × Each IsSeen rest
unfolding attribute_in
attribute_spelled version ts a rest s e =
    let h = bind_some (head_in version ts) (λ h. ◌>>=◌ {B = (List ℕ × Given) × List Token} (given_in h.0.1 h.1) (λ g. Some ((h.0.0, g.0), g.1))) (a, rest) e in
    let g = bind_some (given_in h.0.0.1 h.0.1) (λ g. Some ((h.0.0.0, g.0), g.1)) (a, rest) h.2 in
    let p = pair_in (h.0.0.0, g.0.0) g.0.1 a rest g.2 in
    let x = head_spelled version ts h.0.0 h.0.1 s h.1 in
    let y = given_spelled h.0.0.1 h.0.1 g.0.0 g.0.1 x.1 g.1 in
    (subst (IsGivenIn version) p.0 (given_in_is version h.0.0.0 h.0.0.1 g.0.0 x.0 y.0), subst (Each IsSeen) p.1 y.1)

-- Constraints.

op_spelled : (ts : List Token) (o : Op) (rest : List Token) → Each IsSeen ts → op_in ts ≡ Some (o, rest) → Each IsSeen rest
op_spelled [] o rest s e = none_not (o, rest) e
op_spelled (word w ∷ ts) o rest s e =
    let b = bind_some (op_named w) (λ x. Some (x, ts)) (o, rest) e in
    subst (Each IsSeen) (pair_in b.0 ts o rest b.2).1 s.1
op_spelled (sign p ∷ ts) o rest s e = subst (Each IsSeen) (pair_in p ts o rest e).1 s.1
op_spelled (string t ∷ ts) o rest s e = none_not (o, rest) e
op_spelled (long ∷ ts) o rest s e = none_not (o, rest) e
op_spelled (semicolon ∷ ts) o rest s e = none_not (o, rest) e
op_spelled (bad ∷ ts) o rest s e = none_not (o, rest) e

abbrev IsOperandGiven : Kind → Option Given → Type 0
IsOperandGiven kind None = Unit {0}
IsOperandGiven kind (Some g) = IsGiven kind g

some_spelled : (kind : Kind) (ts : List Token) (u : Option Given) (rest : List Token) → Each IsSeen ts → ◌>>=◌ {B = Option Given × List Token} (given_in kind ts) (λ g. Some (Some g.0, g.1)) ≡ Some (u, rest) → IsOperandGiven kind u × Each IsSeen rest
some_spelled kind ts u rest s e =
    let g = bind_some (given_in kind ts) (λ g. Some (Some g.0, g.1)) (u, rest) e in
    let p = pair_in (Some g.0.0) g.0.1 u rest g.2 in
    let y = given_spelled kind ts g.0.0 g.0.1 s g.1 in
    (subst (IsOperandGiven kind) p.0 y.0, subst (Each IsSeen) p.1 y.1)

operand_spelled : (kind : Kind) (op : Op) (ts : List Token) (u : Option Given) (rest : List Token) → Each IsSeen ts → operand_in kind op ts ≡ Some (u, rest) → IsOperandGiven kind u × Each IsSeen rest
operand_spelled kind ops.Any ts u rest s e = let p = pair_in None ts u rest e in (subst (IsOperandGiven kind) p.0 tt, subst (Each IsSeen) p.1 s)
operand_spelled kind ops.Eq ts u rest s e = some_spelled kind ts u rest s e
operand_spelled kind ops.Ne ts u rest s e = some_spelled kind ts u rest s e
operand_spelled kind ops.Lt ts u rest s e = some_spelled kind ts u rest s e
operand_spelled kind ops.Le ts u rest s e = some_spelled kind ts u rest s e
operand_spelled kind ops.Gt ts u rest s e = some_spelled kind ts u rest s e
operand_spelled kind ops.Ge ts u rest s e = some_spelled kind ts u rest s e
operand_spelled kind ops.Prefix ts u rest s e = some_spelled kind ts u rest s e
operand_spelled kind ops.Suffix ts u rest s e = some_spelled kind ts u rest s e
operand_spelled kind ops.Contains ts u rest s e = some_spelled kind ts u rest s e

abbrev IsOperand : Kind → Option Value → Type 0
IsOperand kind None = Unit {0}
IsOperand kind (Some u) = IsValue u × (kind_of u ≡ kind)

-- a constraint of the version, if the part is whole
abbrev pub IsPartIn : ℕ → Part → Type 0
IsPartIn version (Whole c) = IsConstraintIn version c
IsPartIn version Beyond = Unit {0}
IsPartIn version Empty = Unit {0}

judged_is : (version : ℕ) (f : Option BadConstraint) (c : ConstraintParts) (p : Part) → (f ≡ None → IsConstraintIn version c) → judged f c ≡ Some p → IsPartIn version p
judged_is version None c p h e = subst (IsPartIn version) (same_Some (Whole c) p e) (h refl)
judged_is version (Some EmptyPattern) c p h e = subst (IsPartIn version) (same_Some Empty p e) tt
judged_is version (Some BadOp) c p h e = none_not p e
judged_is version (Some Operand) c p h e = none_not p e
judged_is version (Some WrongKind) c p h e = none_not p e

part_spelled : (version : ℕ) (name : List ℕ) (kind : Kind) (op : Op) (u : Option Given) (p : Part) → IsHead version (name, kind) → IsOperandGiven kind u → part_of name kind op u ≡ Some p → IsPartIn version p
part_spelled version name kind op None p h k e = judged_is version (fault_of kind op None) (record { name = name; kind = kind; op = op; operand = None }) p (λ f. (h.0, is_test kind op None tt f, h.1)) e
part_spelled version name kind op (Some (Fit v)) p h k e = judged_is version (fault_of kind op (Some v)) (record { name = name; kind = kind; op = op; operand = Some v }) p (λ f. (h.0, is_test kind op (Some v) k f, h.1)) e
part_spelled version name kind op (Some Wide) p h k e = let w = tested (has_op kind op) Beyond p e in subst (IsPartIn version) w.1 tt

constraint_spelled : (version : ℕ) (ts : List Token) (p : Part) (rest : List Token) → Each IsSeen ts → constraint_in version ts ≡ Some (p, rest) → IsPartIn version p × Each IsSeen rest
unfolding constraint_in
constraint_spelled version ts p rest s e =
    let h = bind_some (head_in version ts) (λ h. ◌>>=◌ {B = Part × List Token} (op_in h.1) (λ o. ◌>>=◌ {B = Part × List Token} (operand_in h.0.1 o.0 o.1) (λ u. ◌>>=◌ {B = Part × List Token} (part_of h.0.0 h.0.1 o.0 u.0) (λ p. Some (p, u.1))))) (p, rest) e in
    let o = bind_some (op_in h.0.1) (λ o. ◌>>=◌ {B = Part × List Token} (operand_in h.0.0.1 o.0 o.1) (λ u. ◌>>=◌ {B = Part × List Token} (part_of h.0.0.0 h.0.0.1 o.0 u.0) (λ p. Some (p, u.1)))) (p, rest) h.2 in
    let u = bind_some (operand_in h.0.0.1 o.0.0 o.0.1) (λ u. ◌>>=◌ {B = Part × List Token} (part_of h.0.0.0 h.0.0.1 o.0.0 u.0) (λ p. Some (p, u.1))) (p, rest) o.2 in
    let q = bind_some (part_of h.0.0.0 h.0.0.1 o.0.0 u.0.0) (λ p. Some (p, u.0.1)) (p, rest) u.2 in
    let r = pair_in q.0 u.0.1 p rest q.2 in
    let x = head_spelled version ts h.0.0 h.0.1 s h.1 in
    let y = op_spelled h.0.1 o.0.0 o.0.1 x.1 o.1 in
    let z = operand_spelled h.0.0.1 o.0.0 o.0.1 u.0.0 u.0.1 y u.1 in
    (subst (IsPartIn version) r.0 (part_spelled version h.0.0.0 h.0.0.1 o.0.0 u.0.0 q.0 x.0 z.0 q.1), subst (Each IsSeen) r.1 z.1)

-- Lists of parts.

more_spelled : (ts : List Token) (m : Bool) (rest : List Token) → Each IsSeen ts → more_in ts ≡ Some (m, rest) → Each IsSeen rest
more_spelled [] m rest s e = subst (Each IsSeen) (pair_in false [] m rest e).1 tt
more_spelled (semicolon ∷ ts) m rest s e = subst (Each IsSeen) (pair_in true ts m rest e).1 s.1
more_spelled (word w ∷ ts) m rest s e = none_not (m, rest) e
more_spelled (sign o ∷ ts) m rest s e = none_not (m, rest) e
more_spelled (string t ∷ ts) m rest s e = none_not (m, rest) e
more_spelled (long ∷ ts) m rest s e = none_not (m, rest) e
more_spelled (bad ∷ ts) m rest s e = none_not (m, rest) e

parts_spelled : {A : Type 0} (P : A → Type 0) (one : List Token → Option (A × List Token)) → ((ts : List Token) (x : A) (rest : List Token) → Each IsSeen ts → one ts ≡ Some (x, rest) → P x × Each IsSeen rest)
    → (n : ℕ) (read : List A) (ts : List Token) (all : List A) → Each P read → Each IsSeen ts → parts_in one n read ts ≡ Some all → Each P all × (0 < length all)
unfolding parts_in
parts_spelled P one spelled zero read ts all h s e = none_not all e
parts_spelled {A = A} P one spelled (suc n) read ts all h s e =
    let x = bind_some (one ts) (λ x. ◌>>=◌ {B = List A} (more_in x.1) (λ m. if m.0 then parts_in one n (read ++ x.0 ∷ []) m.1 else Some (read ++ x.0 ∷ []))) all e in
    let m = bind_some (more_in x.0.1) (λ m. if m.0 then parts_in one n (read ++ x.0.0 ∷ []) m.1 else Some (read ++ x.0.0 ∷ [])) all x.2 in
    let y = spelled ts x.0.0 x.0.1 s x.1 in
    let more = each_more P read x.0.0 h y.0 in
    let left = more_spelled x.0.1 m.0.0 m.0.1 y.1 m.1 in
    elim (choose m.0.0 (parts_in one n (read ++ x.0.0 ∷ []) m.0.1) (Some (read ++ x.0.0 ∷ [])) (Some all) m.2) [
      | inl a ↦ parts_spelled P one spelled n (read ++ x.0.0 ∷ []) m.0.1 all more left a.1
      | inr a ↦ (let same = same_Some (read ++ x.0.0 ∷ []) all a.1 in subst (λ (z : List A). Each P z × (0 < length z)) same (more, push-not-empty read x.0.0))
    ]

-- what the form of a line has
abbrev pub IsFormIn : ℕ → CommandForm → Type 0
IsFormIn version (control v parts) = (v ≡ verbs.Publish → ⊥) × Each (IsPartIn version) parts × (0 < length parts)
IsFormIn version (publish attributes) = Each (IsGivenIn version) attributes × (0 < length attributes)

control_form : (version n : ℕ) (v : Verb) (ts : List Token) (form : CommandForm) → (v ≡ verbs.Publish → ⊥) → Each IsSeen ts → control_in version n v ts ≡ Some form → IsFormIn version form
control_form version n v ts form not_publish s e =
    let p = bind_some (parts_in (constraint_in version) n [] ts) (λ p. Some (control v p)) form e in
    subst (IsFormIn version) (same_Some (control v p.0) form p.2) (let q = parts_spelled (IsPartIn version) (constraint_in version) (constraint_spelled version) n [] ts p.0 tt s p.1 in (not_publish, q.0, q.1))

publish_form : (version n : ℕ) (ts : List Token) (form : CommandForm) → Each IsSeen ts → publish_in version n ts ≡ Some form → IsFormIn version form
publish_form version n ts form s e =
    let p = bind_some (parts_in (attribute_in version) n [] ts) (λ p. Some (publish p)) form e in
    subst (IsFormIn version) (same_Some (publish p.0) form p.2) (parts_spelled (IsGivenIn version) (attribute_in version) (attribute_spelled version) n [] ts p.0 tt s p.1)

verb_form : (version n : ℕ) (v : Verb) (ts : List Token) (form : CommandForm) → Each IsSeen ts → form_in version n v ts ≡ Some form → IsFormIn version form
verb_form version n verbs.Publish ts form s e = publish_form version n ts form s e
verb_form version n verbs.Subscribe ts form s e = control_form version n verbs.Subscribe ts form (λ h. cc) s e
verb_form version n verbs.Unsubscribe ts form s e = control_form version n verbs.Unsubscribe ts form (λ h. cc) s e
verb_form version n verbs.Advertise ts form s e = control_form version n verbs.Advertise ts form (λ h. cc) s e
verb_form version n verbs.Unadvertise ts form s e = control_form version n verbs.Unadvertise ts form (λ h. cc) s e

pub form_spelled : (version : ℕ) (line : List ℕ) (form : CommandForm) → form_of version line ≡ Some form → IsFormIn version form
unfolding form_of
form_spelled version line form e =
    let v = bind_some (verb_in (tokens line)) (λ v. form_in version (length line) v.0 v.1) form e in
    let w = bind_some (word_in (tokens line)) (λ w. ◌>>=◌ {B = Verb × List Token} (verb_named w.0) (λ v. Some (v, w.1))) (v.0.0, v.0.1) v.1 in
    let x = bind_some (verb_named w.0.0) (λ v. Some (v, w.0.1)) (v.0.0, v.0.1) w.2 in
    let a = word_spelled (tokens line) w.0.0 w.0.1 (seen_in (length line) line) w.1 in
    verb_form version (length line) v.0.0 v.0.1 form (subst (Each IsSeen) (pair_in x.0 w.0.1 v.0.0 v.0.1 x.2).1 a) v.2
