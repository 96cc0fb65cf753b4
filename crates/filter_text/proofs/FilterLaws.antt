-- Proves that constraints, filters and advertisements have one text.
use Rattle.std.proofs.Common.{◌≡◌, ◌≤◌, ℕ, true, refl, sym, ap, subst, ◌∙◌, inl, inr, arith, List, [], ◌∷◌, ◌++◌, length, append_assoc}
use Rattle.std.specs.Prelude.{Some, None, nat_le, nat_lt, ◌&&◌, codes, if◌then◌else◌}
use Rattle.std.specs.declared.option.Option.{Option}
use Rattle.std.specs.Str.{bytes_eq}
use Rattle.std.proofs.lemmas.List.{append-nil}
use Rattle.std.proofs.lemmas.Bool.Decides.{nat_tests}
use Rattle.std.proofs.lemmas.Option.{same_Some}
use Rattle.filter_constraints.proofs.BytesLemmas.{bytes_eq-tells}
use Rattle.filter_constraints.proofs.FaultLaws.{fault_none}
use Rattle.filter_values.specs.Name.{IsName}
use Rattle.filter_values.specs.Value.{IsValue, kind_of}
use Rattle.filter_values.specs.declared.value.Kind.{Kind}
use Rattle.filter_values.specs.declared.value.Kind.TheVariants as kinds
use Rattle.filter_values.specs.declared.value.Value.{Value}
use Rattle.filter_values.specs.declared.value.Value.TheVariants as values
use Rattle.filter_constraints.specs.declared.op.Op.{Op}
use Rattle.filter_constraints.specs.declared.op.Op.TheVariants as ops
use Rattle.filter_constraints.specs.declared.constraint.BadConstraint.{BadConstraint}
use Rattle.filter_constraints.specs.Constraint.{ConstraintParts, IsTest, IsConstraint}
use Rattle.filter_constraints.specs.Faults.{fault_of}
use Rattle.filter_types.specs.Canonical.{AreConstraints, is_listed, is_rising}
use Rattle.filter_types.proofs.Shapes.{listed_told, listed_of}
use Rattle.filter_text.specs.ValueText.{op_word, kind_word, value_text}
use Rattle.filter_text.specs.MessageText.{Each}
use Rattle.filter_text.specs.NoticeText.{joined}
use Rattle.filter_text.specs.FilterText.{test_text, constraint_text, constraints_text, AreNamed, IsWhole, IsListText}
use Rattle.filter_text.specs.Reading.{◌>>=◌}
use Rattle.filter_text.specs.Words.{word_at, space_at, head_at}
use Rattle.filter_text.specs.Values.{value_at}
use Rattle.filter_text.specs.Items.{items_at}
use Rattle.filter_text.specs.Filters.{op_named, op_at, some_at, operand_at, made, constraint_at, settled, list_at, list_of}
use Rattle.filter_text.proofs.Options.{bind_some, pair_in, choose, tested, none_not, whole_is}
use Rattle.filter_text.proofs.WordLaws.{IsStopped, word_again, word_spelled, space_spelled, head_again, head_spelled}
use Rattle.filter_text.proofs.ValueLaws.{value_again, value_spelled}
use Rattle.filter_text.proofs.ItemsLaws.{IsEnd, items_again, items_spelled}
use Rattle.std.proofs.lemmas.Bool.{and_parts}

op_again : (op : Op) (tail : List ℕ) → IsStopped tail → op_at (op_word op ++ tail) ≡ Some (op, tail)
unfolding op_at
op_again ops.Any tail s = rw (word_again [] (op_word ops.Any) tail refl s) refl
op_again ops.Eq tail s = rw (word_again [] (op_word ops.Eq) tail refl s) refl
op_again ops.Ne tail s = rw (word_again [] (op_word ops.Ne) tail refl s) refl
op_again ops.Lt tail s = rw (word_again [] (op_word ops.Lt) tail refl s) refl
op_again ops.Le tail s = rw (word_again [] (op_word ops.Le) tail refl s) refl
op_again ops.Gt tail s = rw (word_again [] (op_word ops.Gt) tail refl s) refl
op_again ops.Ge tail s = rw (word_again [] (op_word ops.Ge) tail refl s) refl
op_again ops.Prefix tail s = rw (word_again [] (op_word ops.Prefix) tail refl s) refl
op_again ops.Suffix tail s = rw (word_again [] (op_word ops.Suffix) tail refl s) refl
op_again ops.Contains tail s = rw (word_again [] (op_word ops.Contains) tail refl s) refl

op_found : (w text : List ℕ) (o p : Op) (others : Option Op) → (bytes_eq w text ≡ true) × (Some o ≡ Some p) → text ≡ op_word o → w ≡ op_word p
op_found w text o p others a t = bytes_eq-tells w text a.0 ∙ t ∙ ap op_word (same_Some o p a.1)

op_is : (w : List ℕ) (p : Op) → op_named w ≡ Some p → w ≡ op_word p
op_is w p e = elim (choose (bytes_eq w (codes "any")) _ _ _ e) [
  | inl a ↦ op_found w (codes "any") ops.Any p None a refl
  | inr e ↦ elim (choose (bytes_eq w (codes "=")) _ _ _ e.1) [
    | inl a ↦ op_found w (codes "=") ops.Eq p None a refl
    | inr e ↦ elim (choose (bytes_eq w (codes "!=")) _ _ _ e.1) [
      | inl a ↦ op_found w (codes "!=") ops.Ne p None a refl
      | inr e ↦ elim (choose (bytes_eq w (codes "<")) _ _ _ e.1) [
        | inl a ↦ op_found w (codes "<") ops.Lt p None a refl
        | inr e ↦ elim (choose (bytes_eq w (codes "<=")) _ _ _ e.1) [
          | inl a ↦ op_found w (codes "<=") ops.Le p None a refl
          | inr e ↦ later-op w p e.1
        ]
      ]
    ]
  ]
]
  where
    later-op : (w : List ℕ) (p : Op) → (if bytes_eq w (codes ">") then Some ops.Gt
        else if bytes_eq w (codes ">=") then Some ops.Ge
        else if bytes_eq w (codes "prefix") then Some ops.Prefix
        else if bytes_eq w (codes "suffix") then Some ops.Suffix
        else if bytes_eq w (codes "contains") then Some ops.Contains
        else None) ≡ Some p → w ≡ op_word p
    later-op w p e = elim (choose (bytes_eq w (codes ">")) _ _ _ e) [
      | inl a ↦ op_found w (codes ">") ops.Gt p None a refl
      | inr e ↦ elim (choose (bytes_eq w (codes ">=")) _ _ _ e.1) [
        | inl a ↦ op_found w (codes ">=") ops.Ge p None a refl
        | inr e ↦ elim (choose (bytes_eq w (codes "prefix")) _ _ _ e.1) [
          | inl a ↦ op_found w (codes "prefix") ops.Prefix p None a refl
          | inr e ↦ elim (choose (bytes_eq w (codes "suffix")) _ _ _ e.1) [
            | inl a ↦ op_found w (codes "suffix") ops.Suffix p None a refl
            | inr e ↦ elim (choose (bytes_eq w (codes "contains")) _ _ _ e.1) [
              | inl a ↦ op_found w (codes "contains") ops.Contains p None a refl
              | inr e ↦ none_not p e.1
            ]
          ]
        ]
      ]
    ]

op_spelled : (bytes : List ℕ) (op : Op) (rest : List ℕ) → op_at bytes ≡ Some (op, rest) → bytes ≡ op_word op ++ rest
unfolding op_at
op_spelled bytes op rest e =
    let w = bind_some (op_named (word_at [] bytes).0) (λ o. Some (o, (word_at [] bytes).1)) (op, rest) e in
    let p = pair_in w.0 (word_at [] bytes).1 op rest w.2 in
    word_spelled bytes (op_word op) rest (op_is (word_at [] bytes).0 w.0 w.1 ∙ ap op_word p.0) p.1

operand_value : (kind : Kind) (op : Op) (u : Value) → IsTest kind op (Some u) → IsValue u × (kind_of u ≡ kind)
operand_value kinds.Bool op (values.Bool u) h = (tt, refl)
operand_value kinds.Int op (values.Int u) h = (h.1, refl)
operand_value kinds.Str op (values.Str u) h = (h.1, refl)
operand_value kinds.Time op (values.Time u) h = (h.1, refl)
operand_value kinds.Bool op (values.Int u) h = absurd h
operand_value kinds.Bool op (values.Str u) h = absurd h
operand_value kinds.Int op (values.Bool u) h = absurd h
operand_value kinds.Int op (values.Str u) h = absurd h
operand_value kinds.Str op (values.Bool u) h = absurd h
operand_value kinds.Str op (values.Int u) h = absurd h
operand_value kinds.Time op (values.Bool u) h = absurd h
operand_value kinds.Time op (values.Int u) h = absurd h
operand_value kinds.Time op (values.Str u) h = absurd h
operand_value kinds.Bool op (values.Time u) h = absurd h
operand_value kinds.Int op (values.Time u) h = absurd h
operand_value kinds.Str op (values.Time u) h = absurd h

not_any : (kind : Kind) (u : Value) → IsTest kind ops.Any (Some u) → ⊥
not_any kinds.Bool (values.Bool u) h = h
not_any kinds.Int (values.Int u) h = h.0
not_any kinds.Str (values.Str u) h = h.0
not_any kinds.Time (values.Time u) h = h.0
not_any kinds.Bool (values.Int u) h = h
not_any kinds.Bool (values.Str u) h = h
not_any kinds.Int (values.Bool u) h = h
not_any kinds.Int (values.Str u) h = h
not_any kinds.Str (values.Bool u) h = h
not_any kinds.Str (values.Int u) h = h
not_any kinds.Time (values.Bool u) h = h
not_any kinds.Time (values.Int u) h = h
not_any kinds.Time (values.Str u) h = h
not_any kinds.Bool (values.Time u) h = h
not_any kinds.Int (values.Time u) h = h
not_any kinds.Str (values.Time u) h = h

given : (kind : Kind) (op : Op) (u : Value) (bytes : List ℕ) → IsTest kind op (Some u) → operand_at kind op bytes ≡ some_at kind bytes
unfolding operand_at
given kind ops.Any u bytes h = absurd (not_any kind u h)
given kind ops.Eq u bytes h = refl
given kind ops.Ne u bytes h = refl
given kind ops.Lt u bytes h = refl
given kind ops.Le u bytes h = refl
given kind ops.Gt u bytes h = refl
given kind ops.Ge u bytes h = refl
given kind ops.Prefix u bytes h = refl
given kind ops.Suffix u bytes h = refl
given kind ops.Contains u bytes h = refl

none_at : (kind : Kind) (op : Op) (bytes : List ℕ) → op ≡ ops.Any → operand_at kind op bytes ≡ Some (None, bytes)
unfolding operand_at
none_at kind op bytes e = rw e refl

some_again : (kind : Kind) (u : Value) (tail : List ℕ) → IsValue u → kind_of u ≡ kind → IsStopped tail → some_at kind (32 ∷ (value_text u ++ tail)) ≡ Some (Some u, tail)
some_again kind u tail is e s = rw (← e) (rw (value_again u tail is s) refl)

-- an operand that is read is of the kind and written behind a space
abbrev pub tail_text : Option Value → List ℕ
tail_text None = []
tail_text (Some u) = 32 ∷ value_text u

abbrev IsOperand : Kind → Option Value → Type 0
IsOperand kind None = Unit {0}
IsOperand kind (Some u) = IsValue u × (kind_of u ≡ kind)

some_spelled : (kind : Kind) (bytes : List ℕ) (u : Option Value) (rest : List ℕ) → some_at kind bytes ≡ Some (u, rest) → IsOperand kind u × (bytes ≡ tail_text u ++ rest)
some_spelled kind bytes u rest e =
    let r = bind_some (space_at bytes) (λ r. value_at kind r.1 >>= λ v. Some (Some v.0, v.1)) (u, rest) e in
    let v = bind_some (value_at kind r.0.1) (λ v. Some (Some v.0, v.1)) (u, rest) r.2 in
    let p = pair_in (Some v.0.0) v.0.1 u rest v.2 in
    let is = value_spelled kind r.0.1 v.0.0 v.0.1 v.1 in
    subst (λ (z : Option Value). IsOperand kind z × (bytes ≡ tail_text z ++ rest)) p.0 ((is.0, is.1), behind bytes r.0.1 v.0.1 v.0.0 (space_spelled bytes r.0.1 r.0.0 r.1) is.2 p.1)
  where
    behind : (bytes a b : List ℕ) (v : Value) → bytes ≡ 32 ∷ a → a ≡ value_text v ++ b → b ≡ rest → bytes ≡ 32 ∷ (value_text v ++ rest)
    behind bytes a b v one two three = one ∙ rw (two, three) refl

operand_spelled : (kind : Kind) (op : Op) (bytes : List ℕ) (u : Option Value) (rest : List ℕ) → operand_at kind op bytes ≡ Some (u, rest) → IsOperand kind u × (bytes ≡ tail_text u ++ rest)
unfolding operand_at
operand_spelled kind ops.Any bytes u rest e = let p = pair_in None bytes u rest e in subst (λ (z : Option Value). IsOperand kind z × (bytes ≡ tail_text z ++ rest)) p.0 (tt, p.1)
operand_spelled kind ops.Eq bytes u rest e = some_spelled kind bytes u rest e
operand_spelled kind ops.Ne bytes u rest e = some_spelled kind bytes u rest e
operand_spelled kind ops.Lt bytes u rest e = some_spelled kind bytes u rest e
operand_spelled kind ops.Le bytes u rest e = some_spelled kind bytes u rest e
operand_spelled kind ops.Gt bytes u rest e = some_spelled kind bytes u rest e
operand_spelled kind ops.Ge bytes u rest e = some_spelled kind bytes u rest e
operand_spelled kind ops.Prefix bytes u rest e = some_spelled kind bytes u rest e
operand_spelled kind ops.Suffix bytes u rest e = some_spelled kind bytes u rest e
operand_spelled kind ops.Contains bytes u rest e = some_spelled kind bytes u rest e

-- parts without a fault, whose operand is a value of the kind, are a test
pub is_test : (kind : Kind) (op : Op) (operand : Option Value) → IsOperand kind operand → fault_of kind op operand ≡ None → IsTest kind op operand
is_test kind ops.Any None is e = refl
is_test kind ops.Eq None is e = absurd cc
is_test kind ops.Ne None is e = absurd cc
is_test kinds.Bool ops.Lt None is e = absurd cc
is_test kinds.Bool ops.Le None is e = absurd cc
is_test kinds.Bool ops.Gt None is e = absurd cc
is_test kinds.Bool ops.Ge None is e = absurd cc
is_test kinds.Bool ops.Prefix None is e = absurd cc
is_test kinds.Bool ops.Suffix None is e = absurd cc
is_test kinds.Bool ops.Contains None is e = absurd cc
is_test kinds.Int ops.Lt None is e = absurd cc
is_test kinds.Int ops.Le None is e = absurd cc
is_test kinds.Int ops.Gt None is e = absurd cc
is_test kinds.Int ops.Ge None is e = absurd cc
is_test kinds.Int ops.Prefix None is e = absurd cc
is_test kinds.Int ops.Suffix None is e = absurd cc
is_test kinds.Int ops.Contains None is e = absurd cc
is_test kinds.Str ops.Lt None is e = absurd cc
is_test kinds.Str ops.Le None is e = absurd cc
is_test kinds.Str ops.Gt None is e = absurd cc
is_test kinds.Str ops.Ge None is e = absurd cc
is_test kinds.Str ops.Prefix None is e = absurd cc
is_test kinds.Str ops.Suffix None is e = absurd cc
is_test kinds.Str ops.Contains None is e = absurd cc
is_test kinds.Time ops.Lt None is e = absurd cc
is_test kinds.Time ops.Le None is e = absurd cc
is_test kinds.Time ops.Gt None is e = absurd cc
is_test kinds.Time ops.Ge None is e = absurd cc
is_test kinds.Time ops.Prefix None is e = absurd cc
is_test kinds.Time ops.Suffix None is e = absurd cc
is_test kinds.Time ops.Contains None is e = absurd cc
is_test kinds.Bool ops.Eq (Some (values.Bool u)) is e = tt
is_test kinds.Bool ops.Ne (Some (values.Bool u)) is e = tt
is_test kinds.Bool ops.Any (Some (values.Bool u)) is e = absurd cc
is_test kinds.Bool ops.Lt (Some (values.Bool u)) is e = absurd cc
is_test kinds.Bool ops.Le (Some (values.Bool u)) is e = absurd cc
is_test kinds.Bool ops.Gt (Some (values.Bool u)) is e = absurd cc
is_test kinds.Bool ops.Ge (Some (values.Bool u)) is e = absurd cc
is_test kinds.Bool ops.Prefix (Some (values.Bool u)) is e = absurd cc
is_test kinds.Bool ops.Suffix (Some (values.Bool u)) is e = absurd cc
is_test kinds.Bool ops.Contains (Some (values.Bool u)) is e = absurd cc
is_test kinds.Bool op (Some (values.Int u)) is e = absurd (let k = is.1 in cc)
is_test kinds.Bool op (Some (values.Str u)) is e = absurd (let k = is.1 in cc)
is_test kinds.Int op (Some (values.Bool u)) is e = absurd (let k = is.1 in cc)
is_test kinds.Int op (Some (values.Str u)) is e = absurd (let k = is.1 in cc)
is_test kinds.Str op (Some (values.Bool u)) is e = absurd (let k = is.1 in cc)
is_test kinds.Str op (Some (values.Int u)) is e = absurd (let k = is.1 in cc)
is_test kinds.Time op (Some (values.Bool u)) is e = absurd (let k = is.1 in cc)
is_test kinds.Time op (Some (values.Int u)) is e = absurd (let k = is.1 in cc)
is_test kinds.Time op (Some (values.Str u)) is e = absurd (let k = is.1 in cc)
is_test kinds.Bool op (Some (values.Time u)) is e = absurd (let k = is.1 in cc)
is_test kinds.Int op (Some (values.Time u)) is e = absurd (let k = is.1 in cc)
is_test kinds.Str op (Some (values.Time u)) is e = absurd (let k = is.1 in cc)
is_test kinds.Int ops.Eq (Some (values.Int u)) is e = (tt, is.0)
is_test kinds.Int ops.Ne (Some (values.Int u)) is e = (tt, is.0)
is_test kinds.Int ops.Lt (Some (values.Int u)) is e = (tt, is.0)
is_test kinds.Int ops.Le (Some (values.Int u)) is e = (tt, is.0)
is_test kinds.Int ops.Gt (Some (values.Int u)) is e = (tt, is.0)
is_test kinds.Int ops.Ge (Some (values.Int u)) is e = (tt, is.0)
is_test kinds.Int ops.Any (Some (values.Int u)) is e = absurd cc
is_test kinds.Int ops.Prefix (Some (values.Int u)) is e = absurd cc
is_test kinds.Int ops.Suffix (Some (values.Int u)) is e = absurd cc
is_test kinds.Int ops.Contains (Some (values.Int u)) is e = absurd cc
is_test kinds.Time ops.Eq (Some (values.Time u)) is e = (tt, is.0)
is_test kinds.Time ops.Ne (Some (values.Time u)) is e = (tt, is.0)
is_test kinds.Time ops.Lt (Some (values.Time u)) is e = (tt, is.0)
is_test kinds.Time ops.Le (Some (values.Time u)) is e = (tt, is.0)
is_test kinds.Time ops.Gt (Some (values.Time u)) is e = (tt, is.0)
is_test kinds.Time ops.Ge (Some (values.Time u)) is e = (tt, is.0)
is_test kinds.Time ops.Any (Some (values.Time u)) is e = absurd cc
is_test kinds.Time ops.Prefix (Some (values.Time u)) is e = absurd cc
is_test kinds.Time ops.Suffix (Some (values.Time u)) is e = absurd cc
is_test kinds.Time ops.Contains (Some (values.Time u)) is e = absurd cc
is_test kinds.Str ops.Eq (Some (values.Str u)) is e = (tt, is.0)
is_test kinds.Str ops.Ne (Some (values.Str u)) is e = (tt, is.0)
is_test kinds.Str ops.Lt (Some (values.Str u)) is e = (tt, is.0)
is_test kinds.Str ops.Le (Some (values.Str u)) is e = (tt, is.0)
is_test kinds.Str ops.Gt (Some (values.Str u)) is e = (tt, is.0)
is_test kinds.Str ops.Ge (Some (values.Str u)) is e = (tt, is.0)
is_test kinds.Str ops.Any (Some (values.Str u)) is e = absurd cc
is_test kinds.Str ops.Prefix (Some (values.Str [])) is e = absurd cc
is_test kinds.Str ops.Suffix (Some (values.Str [])) is e = absurd cc
is_test kinds.Str ops.Contains (Some (values.Str [])) is e = absurd cc
is_test kinds.Str ops.Prefix (Some (values.Str (b ∷ u))) is e = (omega arith, is.0)
is_test kinds.Str ops.Suffix (Some (values.Str (b ∷ u))) is e = (omega arith, is.0)
is_test kinds.Str ops.Contains (Some (values.Str (b ∷ u))) is e = (omega arith, is.0)

-- what each constraint is
abbrev pub IsSound : ConstraintParts → Type 0
IsSound c = IsName c.name × IsConstraint c

test_again : (c : ConstraintParts) (tail : List ℕ) → IsSound c → IsStopped tail → constraint_at (c.name ++ 32 ∷ (kind_word c.kind ++ 32 ∷ (test_text c.op c.operand ++ tail))) ≡ Some (c, tail)
unfolding constraint_at
test_again c tail is s = rw (head_again c.name c.kind (32 ∷ (test_text c.op c.operand ++ tail)) is.0 refl) (go c.operand is.1)
  where
    go : (operand : Option Value) → IsTest c.kind c.op operand → (op_at (test_text c.op operand ++ tail) >>= λ o. operand_at c.kind o.0 o.1 >>= λ u. made (fault_of c.kind o.0 u.0) (record { name = c.name; kind = c.kind; op = o.0; operand = u.0 }) u.1) ≡ Some (record { name = c.name; kind = c.kind; op = c.op; operand = operand }, tail)
    go None h = rw (op_again c.op tail s, none_at c.kind c.op tail h, fault_none c.kind c.op None h) refl
    go (Some u) h =
        let v = operand_value c.kind c.op u h in
        rw (append_assoc (op_word c.op) (32 ∷ value_text u) tail, op_again c.op (32 ∷ (value_text u ++ tail)) refl, given c.kind c.op u (32 ∷ (value_text u ++ tail)) h, some_again c.kind u tail v.0 v.1 s, fault_none c.kind c.op (Some u) h) refl

regrouped : (c : ConstraintParts) (tail : List ℕ) → constraint_text c ++ tail ≡ c.name ++ 32 ∷ (kind_word c.kind ++ 32 ∷ (test_text c.op c.operand ++ tail))
unfolding constraint_text
regrouped c tail = simp append_assoc

constraint_again : (c : ConstraintParts) (tail : List ℕ) → IsSound c → IsStopped tail → constraint_at (constraint_text c ++ tail) ≡ Some (c, tail)
constraint_again c tail is s = ap constraint_at (regrouped c tail) ∙ test_again c tail is s

made_is : (f : Option BadConstraint) (c d : ConstraintParts) (r rest : List ℕ) → made f c r ≡ Some (d, rest) → (f ≡ None) × (c ≡ d) × (r ≡ rest)
made_is None c d r rest e = let p = pair_in c r d rest e in (refl, p.0, p.1)
made_is (Some f) c d r rest e = none_not (d, rest) e

tested_text : (op : Op) (u : Option Value) (rest : List ℕ) → op_word op ++ (tail_text u ++ rest) ≡ test_text op u ++ rest
tested_text op None rest = refl
tested_text op (Some u) rest = sym (append_assoc (op_word op) (32 ∷ value_text u) rest)

composed : (bytes name : List ℕ) (k : Kind) (a b : List ℕ) (op : Op) (c : List ℕ) (u : Option Value) (d rest : List ℕ) → bytes ≡ name ++ 32 ∷ (kind_word k ++ a) → a ≡ 32 ∷ b → b ≡ op_word op ++ c → c ≡ tail_text u ++ d → d ≡ rest
    → bytes ≡ name ++ 32 ∷ (kind_word k ++ 32 ∷ (test_text op u ++ rest))
composed bytes name k a b op c u d rest one two three four five = one ∙ rw (two, three, four, five, tested_text op u rest) refl

constraint_spelled : (bytes : List ℕ) (c : ConstraintParts) (rest : List ℕ) → constraint_at bytes ≡ Some (c, rest) → IsSound c × (bytes ≡ constraint_text c ++ rest)
unfolding constraint_at
constraint_spelled bytes c rest e =
    let h = bind_some (head_at bytes) (λ h. space_at h.1 >>= λ r. op_at r.1 >>= λ o. operand_at h.0.1 o.0 o.1 >>= λ u. made (fault_of h.0.1 o.0 u.0) (record { name = h.0.0; kind = h.0.1; op = o.0; operand = u.0 }) u.1) (c, rest) e in
    let r = bind_some (space_at h.0.1) (λ r. op_at r.1 >>= λ o. operand_at h.0.0.1 o.0 o.1 >>= λ u. made (fault_of h.0.0.1 o.0 u.0) (record { name = h.0.0.0; kind = h.0.0.1; op = o.0; operand = u.0 }) u.1) (c, rest) h.2 in
    let o = bind_some (op_at r.0.1) (λ o. operand_at h.0.0.1 o.0 o.1 >>= λ u. made (fault_of h.0.0.1 o.0 u.0) (record { name = h.0.0.0; kind = h.0.0.1; op = o.0; operand = u.0 }) u.1) (c, rest) r.2 in
    let u = bind_some (operand_at h.0.0.1 o.0.0 o.0.1) (λ u. made (fault_of h.0.0.1 o.0.0 u.0) (record { name = h.0.0.0; kind = h.0.0.1; op = o.0.0; operand = u.0 }) u.1) (c, rest) o.2 in
    let m = made_is (fault_of h.0.0.1 o.0.0 u.0.0) (record { name = h.0.0.0; kind = h.0.0.1; op = o.0.0; operand = u.0.0 }) c u.0.1 rest u.2 in
    let one = head_spelled bytes h.0.0.0 h.0.0.1 h.0.1 h.1 in
    let two = space_spelled h.0.1 r.0.1 r.0.0 r.1 in
    let three = op_spelled r.0.1 o.0.0 o.0.1 o.1 in
    let four = operand_spelled h.0.0.1 o.0.0 o.0.1 u.0.0 u.0.1 u.1 in
    let all = composed bytes h.0.0.0 h.0.0.1 h.0.1 r.0.1 o.0.0 o.0.1 u.0.0 u.0.1 rest one.1 two three four.1 m.2 in
    subst (λ (z : ConstraintParts). IsSound z × (bytes ≡ constraint_text z ++ rest)) m.1
    ((one.0, is_test h.0.0.1 o.0.0 u.0.0 four.0 m.0), all ∙ sym (regrouped (record { name = h.0.0.0; kind = h.0.0.1; op = o.0.0; operand = u.0.0 }) rest))

named_of : (f : List ConstraintParts) → Each IsSound f → AreNamed f
named_of [] is = tt
named_of (c ∷ f) is = (is.0.0, named_of f is.1)

constraints_are : (f : List ConstraintParts) → Each IsSound f → AreConstraints f
constraints_are [] is = tt
constraints_are (c ∷ f) is = (is.0.1, constraints_are f is.1)

each_of : (f : List ConstraintParts) → AreNamed f → AreConstraints f → Each IsSound f
each_of [] names are = tt
each_of (c ∷ f) names are = ((names.0, are.0), each_of f names.1 are.1)

whole_of : (most : ℕ) (f : List ConstraintParts) → Each IsSound f → is_listed most f ≡ true → IsWhole most f
unfolding is_listed
whole_of most f each e =
    let w = and_parts (nat_lt 0 (length f)) (nat_le (length f) most && is_rising f) e in
    let v = and_parts (nat_le (length f) most) (is_rising f) w.1 in
    let a : nat_lt 0 (length f) ≡ true = w.0 in
    let b : nat_le (length f) most ≡ true = v.0 in
    record { listed = listed_of most f (grind (arith, nat_tests)) (grind (arith, nat_tests)) v.1 (constraints_are f each); named = named_of f each }

pub list_again : (most : ℕ) (f : List ConstraintParts) (tail : List ℕ) → IsWhole most f → IsEnd tail → list_at most (constraints_text f ++ tail) ≡ Some (f, tail)
unfolding list_at constraints_text
list_again most [] tail is end = absurd (omega (arith, is.listed.some))
list_again most (c ∷ f) tail is end =
    let few : length (c ∷ f) ≤ most = is.listed.few in
    let e : items_at constraint_at most [] (joined constraint_text (c ∷ f) ++ tail) ≡ Some (c ∷ f, tail) = items_again IsSound constraint_text constraint_at constraint_again most [] c f tail (each_of (c ∷ f) is.named is.listed.whole) (omega arith) end in
    rw (e, listed_told most (c ∷ f) is.listed) refl

pub list_spelled : (most : ℕ) (bytes : List ℕ) (f : List ConstraintParts) (rest : List ℕ) → list_at most bytes ≡ Some (f, rest) → IsWhole most f × (bytes ≡ constraints_text f ++ rest)
unfolding list_at constraints_text
list_spelled most bytes f rest e =
    let x = bind_some (items_at constraint_at most [] bytes) (λ x. settled most x.0 >>= λ f. Some (f, x.1)) (f, rest) e in
    let y = bind_some (settled most x.0.0) (λ f. Some (f, x.0.1)) (f, rest) x.2 in
    let p = pair_in y.0 x.0.1 f rest y.2 in
    let t = tested (is_listed most x.0.0) x.0.0 y.0 y.1 in
    let j = items_spelled IsSound constraint_text constraint_at constraint_spelled most [] bytes x.0.0 x.0.1 x.1 in
    let same : j.0 ∷ j.1 ≡ f = sym j.3 ∙ t.1 ∙ p.0 in
    let is : is_listed most (j.0 ∷ j.1) ≡ true = ap (is_listed most) (sym j.3) ∙ t.0 in
    subst (λ (z : List ConstraintParts). IsWhole most z × (bytes ≡ joined constraint_text z ++ rest)) same (whole_of most (j.0 ∷ j.1) j.2 is, j.4 ∙ ap (λ (z : List ℕ). joined constraint_text (j.0 ∷ j.1) ++ z) p.1)

pub list_found : (most : ℕ) (bytes : List ℕ) (f : List ConstraintParts) → list_of most bytes ≡ Some f → IsListText most bytes f
list_found most bytes f e =
    let w = list_spelled most bytes f [] (whole_is (list_at most bytes) f e) in
    record { whole = w.0; text = w.1 ∙ append-nil (constraints_text f) }

pub text_again : (most : ℕ) (f : List ConstraintParts) → IsWhole most f → list_of most (constraints_text f) ≡ Some f
text_again most f is =
    let e : list_at most (constraints_text f) ≡ Some (f, []) = ap (list_at most) (sym (append-nil (constraints_text f))) ∙ list_again most f [] is (record { stopped = tt; last = refl }) in
    rw e refl

pub list_outside : (most : ℕ) (bytes : List ℕ) → list_of most bytes ≡ None → (f : List ConstraintParts) → IsListText most bytes f → ⊥
list_outside most bytes none f is = none_not f (sym none ∙ ap (list_of most) is.text ∙ text_again most f is.whole)
