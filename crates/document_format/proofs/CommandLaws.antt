-- Proves that the canonical line of a command spells that command.
use Rattle.std.proofs.Common.{◌≡◌, ℕ, suc, ◌≤◌, true, false, refl, sym, ap, subst, ◌∙◌, arith, List, [], ◌∷◌, ◌++◌, length, map}
use Rattle.std.specs.Prelude.{Some, None, nat_lt, codes}
use Rattle.std.specs.List.{list_any}
use Rattle.std.specs.List.Sorted.{IsPermutation}
use Rattle.std.proofs.lemmas.List.Sorted.{IsPermutation-refl}
use Rattle.std.proofs.lemmas.Bool.Decides.{nat_tests}
use Rattle.filter_constraints.specs.Constraint.{ConstraintParts}
use Rattle.filter_values.specs.Value.{kind_of}
use Rattle.filter_types.specs.Canonical.{canonical, AreConstraints}
use Rattle.filter_types.specs.Notice.{Attribute, AreNames, AreValues}
use Rattle.filter_text.specs.FilterText.{constraint_text, constraints_text, AreNamed}
use Rattle.filter_text.specs.NoticeText.{attribute_text, notice_text}
use Rattle.filter_text.specs.MessageText.{Each}
use Rattle.filter_text.specs.declared.command.Command.{Command}
use Rattle.filter_text.specs.declared.command.Command.TheVariants as commands
use Rattle.document_script.specs.declared.form.Part.{Part}
use Rattle.document_script.specs.declared.form.Part.TheVariants.{Whole}
use Rattle.document_script.specs.declared.verb.Verb.{Verb}
use Rattle.document_script.specs.declared.verb.Verb.TheVariants as verbs
use Rattle.document_script.specs.Tokens.{Token, tokens}
use Rattle.document_script.specs.Tokens.Token.{word}
use Rattle.document_script.specs.Form.{CommandForm, constraint_in, attribute_in, parts_in, verb_in, form_in}
use Rattle.document_script.specs.Form.CommandForm.{control, publish}
use Rattle.document_script.specs.Command.{IsCommandOf, Spells, form_of, is_beyond, is_empty, is_wide, wholes, fits, control_fault, publish_fault, most}
use Rattle.document_script.proofs.CommandLaws.{control_none}
use Rattle.document_format.specs.CommandText.{has_kind, command_text, IsListIn, IsNoticeIn, IsCommandIn}
use Rattle.document_format.proofs.Cuts.{word_cut, space_cut}
use Rattle.document_format.proofs.PartLaws.{IsConstraintIn, constraint_tokens, constraint_cut, constraint_again, IsAttributeIn, attribute_tokens, attribute_part, attribute_cut, attribute_again}
use Rattle.document_format.proofs.ListLaws.{parts_again, joined_long, canonical_same, rising_once}

-- The parts.

constraints_in : (version : ℕ) (f : List ConstraintParts) → AreNamed f → AreConstraints f → Each (λ c. has_kind version c.kind ≡ true) f → Each (IsConstraintIn version) f
constraints_in version [] a b c = tt
constraints_in version (x ∷ f) a b c = ((a.0, b.0, c.0), constraints_in version f a.1 b.1 c.1)

attributes_in : (version : ℕ) (n : List Attribute) → AreNames n → AreValues n → Each (λ a. has_kind version (kind_of a.1) ≡ true) n → Each (IsAttributeIn version) n
attributes_in version [] a b c = tt
attributes_in version (x ∷ n) a b c = ((a.0, b.0, c.0), attributes_in version n a.1 b.1 c.1)

pub whole_parts : (f : List ConstraintParts) → wholes (map Whole f) ≡ f
whole_parts [] = refl
whole_parts (c ∷ f) = ap (λ (z : List ConstraintParts). c ∷ z) (whole_parts f)

pub none_beyond : (f : List ConstraintParts) → list_any is_beyond (map Whole f) ≡ false
none_beyond [] = refl
none_beyond (c ∷ f) = none_beyond f

pub none_empty : (f : List ConstraintParts) → list_any is_empty (map Whole f) ≡ false
none_empty [] = refl
none_empty (c ∷ f) = none_empty f

pub fit_parts : (n : List Attribute) → fits (map attribute_part n) ≡ n
fit_parts [] = refl
fit_parts (a ∷ n) = ap (λ (z : List Attribute). a ∷ z) (fit_parts n)

pub none_wide : (n : List Attribute) → list_any is_wide (map attribute_part n) ≡ false
none_wide [] = refl
none_wide (a ∷ n) = none_wide n

control_parts : (most version n : ℕ) (f : List ConstraintParts) → IsListIn most version f → length f ≤ n → parts_in (constraint_in version) n [] (tokens (constraints_text f)) ≡ Some (map Whole f)
unfolding constraints_text
control_parts most version n [] is l = absurd (omega (arith, is.whole.listed.some))
control_parts most version n (c ∷ f) is l = parts_again (IsConstraintIn version) constraint_text constraint_tokens Whole (constraint_in version)
    (record { cut = constraint_cut version; again = constraint_again version }) n [] c f (constraints_in version (c ∷ f) is.whole.named is.whole.listed.whole is.kinds) (omega arith)

publish_parts : (version n : ℕ) (a : List Attribute) → IsNoticeIn version a → length a ≤ n → parts_in (attribute_in version) n [] (tokens (notice_text a)) ≡ Some (map attribute_part a)
unfolding notice_text
publish_parts version n [] is l = absurd (omega (arith, is.notice.some))
publish_parts version n (a ∷ rest) is l = parts_again (IsAttributeIn version) attribute_text attribute_tokens attribute_part (attribute_in version)
    (record { cut = attribute_cut version; again = attribute_again version }) n [] a rest (attributes_in version (a ∷ rest) is.notice.names is.notice.values is.kinds) (omega arith)

constraints_long : (f : List ConstraintParts) → length f ≤ suc (length (constraints_text f))
unfolding constraints_text
constraints_long [] = omega arith
constraints_long (c ∷ f) = omega (arith, joined_long constraint_text c f)

notice_long : (n : List Attribute) → length n ≤ suc (length (notice_text n))
unfolding notice_text
notice_long [] = omega arith
notice_long (a ∷ n) = omega (arith, joined_long attribute_text a n)

-- No fault.

no_control_fault : (v : Verb) (version : ℕ) (f : List ConstraintParts) → IsListIn (most v) version f → control_fault (most v) (map Whole f) ≡ None
no_control_fault v version f is =
    let e : canonical (wholes (map Whole f)) ≡ f = ap canonical (whole_parts f) ∙ canonical_same f is.whole.listed.rising in
    control_none (most v) (map Whole f) (none_beyond f) (none_empty f) (subst (λ (z : List ConstraintParts). length z ≤ most v) (sym e) is.whole.listed.few)

no_publish_fault : (version : ℕ) (n : List Attribute) → IsNoticeIn version n → publish_fault (map attribute_part n) ≡ None
unfolding publish_fault
no_publish_fault version n is =
    let few : nat_lt 64 (length n) ≡ false = let l : length n ≤ 64 = is.notice.few in grind (arith, nat_tests) in
    rw (none_wide n, fit_parts n, few, rising_once n is.notice.rising) refl

-- The line.

-- the first word of a line and the rest of it give the form that they give
pub line_form : (version : ℕ) (line : List ℕ) (w text : List ℕ) (v : Verb) (form : CommandForm) → tokens line ≡ word w ∷ tokens text → verb_in (word w ∷ tokens text) ≡ Some (v, tokens text)
    → form_in version (length line) v (tokens text) ≡ Some form → form_of version line ≡ Some form
unfolding form_of
line_form version line w text v form cut verb is = rw (cut, verb, is) refl

control_spelled : (version : ℕ) (line w : List ℕ) (v : Verb) (f : List ConstraintParts) (command : Command) → IsListIn (most v) version f
    → tokens line ≡ word w ∷ tokens (constraints_text f) → verb_in (word w ∷ tokens (constraints_text f)) ≡ Some (v, tokens (constraints_text f))
    → suc (length (constraints_text f)) ≤ length line
    → ((ts : List Token) (parts : List Part) → parts_in (constraint_in version) (length line) [] ts ≡ Some parts → form_in version (length line) v ts ≡ Some (control v parts))
    → ((parts : List Part) → f ≡ canonical (wholes parts) → Spells (control v parts) command)
    → IsCommandOf version line command
control_spelled version line w v f command is cut verb long form spells =
    let parts = control_parts (most v) version (length line) f is (omega (arith, constraints_long f)) in
    let e : f ≡ canonical (wholes (map Whole f)) = sym (ap canonical (whole_parts f) ∙ canonical_same f is.whole.listed.rising) in
    (control v (map Whole f), line_form version line w (constraints_text f) v (control v (map Whole f)) cut verb (form (tokens (constraints_text f)) (map Whole f) parts), no_control_fault v version f is, spells (map Whole f) e)

subscribe_spelled : (version : ℕ) (f : List ConstraintParts) → IsListIn 16 version f → IsCommandOf version (command_text (commands.Subscribe f)) (commands.Subscribe f)
unfolding command_text
subscribe_spelled version f is = control_spelled version (codes "subscribe " ++ constraints_text f) (codes "subscribe") verbs.Subscribe f (commands.Subscribe f) is
    (word_cut 115 (codes "ubscribe") (32 ∷ constraints_text f) refl refl ∙ ap (λ (ts : List Token). word (codes "subscribe") ∷ ts) (space_cut (constraints_text f))) refl (omega arith) (λ ts parts e. rw e refl) (λ parts e. e)

unsubscribe_spelled : (version : ℕ) (f : List ConstraintParts) → IsListIn 16 version f → IsCommandOf version (command_text (commands.Unsubscribe f)) (commands.Unsubscribe f)
unfolding command_text
unsubscribe_spelled version f is = control_spelled version (codes "unsubscribe " ++ constraints_text f) (codes "unsubscribe") verbs.Unsubscribe f (commands.Unsubscribe f) is
    (word_cut 117 (codes "nsubscribe") (32 ∷ constraints_text f) refl refl ∙ ap (λ (ts : List Token). word (codes "unsubscribe") ∷ ts) (space_cut (constraints_text f))) refl (omega arith) (λ ts parts e. rw e refl) (λ parts e. e)

advertise_spelled : (version : ℕ) (a : List ConstraintParts) → IsListIn 64 version a → IsCommandOf version (command_text (commands.Advertise a)) (commands.Advertise a)
unfolding command_text
advertise_spelled version a is = control_spelled version (codes "advertise " ++ constraints_text a) (codes "advertise") verbs.Advertise a (commands.Advertise a) is
    (word_cut 97 (codes "dvertise") (32 ∷ constraints_text a) refl refl ∙ ap (λ (ts : List Token). word (codes "advertise") ∷ ts) (space_cut (constraints_text a))) refl (omega arith) (λ ts parts e. rw e refl) (λ parts e. e)

unadvertise_spelled : (version : ℕ) (a : List ConstraintParts) → IsListIn 64 version a → IsCommandOf version (command_text (commands.Unadvertise a)) (commands.Unadvertise a)
unfolding command_text
unadvertise_spelled version a is = control_spelled version (codes "unadvertise " ++ constraints_text a) (codes "unadvertise") verbs.Unadvertise a (commands.Unadvertise a) is
    (word_cut 117 (codes "nadvertise") (32 ∷ constraints_text a) refl refl ∙ ap (λ (ts : List Token). word (codes "unadvertise") ∷ ts) (space_cut (constraints_text a))) refl (omega arith) (λ ts parts e. rw e refl) (λ parts e. e)

publish_spelled : (version : ℕ) (n : List Attribute) → IsNoticeIn version n → IsCommandOf version (command_text (commands.Publish n)) (commands.Publish n)
unfolding command_text
publish_spelled version n is =
    let line = codes "publish " ++ notice_text n in
    let l : length n ≤ length line = omega (arith, notice_long n) in
    let parts : parts_in (attribute_in version) (length line) [] (tokens (notice_text n)) ≡ Some (map attribute_part n) = publish_parts version (length line) n is l in
    let cut : tokens line ≡ word (codes "publish") ∷ tokens (notice_text n) = word_cut 112 (codes "ublish") (32 ∷ notice_text n) refl refl ∙ ap (λ (ts : List Token). word (codes "publish") ∷ ts) (space_cut (notice_text n)) in (
      publish (map attribute_part n),
      line_form version line (codes "publish") (notice_text n) verbs.Publish (publish (map attribute_part n)) cut refl (rw parts refl),
      no_publish_fault version n is,
      (subst (λ (z : List Attribute). IsPermutation z n) (sym (fit_parts n)) (IsPermutation-refl n), is.notice.rising),
    )

pub command_spelled : (version : ℕ) (command : Command) → IsCommandIn version command → IsCommandOf version (command_text command) command
command_spelled version (commands.Subscribe f) is = subscribe_spelled version f is
command_spelled version (commands.Unsubscribe f) is = unsubscribe_spelled version f is
command_spelled version (commands.Advertise a) is = advertise_spelled version a is
command_spelled version (commands.Unadvertise a) is = unadvertise_spelled version a is
command_spelled version (commands.Publish n) is = publish_spelled version n is
