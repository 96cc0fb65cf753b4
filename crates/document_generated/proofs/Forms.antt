-- Lines that spell a subscription or a publication, whatever the order of their parts.
use Rattle.std.proofs.Common.{◌≡◌, ℕ, suc, ◌<◌, ◌≤◌, Ordering, refl, sym, ap, subst, ◌∙◌, arith, List, [], ◌∷◌, ◌++◌, length, map}
use Rattle.std.specs.Prelude.{Some, None, Ok, codes}
use Rattle.std.specs.declared.cmp.Ordering.TheVariants.{Less, Equal, Greater}
use Rattle.base.specs.Sets.{set_of}
use Rattle.filter_constraints.specs.Constraint.{ConstraintParts}
use Rattle.filter_constraints.specs.Order.{constraint_cmp}
use Rattle.filter_types.specs.Canonical.{canonical, placed, put}
use Rattle.filter_types.specs.Notice.{Attribute, first_twice, is_name_less}
use Rattle.filter_text.specs.FilterText.{constraint_text, constraints_text}
use Rattle.filter_text.specs.NoticeText.{attribute_text, notice_text}
use Rattle.filter_text.specs.MessageText.{Each}
use Rattle.filter_text.specs.declared.command.Command.TheVariants as commands
use Rattle.document_script.specs.declared.form.Part.TheVariants.{Whole}
use Rattle.document_script.specs.declared.verb.Verb.TheVariants as verbs
use Rattle.document_script.specs.Tokens.{Token, tokens}
use Rattle.document_script.specs.Tokens.Token.{word}
use Rattle.document_script.specs.Form.{constraint_in, attribute_in, parts_in}
use Rattle.document_script.specs.Form.CommandForm.{control, publish}
use Rattle.document_script.specs.Command.{form_of, wholes, control_fault, publish_fault}
use Rattle.document_script.proofs.CommandLaws.{control_none, publish_none}
use Rattle.document_reader.specs.Commands.{command_of}
use Rattle.document_format.proofs.Cuts.{word_cut, space_cut}
use Rattle.document_format.proofs.PartLaws.{IsConstraintIn, constraint_tokens, constraint_cut, constraint_again, IsAttributeIn, attribute_tokens, attribute_part, attribute_cut, attribute_again}
use Rattle.document_format.proofs.ListLaws.{parts_again}
use Rattle.document_format.proofs.CommandLaws.{line_form, whole_parts, none_beyond, none_empty, fit_parts, none_wide}

put-few : (c : ConstraintParts) (xs : List ConstraintParts) → length (put c xs) ≤ suc (length xs)
put-few c [] = omega arith
put-few c (d ∷ xs) = go (constraint_cmp c d) (put-few c xs)
  where
    go : (o : Ordering) → length (put c xs) ≤ suc (length xs) → length (placed o c d xs (put c xs)) ≤ suc (length (d ∷ xs))
    go Less k = omega arith
    go Equal k = omega arith
    go Greater k = omega (arith, k)

canonical-few : (xs : List ConstraintParts) → length (canonical xs) ≤ length xs
unfolding canonical
canonical-few [] = omega arith
canonical-few (c ∷ xs) = omega (arith, put-few c (canonical xs), canonical-few xs)

-- the first word of a line and its rest give the form, and a form without fault its command
abbrev line-of : List ℕ → List ℕ → List ℕ
line-of w text = w ++ 32 ∷ text

pub subscribe-spelled : (version : ℕ) (c : ConstraintParts) (f : List ConstraintParts) → Each (IsConstraintIn version) (c ∷ f) → length f < 9
    → command_of version (codes "subscribe" ++ 32 ∷ constraints_text (c ∷ f)) ≡ Ok (commands.Subscribe (canonical (c ∷ f)))
unfolding command_of constraints_text
subscribe-spelled version c f each few =
    let text = constraints_text (c ∷ f) in
    let line = codes "subscribe" ++ 32 ∷ text in
    let parts : parts_in (constraint_in version) (length line) [] (tokens text) ≡ Some (map Whole (c ∷ f)) =
    parts_again (IsConstraintIn version) constraint_text constraint_tokens Whole (constraint_in version)
    (record { cut = constraint_cut version; again = constraint_again version }) (length line) [] c f each (omega (arith, few)) in
    let cut : tokens line ≡ word (codes "subscribe") ∷ tokens text = word_cut 115 (codes "ubscribe") (32 ∷ text) refl refl ∙ ap (λ (ts : List Token). word (codes "subscribe") ∷ ts) (space_cut text) in
    let form : form_of version line ≡ Some (control verbs.Subscribe (map Whole (c ∷ f))) = line_form version line (codes "subscribe") text verbs.Subscribe (control verbs.Subscribe (map Whole (c ∷ f))) cut refl (rw parts refl) in
    let short : length (canonical (wholes (map Whole (c ∷ f)))) ≤ 16 = subst (λ (z : List ConstraintParts). length (canonical z) ≤ 16) (sym (whole_parts (c ∷ f))) (omega (arith, canonical-few (c ∷ f), few)) in
    let sound : control_fault 16 (map Whole (c ∷ f)) ≡ None = control_none 16 (map Whole (c ∷ f)) (none_beyond (c ∷ f)) (none_empty (c ∷ f)) short in
    rw (form, sound) (ap (λ (z : List ConstraintParts). Ok (commands.Subscribe (canonical z))) (whole_parts (c ∷ f)))

pub publish-spelled : (version : ℕ) (a : Attribute) (n : List Attribute) → Each (IsAttributeIn version) (a ∷ n) → length n < 8 → first_twice (a ∷ n) ≡ None
    → command_of version (codes "publish" ++ 32 ∷ notice_text (a ∷ n)) ≡ Ok (commands.Publish (set_of is_name_less (a ∷ n)))
unfolding command_of notice_text
publish-spelled version a n each few once =
    let text = notice_text (a ∷ n) in
    let line = codes "publish" ++ 32 ∷ text in
    let parts : parts_in (attribute_in version) (length line) [] (tokens text) ≡ Some (map attribute_part (a ∷ n)) =
    parts_again (IsAttributeIn version) attribute_text attribute_tokens attribute_part (attribute_in version)
    (record { cut = attribute_cut version; again = attribute_again version }) (length line) [] a n each (omega (arith, few)) in
    let cut : tokens line ≡ word (codes "publish") ∷ tokens text = word_cut 112 (codes "ublish") (32 ∷ text) refl refl ∙ ap (λ (ts : List Token). word (codes "publish") ∷ ts) (space_cut text) in
    let form : form_of version line ≡ Some (publish (map attribute_part (a ∷ n))) = line_form version line (codes "publish") text verbs.Publish (publish (map attribute_part (a ∷ n))) cut refl (rw parts refl) in
    let sound : publish_fault (map attribute_part (a ∷ n)) ≡ None = publish_none (map attribute_part (a ∷ n)) (none_wide (a ∷ n))
    (λ l. let k : 64 < length (a ∷ n) = subst (λ (z : List Attribute). 64 < length z) (fit_parts (a ∷ n)) l in omega (arith, k, few))
    (λ i l e. let k : first_twice (a ∷ n) ≡ Some i = subst (λ (z : List Attribute). first_twice z ≡ Some i) (fit_parts (a ∷ n)) e in absurd cc) in
    rw (form, sound) (ap (λ (z : List Attribute). Ok (commands.Publish (set_of is_name_less z))) (fit_parts (a ∷ n)))
