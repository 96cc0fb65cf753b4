-- Proves that a notification has one text.
use Rattle.std.proofs.Common.{◌≡◌, ◌≤◌, ℕ, true, refl, sym, ap, subst, ◌∙◌, arith, List, [], ◌∷◌, length}
use Rattle.std.specs.Prelude.{Some, None, nat_le, nat_lt, ◌&&◌}
use Rattle.std.proofs.lemmas.List.{append-nil}
use Rattle.std.proofs.lemmas.Bool.Decides.{nat_tests}
use Rattle.filter_types.specs.Notice.{Attribute, is_notice, are_rising, AreNames, AreValues, IsNotice}
use Rattle.filter_types.proofs.Shapes.{notice_told, notice_of as shape}
use Rattle.filter_text.specs.MessageText.{Each}
use Rattle.filter_text.specs.NoticeText.{joined, attribute_text, notice_text, IsNoticeText}
use Rattle.filter_text.specs.Reading.{whole}
use Rattle.filter_text.specs.Values.{attribute_at}
use Rattle.filter_text.specs.Items.{items_at}
use Rattle.filter_text.specs.Notices.{listed, notice_of}
use Rattle.filter_text.proofs.Options.{bind_some, tested, none_not, whole_is}
use Rattle.filter_text.proofs.ValueLaws.{IsAttribute, attribute_again, attribute_spelled}
use Rattle.filter_text.proofs.ItemsLaws.{items_again, items_spelled}
use Rattle.std.proofs.lemmas.Bool.{and_parts}

names_of : (n : List Attribute) → Each IsAttribute n → AreNames n
names_of [] is = tt
names_of (a ∷ n) is = (is.0.0, names_of n is.1)

values_of : (n : List Attribute) → Each IsAttribute n → AreValues n
values_of [] is = tt
values_of (a ∷ n) is = (is.0.1, values_of n is.1)

each_of : (n : List Attribute) → AreNames n → AreValues n → Each IsAttribute n
each_of [] names values = tt
each_of (a ∷ n) names values = ((names.0, values.0), each_of n names.1 values.1)

notice_is : (n : List Attribute) → Each IsAttribute n → is_notice n ≡ true → IsNotice n
unfolding is_notice
notice_is n each e =
    let w = and_parts (nat_lt 0 (length n)) (nat_le (length n) 64 && are_rising n) e in
    let v = and_parts (nat_le (length n) 64) (are_rising n) w.1 in
    let a : nat_lt 0 (length n) ≡ true = w.0 in
    let b : nat_le (length n) 64 ≡ true = v.0 in
    shape n (grind (arith, nat_tests)) (grind (arith, nat_tests)) v.1 (names_of n each) (values_of n each)

pub notice_again : (n : List Attribute) → IsNotice n → notice_of (notice_text n) ≡ Some n
unfolding notice_of notice_text
notice_again [] is = absurd (omega (arith, is.some))
notice_again (a ∷ n) is =
    let few : length (a ∷ n) ≤ 64 = is.few in
    let e : items_at attribute_at 64 [] (joined attribute_text (a ∷ n)) ≡ Some (a ∷ n, []) = ap (items_at attribute_at 64 []) (sym (append-nil (joined attribute_text (a ∷ n)))) ∙ items_again IsAttribute attribute_text attribute_at attribute_again 64 [] a n [] (each_of (a ∷ n) is.names is.values) (omega arith) (record { stopped = tt; last = refl }) in
    rw (e, notice_told (a ∷ n) is) refl

pub notice_found : (bytes : List ℕ) (n : List Attribute) → notice_of bytes ≡ Some n → IsNoticeText bytes n
unfolding notice_of notice_text
notice_found bytes n e =
    let x = bind_some (whole (items_at attribute_at 64 [] bytes)) listed n e in
    let t = tested (is_notice x.0) x.0 n x.2 in
    let j = items_spelled IsAttribute attribute_text attribute_at attribute_spelled 64 [] bytes x.0 [] (whole_is (items_at attribute_at 64 [] bytes) x.0 x.1) in
    let same : j.0 ∷ j.1 ≡ n = sym j.3 ∙ t.1 in
    let is : is_notice (j.0 ∷ j.1) ≡ true = ap is_notice (sym j.3) ∙ t.0 in
    subst (IsNoticeText bytes) same (record { notice = notice_is (j.0 ∷ j.1) j.2 is; text = j.4 ∙ append-nil (joined attribute_text (j.0 ∷ j.1)) })

pub notice_outside : (bytes : List ℕ) → notice_of bytes ≡ None → (n : List Attribute) → IsNoticeText bytes n → ⊥
notice_outside bytes none n is = none_not n (sym none ∙ ap notice_of is.text ∙ notice_again n is.notice)
