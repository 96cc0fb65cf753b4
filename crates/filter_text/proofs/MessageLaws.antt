-- Proves that a message has one text.
use Rattle.std.proofs.Common.{◌≡◌, ℕ, true, refl, sym, ap, subst, ◌∙◌, inl, inr, arith, List, [], ◌∷◌, ◌++◌, append_assoc}
use Rattle.std.specs.Prelude.{Some, None, codes}
use Rattle.std.specs.Fmt.{decimal}
use Rattle.std.specs.Str.{bytes_eq}
use Rattle.std.proofs.lemmas.Option.{same_Some}
use Rattle.filter_constraints.proofs.BytesLemmas.{bytes_eq-tells}
use Rattle.filter_types.specs.Notice.{Attribute, IsNotice}
use Rattle.filter_text.specs.declared.id.Id.{Id}
use Rattle.filter_text.specs.declared.message_text.MessageText.{MessageText}
use Rattle.filter_text.specs.declared.message_text.MessageText.TheVariants as messages
use Rattle.filter_text.specs.NoticeText.{notice_text}
use Rattle.filter_text.specs.MessageText.{changes_text, id_text, message_text, IsId, IsChange, IsSendable, AreWhole, IsSoundMessage, IsMessageText}
use Rattle.filter_text.specs.Reading.{◌>>=◌, whole}
use Rattle.filter_text.specs.Words.{word_at, space_at, number_at}
use Rattle.filter_text.specs.Notices.{notice_of}
use Rattle.filter_types.specs.Before.{list_before}
use Rattle.filter_text.specs.Filters.{list_at}
use Rattle.filter_text.specs.Changes.{both_at, is_change, when_change, change_of}
use Rattle.filter_text.specs.Messages.{Lists, lists_of, id_at, notice_message_of, as_subs, as_advs, tagged_of, message_of}
use Rattle.filter_text.proofs.Options.{bind_some, pair_in, choose, tested, none_not, whole_is}
use Rattle.filter_text.proofs.WordLaws.{IsStopped, word_again, word_spelled, space_spelled, number_again, number_spelled}
use Rattle.filter_text.proofs.NoticeLaws.{notice_again, notice_found}
use Rattle.filter_text.proofs.ChangeLaws.{both_again, both_spelled}
use Rattle.filter_text.proofs.ApartLaws.{change_told, change_tells}

id_again : (id : Id) (tail : List ℕ) → IsId id → IsStopped tail → id_at (decimal id.publisher ++ 32 ∷ (decimal id.ordinal ++ tail)) ≡ Some (id, tail)
unfolding id_at
id_again id tail is s = rw (number_again 1024 id.publisher (32 ∷ (decimal id.ordinal ++ tail)) (omega arith) is.0 refl, number_again 100000 id.ordinal tail (omega arith) is.1 s) refl

id_spelled : (bytes : List ℕ) (id : Id) (rest : List ℕ) → id_at bytes ≡ Some (id, rest) → IsId id × (bytes ≡ decimal id.publisher ++ 32 ∷ (decimal id.ordinal ++ rest))
unfolding id_at
id_spelled bytes id rest e =
    let p = bind_some (number_at 1024 bytes) (λ p. space_at p.1 >>= λ r. number_at 100000 r.1 >>= λ o. Some (record { publisher = p.0; ordinal = o.0 }, o.1)) (id, rest) e in
    let r = bind_some (space_at p.0.1) (λ r. number_at 100000 r.1 >>= λ o. Some (record { publisher = p.0.0; ordinal = o.0 }, o.1)) (id, rest) p.2 in
    let o = bind_some (number_at 100000 r.0.1) (λ o. Some (record { publisher = p.0.0; ordinal = o.0 }, o.1)) (id, rest) r.2 in
    let q = pair_in (record { publisher = p.0.0; ordinal = o.0.0 }) o.0.1 id rest o.2 in
    let one = number_spelled 1024 bytes p.0.0 p.0.1 p.1 in
    let two = space_spelled p.0.1 r.0.1 r.0.0 r.1 in
    let three = number_spelled 100000 r.0.1 o.0.0 o.0.1 o.1 in
    subst (λ (z : Id). IsId z × (bytes ≡ decimal z.publisher ++ 32 ∷ (decimal z.ordinal ++ rest))) q.0 ((one.0, three.0), numbers bytes p.0.0 o.0.0 p.0.1 r.0.1 o.0.1 rest one.1 two three.1 q.1)
  where
    numbers : (bytes : List ℕ) (m n : ℕ) (a b c rest : List ℕ) → bytes ≡ decimal m ++ a → a ≡ 32 ∷ b → b ≡ decimal n ++ c → c ≡ rest → bytes ≡ decimal m ++ 32 ∷ (decimal n ++ rest)
    numbers bytes m n a b c rest one two three four = one ∙ rw (two, three, four) refl

notice_message_again : (id : Id) (n : List Attribute) → IsId id → IsNotice n → notice_message_of (32 ∷ (decimal id.publisher ++ 32 ∷ (decimal id.ordinal ++ 32 ∷ notice_text n))) ≡ Some (messages.Notice id n)
unfolding notice_message_of
notice_message_again id n is sound = rw (id_again id (32 ∷ notice_text n) is refl, notice_again n sound) refl

id_flat : (id : Id) (tail : List ℕ) → id_text id ++ tail ≡ decimal id.publisher ++ 32 ∷ (decimal id.ordinal ++ tail)
unfolding id_text
id_flat id tail = append_assoc (decimal id.publisher) (32 ∷ decimal id.ordinal) tail

lists_again : (most : ℕ) (out add : Lists) → AreWhole most out → AreWhole most add → IsChange out add → lists_of most (changes_text out add) ≡ Some (out, add)
unfolding change_of
lists_again most out add a b is = rw (both_again most out add a b, change_told out add is) refl

starts : (out add : Lists) → IsStopped (changes_text out add)
unfolding changes_text
starts [] [] = tt
starts [] (f ∷ add) = refl
starts (f ∷ out) add = refl

pub message_again : (m : MessageText) → IsSoundMessage m → IsSendable m → message_of (message_text m) ≡ Some m
unfolding message_of message_text
message_again (messages.Notice id n) sound is =
    let e : codes "notice " ++ id_text id ++ 32 ∷ notice_text n ≡ codes "notice" ++ 32 ∷ (decimal id.publisher ++ 32 ∷ (decimal id.ordinal ++ 32 ∷ notice_text n)) = ap (λ (z : List ℕ). codes "notice " ++ z) (id_flat id (32 ∷ notice_text n)) in
    let w : word_at [] (codes "notice" ++ 32 ∷ (decimal id.publisher ++ 32 ∷ (decimal id.ordinal ++ 32 ∷ notice_text n))) ≡ (codes "notice", 32 ∷ (decimal id.publisher ++ 32 ∷ (decimal id.ordinal ++ 32 ∷ notice_text n))) = word_again [] (codes "notice") (32 ∷ (decimal id.publisher ++ 32 ∷ (decimal id.ordinal ++ 32 ∷ notice_text n))) refl refl in
    ap (λ (z : List ℕ). tagged_of (word_at [] z)) e ∙ ap tagged_of w ∙ notice_message_again id n is sound
message_again (messages.Subs out add) sound is =
    let w : word_at [] (codes "subs" ++ changes_text out add) ≡ (codes "subs", changes_text out add) = word_again [] (codes "subs") (changes_text out add) refl (starts out add) in
    let l : (lists_of 16 (changes_text out add) >>= as_subs) ≡ Some (messages.Subs out add) = rw (lists_again 16 out add sound.0 sound.1 is) refl in
    ap tagged_of w ∙ l
message_again (messages.Advs out add) sound is =
    let w : word_at [] (codes "advs" ++ changes_text out add) ≡ (codes "advs", changes_text out add) = word_again [] (codes "advs") (changes_text out add) refl (starts out add) in
    let l : (lists_of 64 (changes_text out add) >>= as_advs) ≡ Some (messages.Advs out add) = rw (lists_again 64 out add sound.0 sound.1 is) refl in
    ap tagged_of w ∙ l

notice_message_spelled : (bytes : List ℕ) (m : MessageText) → notice_message_of bytes ≡ Some m → IsMessageText (codes "notice" ++ bytes) m
unfolding notice_message_of message_text
notice_message_spelled bytes m e =
    let r = bind_some (space_at bytes) (λ r. id_at r.1 >>= λ i. space_at i.1 >>= λ s. notice_of s.1 >>= λ n. Some (messages.Notice i.0 n)) m e in
    let i = bind_some (id_at r.0.1) (λ i. space_at i.1 >>= λ s. notice_of s.1 >>= λ n. Some (messages.Notice i.0 n)) m r.2 in
    let s = bind_some (space_at i.0.1) (λ s. notice_of s.1 >>= λ n. Some (messages.Notice i.0.0 n)) m i.2 in
    let n = bind_some (notice_of s.0.1) (λ n. Some (messages.Notice i.0.0 n)) m s.2 in
    let one = space_spelled bytes r.0.1 r.0.0 r.1 in
    let two = id_spelled r.0.1 i.0.0 i.0.1 i.1 in
    let three = space_spelled i.0.1 s.0.1 s.0.0 s.1 in
    let four = notice_found s.0.1 n.0 n.1 in
    subst (IsMessageText (codes "notice" ++ bytes)) (same_Some (messages.Notice i.0.0 n.0) m n.2)
    (record { sound = four.notice; sendable = two.0; text = told bytes i.0.0 r.0.1 i.0.1 s.0.1 n.0 one two.1 three four.text })
  where
    told : (bytes : List ℕ) (id : Id) (a b c : List ℕ) (n : List Attribute) → bytes ≡ 32 ∷ a → a ≡ decimal id.publisher ++ 32 ∷ (decimal id.ordinal ++ b) → b ≡ 32 ∷ c → c ≡ notice_text n → codes "notice" ++ bytes ≡ codes "notice " ++ id_text id ++ 32 ∷ notice_text n
    told bytes id a b c n one two three four = rw (one, two, three, four) (ap (λ (z : List ℕ). codes "notice " ++ z) (sym (id_flat id (32 ∷ notice_text n))))

lists_spelled : (most : ℕ) (bytes : List ℕ) (l : Lists × Lists) → lists_of most bytes ≡ Some l → (AreWhole most l.0 × AreWhole most l.1) × IsChange l.0 l.1 × (bytes ≡ changes_text l.0 l.1)
unfolding change_of
lists_spelled most bytes l e =
    let w = bind_some (whole (both_at (list_at most) bytes)) (when_change list_before) l e in
    let t = tested (is_change list_before w.0.0 w.0.1) w.0 l w.2 in
    let s = both_spelled most bytes w.0 (whole_is (both_at (list_at most) bytes) w.0 w.1) in
    subst (λ (z : Lists × Lists). (AreWhole most z.0 × AreWhole most z.1) × IsChange z.0 z.1 × (bytes ≡ changes_text z.0 z.1)) t.1 ((s.0, s.1), change_tells w.0.0 w.0.1 t.0, s.2)

subs_spelled : (bytes : List ℕ) (m : MessageText) → (lists_of 16 bytes >>= as_subs) ≡ Some m → IsMessageText (codes "subs" ++ bytes) m
unfolding message_text
subs_spelled bytes m e =
    let l = bind_some (lists_of 16 bytes) as_subs m e in
    let s = lists_spelled 16 bytes l.0 l.1 in
    subst (IsMessageText (codes "subs" ++ bytes)) (same_Some (messages.Subs l.0.0 l.0.1) m l.2) (record { sound = s.0; sendable = s.1; text = ap (λ (z : List ℕ). codes "subs" ++ z) s.2 })

advs_spelled : (bytes : List ℕ) (m : MessageText) → (lists_of 64 bytes >>= as_advs) ≡ Some m → IsMessageText (codes "advs" ++ bytes) m
unfolding message_text
advs_spelled bytes m e =
    let l = bind_some (lists_of 64 bytes) as_advs m e in
    let s = lists_spelled 64 bytes l.0 l.1 in
    subst (IsMessageText (codes "advs" ++ bytes)) (same_Some (messages.Advs l.0.0 l.0.1) m l.2) (record { sound = s.0; sendable = s.1; text = ap (λ (z : List ℕ). codes "advs" ++ z) s.2 })

pub message_found : (bytes : List ℕ) (m : MessageText) → message_of bytes ≡ Some m → IsMessageText bytes m
unfolding message_of
message_found bytes m e = elim (choose (bytes_eq w (codes "notice")) _ _ _ e) [
  | inl a ↦ back (codes "notice") a.0 (notice_message_spelled rest m a.1)
  | inr b ↦ elim (choose (bytes_eq w (codes "subs")) _ _ _ b.1) [
    | inl a ↦ back (codes "subs") a.0 (subs_spelled rest m a.1)
    | inr c ↦ elim (choose (bytes_eq w (codes "advs")) _ _ _ c.1) [
      | inl a ↦ back (codes "advs") a.0 (advs_spelled rest m a.1)
      | inr d ↦ none_not m d.1
    ]
  ]
]
  where
    w : List ℕ
    w = (word_at [] bytes).0

    rest : List ℕ
    rest = (word_at [] bytes).1

    back : (tag : List ℕ) → bytes_eq w tag ≡ true → IsMessageText (tag ++ rest) m → IsMessageText bytes m
    back tag p is = subst (λ (z : List ℕ). IsMessageText z m) (sym (word_spelled bytes tag rest (bytes_eq-tells w tag p) refl)) is

pub message_outside : (bytes : List ℕ) → message_of bytes ≡ None → (m : MessageText) → IsMessageText bytes m → ⊥
message_outside bytes none m is = none_not m (sym none ∙ ap message_of is.text ∙ message_again m is.sound is.sendable)
