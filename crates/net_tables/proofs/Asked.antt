-- What a filter covers has the bytes of the texts that it asks for.
use Rattle.std.proofs.Common.{◌≡◌, inl, inr, ℕ, ◌^◌, bit_or, ◌+◌, ◌||◌, Bool, true, false, List, [], ◌∷◌, ◌++◌, map, length, ◌<◌, slice_index, slice_get, get_or, drop, zero, suc, Some, refl, sym, ap, subst, ◌∙◌, arith}
use Rattle.std.specs.List.{list_any}
use Rattle.std.proofs.lemmas.List.{drop_more}
use Rattle.filter_constraints.specs.Bytes.{has_prefix, has_suffix, has_part}
use Rattle.filter_constraints.specs.Texts.{Texts, text_covers}
use Rattle.filter_constraints.specs.Constraint.{ConstraintParts, Form, constraint_covers, same_subject, form_covers, form_of}
use Rattle.filter_constraints.specs.Constraint.Form.{truth, number, text, time, no_form}
use Rattle.filter_values.specs.Value.{same_kind}
use Rattle.std.specs.Str.{bytes_eq}
use Rattle.filter_constraints.proofs.BytesLemmas.{bytes_eq-tells, has_prefix-tells, has_suffix-tells, has_part-tells}
use Rattle.filter_types.specs.Cover.{filter_covers, covers_some}
use Rattle.filter_types.proofs.Lists.{all-has}
use Rattle.base.specs.Sets.{Has}
use Rattle.base.specs.Signature.{place_from, marks_from}
use Rattle.base.proofs.Signatures.{names-among, place_from-append}
use Rattle.filter_covering.specs.Signatures.{is_void, is_void_text, is_void_form}
use Rattle.base_order.specs.Columns.{MayCover, Narrows}
use Rattle.base_order.proofs.Rows.{cover-at}
use Rattle.net_tables.specs.Words.{text_asked, asked, byte_signs, text_signs, all_text_signs, text_word}
use Rattle.std.proofs.lemmas.Bool.{and_parts}
use Rattle.base.proofs.Sets.{any-some, has-append-left, has-append-right, has-append}

-- the signs of the first constraint, and then those of the others
pub marks_append : (m : ℕ) (xs ys : List (List ℕ)) → marks_from (λ s. s) (marks_from (λ s. s) m xs) ys ≡ marks_from (λ s. s) m (xs ++ ys)
marks_append m [] ys = refl
marks_append m (x ∷ xs) ys = marks_append (bit_or m (2 ^ place_from 0 x)) xs ys

-- the bits once one more byte is behind
pub byte-step : (name bytes : List ℕ) (i m p bit next start : ℕ) → i < length bytes → p ≡ place_from 0 name → bit ≡ place_from p (slice_index bytes i ∷ []) → next ≡ bit_or m (2 ^ bit)
    → marks_from (λ s. s) m (byte_signs name (drop i bytes)) ≡ start → marks_from (λ s. s) next (byte_signs name (drop (i + 1) bytes)) ≡ start
byte-step name bytes i m p bit next start l e f g h =
    let b = slice_index bytes i in
    let same : next ≡ bit_or m (2 ^ place_from 0 (name ++ b ∷ [])) = g ∙ ap (λ z. bit_or m (2 ^ z)) (f ∙ ap (λ z. place_from z (b ∷ [])) e ∙ sym (place_from-append 0 name (b ∷ []))) in
    ap (λ z. marks_from (λ s. s) z (byte_signs name (drop (i + 1) bytes))) same ∙ sym (ap (λ z. marks_from (λ s. s) m (byte_signs name z)) (drop_more bytes i 0 l)) ∙ h

-- the bits once one more constraint is behind
pub constraint-step : (cs : List ConstraintParts) (c : ConstraintParts) (i m next start : ℕ) → i < length cs → c ≡ get_or cs i c → next ≡ marks_from (λ s. s) m (text_signs c)
    → marks_from (λ s. s) m (all_text_signs (drop i cs)) ≡ start → marks_from (λ s. s) next (all_text_signs (drop (i + 1) cs)) ≡ start
constraint-step cs c i m next start l e g h =
    let rest = drop (i + 1) cs in
    let here : drop i cs ≡ c ∷ rest = drop_more cs i c l ∙ ap (λ z. z ∷ rest) (sym e) in
    ap (λ z. marks_from (λ s. s) z (all_text_signs rest)) g ∙ marks_append m (text_signs c) (all_text_signs rest) ∙ sym (ap (λ z. marks_from (λ s. s) m (all_text_signs z)) here) ∙ h

in-prefix : (b : ℕ) (x u : List ℕ) → has_prefix x u ≡ true → Has b u → Has b x
in-prefix b x u e h = let t = has_prefix-tells x u e in subst (Has b) (sym t.1) (has-append-left b u t.0 h)

in-suffix : (b : ℕ) (x u : List ℕ) → has_suffix x u ≡ true → Has b u → Has b x
in-suffix b x u e h = let t = has_suffix-tells x u e in subst (Has b) (sym t.1) (has-append-right b t.0 u h)

in-part : (b : ℕ) (x u : List ℕ) → has_part x u ≡ true → Has b u → Has b x
in-part b x u e h = let t = has_part-tells x u e in subst (Has b) (sym t.2) (has-append-right b t.0 (u ++ t.1) (has-append-left b u t.1 h))

text-keeps : (k m : Texts) → text_covers k m ≡ true → is_void_text m ≡ false → (b : ℕ) → Has b (text_asked k) → Has b (text_asked m)
text-keeps (Texts.equal u) (Texts.equal v) e f b h = subst (Has b) (sym (bytes_eq-tells v u e)) h
text-keeps (Texts.equal u) Texts.empty e f b h = absurd cc
text-keeps (Texts.equal u) Texts.all e f b h = absurd cc
text-keeps (Texts.equal u) (Texts.unequal v) e f b h = absurd cc
text-keeps (Texts.equal u) (Texts.less_than v) e f b h = absurd cc
text-keeps (Texts.equal u) (Texts.at_most v) e f b h = absurd cc
text-keeps (Texts.equal u) (Texts.greater_than v) e f b h = absurd cc
text-keeps (Texts.equal u) (Texts.at_least v) e f b h = absurd cc
text-keeps (Texts.equal u) (Texts.prefix v) e f b h = absurd cc
text-keeps (Texts.equal u) (Texts.suffix v) e f b h = absurd cc
text-keeps (Texts.equal u) (Texts.contains v) e f b h = absurd cc
text-keeps (Texts.prefix u) (Texts.equal v) e f b h = in-prefix b v u e h
text-keeps (Texts.prefix u) (Texts.prefix v) e f b h = in-prefix b v u e h
text-keeps (Texts.prefix u) Texts.empty e f b h = absurd cc
text-keeps (Texts.prefix u) Texts.all e f b h = absurd cc
text-keeps (Texts.prefix u) (Texts.unequal v) e f b h = absurd cc
text-keeps (Texts.prefix u) (Texts.less_than v) e f b h = absurd cc
text-keeps (Texts.prefix u) (Texts.at_most v) e f b h = absurd cc
text-keeps (Texts.prefix u) (Texts.greater_than v) e f b h = absurd cc
text-keeps (Texts.prefix u) (Texts.at_least v) e f b h = absurd cc
text-keeps (Texts.prefix u) (Texts.suffix v) e f b h = absurd cc
text-keeps (Texts.prefix u) (Texts.contains v) e f b h = absurd cc
text-keeps (Texts.suffix u) (Texts.equal v) e f b h = in-suffix b v u e h
text-keeps (Texts.suffix u) (Texts.suffix v) e f b h = in-suffix b v u e h
text-keeps (Texts.suffix u) Texts.empty e f b h = absurd cc
text-keeps (Texts.suffix u) Texts.all e f b h = absurd cc
text-keeps (Texts.suffix u) (Texts.unequal v) e f b h = absurd cc
text-keeps (Texts.suffix u) (Texts.less_than v) e f b h = absurd cc
text-keeps (Texts.suffix u) (Texts.at_most v) e f b h = absurd cc
text-keeps (Texts.suffix u) (Texts.greater_than v) e f b h = absurd cc
text-keeps (Texts.suffix u) (Texts.at_least v) e f b h = absurd cc
text-keeps (Texts.suffix u) (Texts.prefix v) e f b h = absurd cc
text-keeps (Texts.suffix u) (Texts.contains v) e f b h = absurd cc
text-keeps (Texts.contains u) (Texts.equal v) e f b h = in-part b v u e h
text-keeps (Texts.contains u) (Texts.contains v) e f b h = in-part b v u e h
text-keeps (Texts.contains u) (Texts.prefix v) e f b h = in-part b v u e h
text-keeps (Texts.contains u) (Texts.suffix v) e f b h = in-part b v u e h
text-keeps (Texts.contains u) Texts.empty e f b h = absurd cc
text-keeps (Texts.contains u) Texts.all e f b h = absurd cc
text-keeps (Texts.contains u) (Texts.unequal v) e f b h = absurd cc
text-keeps (Texts.contains u) (Texts.less_than v) e f b h = absurd cc
text-keeps (Texts.contains u) (Texts.at_most v) e f b h = absurd cc
text-keeps (Texts.contains u) (Texts.greater_than v) e f b h = absurd cc
text-keeps (Texts.contains u) (Texts.at_least v) e f b h = absurd cc
text-keeps Texts.empty m e f b h = absurd h
text-keeps Texts.all m e f b h = absurd h
text-keeps (Texts.unequal u) m e f b h = absurd h
text-keeps (Texts.less_than u) m e f b h = absurd h
text-keeps (Texts.at_most u) m e f b h = absurd h
text-keeps (Texts.greater_than u) m e f b h = absurd h
text-keeps (Texts.at_least u) m e f b h = absurd h

form-keeps : (k m : Form) → form_covers k m ≡ true → is_void_form m ≡ false → (b : ℕ) → Has b (asked k) → Has b (asked m)
form-keeps (text k) (text m) e f b h = text-keeps k m e f b h
form-keeps (text k) (number m) e f b h = absurd cc
form-keeps (text k) (truth m) e f b h = absurd cc
form-keeps (text k) (time m) e f b h = absurd cc
form-keeps (text k) no_form e f b h = absurd cc
form-keeps (number k) m e f b h = absurd h
form-keeps (time k) m e f b h = absurd h
form-keeps (truth k) m e f b h = absurd h
form-keeps no_form m e f b h = absurd h

-- the signs of a text are those of its bytes
byte-of : (name u s : List ℕ) → Has s (byte_signs name u) → (b : ℕ) × Has b u × (s ≡ name ++ b ∷ [])
byte-of name [] s h = absurd h
byte-of name (b ∷ u) s (inl q) = (b, inl refl, q)
byte-of name (b ∷ u) s (inr h) = let r = byte-of name u s h in (r.0, inr r.1, r.2)

of-byte : (name u : List ℕ) (b : ℕ) → Has b u → Has (name ++ b ∷ []) (byte_signs name u)
of-byte name [] b h = absurd h
of-byte name (c ∷ u) b (inl q) = inl (ap (λ z. name ++ z ∷ []) q)
of-byte name (c ∷ u) b (inr h) = inr (of-byte name u b h)

signs-kept : (c d : ConstraintParts) → constraint_covers c d ≡ true → is_void d ≡ false → (s : List ℕ) → Has s (text_signs c) → Has s (text_signs d)
unfolding constraint_covers
signs-kept c d e f s h =
    let parts = and_parts (same_subject c d) (form_covers (form_of c.kind c.op c.operand) (form_of d.kind d.op d.operand)) e in
    let name : c.name ≡ d.name = bytes_eq-tells c.name d.name (and_parts (bytes_eq c.name d.name) (same_kind c.kind d.kind) parts.0).0 in
    let r = byte-of c.name (asked (form_of c.kind c.op c.operand)) s h in
    let there = form-keeps (form_of c.kind c.op c.operand) (form_of d.kind d.op d.operand) parts.1 f r.0 r.1 in
    subst (λ z. Has z (text_signs d)) (sym (r.2 ∙ ap (λ n. n ++ r.0 ∷ []) name)) (of-byte d.name (asked (form_of d.kind d.op d.operand)) r.0 there)

one-of : (s : List ℕ) (f : List ConstraintParts) → Has s (all_text_signs f) → (c : ConstraintParts) × Has c f × Has s (text_signs c)
one-of s [] h = absurd h
one-of s (c ∷ cs) h = elim (has-append s (text_signs c) (all_text_signs cs) h) [
  | inl m ↦ (c, inl refl, m)
  | inr m ↦ let r = one-of s cs m in (r.0, inr r.1, r.2)
]

of-one : (s : List ℕ) (g : List ConstraintParts) (d : ConstraintParts) → Has d g → Has s (text_signs d) → Has s (all_text_signs g)
of-one s [] d m h = absurd m
of-one s (c ∷ cs) d (inl q) h = has-append-left s (text_signs c) (all_text_signs cs) (subst (λ z. Has s (text_signs z)) q h)
of-one s (c ∷ cs) d (inr m) h = has-append-right s (text_signs c) (all_text_signs cs) (of-one s cs d m h)

none-void : (g : List ConstraintParts) → list_any is_void g ≡ false → (d : ConstraintParts) → Has d g → is_void d ≡ false
none-void [] e d m = absurd m
none-void (c ∷ cs) e d m = go (is_void c) (list_any is_void cs) refl refl e m (λ q. none-void cs q d)
  where
    go : (a b : Bool) → is_void c ≡ a → list_any is_void cs ≡ b → (a || b) ≡ false → Has d (c ∷ cs) → (list_any is_void cs ≡ false → Has d cs → is_void d ≡ false)
        → is_void d ≡ false
    go true b p q r m ih = absurd cc
    go false true p q r m ih = absurd cc
    go false false p q r (inl s) ih = subst (λ z. is_void z ≡ false) (sym s) p
    go false false p q r (inr h) ih = ih q h

-- by their words, a filter may cover what it covers
pub may-cover : (f g : List ConstraintParts) → filter_covers f g ≡ true → MayCover (text_word f) (text_word g)
unfolding filter_covers
may-cover f g e = go (list_any is_void f) (list_any is_void g) refl refl
  where
    go : (a b : Bool) → list_any is_void f ≡ a → list_any is_void g ≡ b → MayCover (text_word f) (text_word g)
    go true b p q = inl (rw p refl)
    go false true p q = inr (inl (rw q refl))
    go false false p q = inr (inr (rw (p, q) (names-among (λ s. s) (all_text_signs f) (all_text_signs g) kept)))
      where
        kept : (s : List ℕ) → Has s (all_text_signs f) → (t : List ℕ) × Has t (all_text_signs g) × (s ≡ t)
        kept s m =
            let c = one-of s f m in
            let d = any-some (λ d. constraint_covers c.0 d) g (all-has (λ c. covers_some c g) c.0 f e c.1) in
            let there = d.1 in
            (s, of-one s g d.0 there (signs-kept c.0 d.0 d.2 (none-void g q d.0 there) s c.2), refl)

at : (f : List ConstraintParts → ℕ) (xs : List (List ConstraintParts)) (i : ℕ) → i < length xs
    → (x : List ConstraintParts) × (slice_get xs i ≡ Some x) × (slice_index (map f xs) i ≡ f x)
at f [] i l = absurd (omega arith)
at f (y ∷ ys) zero l = (y, refl, refl)
at f (y ∷ ys) (suc i) l = at f ys i (omega arith)

long-map : (f : List ConstraintParts → ℕ) (xs : List (List ConstraintParts)) → length (map f xs) ≡ length xs
long-map f [] = refl
long-map f (x ∷ xs) = ap suc (long-map f xs)

-- by their words, filters may cover what they cover
pub narrows : (filters : List (List ConstraintParts)) (words : List ℕ) → words ≡ map text_word filters → Narrows filter_covers filters words
narrows filters words e = subst (Narrows filter_covers filters) (sym e) (record {
  long = long-map text_word filters;
  never_misses = λ i j l m c.
      let x = at text_word filters i l in
      let y = at text_word filters j m in
      rw (x.2, y.2) (may-cover x.0 y.0 (sym (cover-at filter_covers filters i j x.0 y.0 x.1 y.1) ∙ c));
})
