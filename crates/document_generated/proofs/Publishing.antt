-- A generated publication has four attributes, of different names in no order, written by their canonical text.
use Rattle.std.proofs.Common.{◌≡◌, ℕ, ◌+◌, ◌<◌, ◌≤◌, ◌%◌, false, refl, sym, ap, ◌∙◌, arith, List, [], ◌∷◌, ◌++◌, length, append_assoc, append-nil}
use Rattle.std.specs.Prelude.{None, pos, codes}
use Rattle.std.specs.Fmt.{decimal}
use Rattle.std.specs.Str.{bytes_eq}
use Rattle.std.proofs.Math.Nat.{mod-lt}
use Rattle.filter_values.specs.Name.{IsName, is_name}
use Rattle.filter_values.specs.Value.{IsValue}
use Rattle.filter_values.proofs.NameTests.{tested_name}
use Rattle.filter_values.specs.declared.value.Value.TheVariants as values
use Rattle.filter_types.specs.Notice.{Attribute, AreNames, AreValues, first_twice}
use Rattle.filter_text.specs.NoticeText.{attribute_text as written, notice_text}
use Rattle.filter_text.specs.MessageText.{Each}
use Rattle.document_format.proofs.LineLaws.{ended}
use Rattle.document_format.proofs.PartLaws.{IsAttributeIn}
use Rattle.document_generate.specs.Draws.{draw, letter, after}
use Rattle.document_generate.specs.Lines.{attribute_text, publish_line}
use Rattle.document_generated.proofs.Leading.{number-short, append-short}
use Rattle.document_generated.proofs.ClientLines.{numbered-name, names-differ}
use Rattle.document_generated.proofs.EdgeLines.{draw-below}
use Rattle.document_generated.proofs.Letters.{IsDrawnLetter, letter-is, letters-text, letters-plain}

-- the texts, joined piece by piece
joined-by : (s x y z c n : List ℕ) → (x ++ ((s ++ y) ++ ((s ++ z) ++ ((s ++ c) ++ [])))) ++ n ≡ (x ++ s) ++ (y ++ s) ++ (z ++ s) ++ (c ++ n)
joined-by s x y z c n = simp (append_assoc, append-nil)

attributes-joined : (x y z c : List ℕ) → ended (codes "publish" ++ 32 ∷ (x ++ ((codes "; " ++ y) ++ ((codes "; " ++ z) ++ ((codes "; " ++ c) ++ []))))) ≡ codes "publish " ++ (x ++ codes "; ") ++ (y ++ codes "; ") ++ (z ++ codes "; ") ++ (c ++ 10 ∷ [])
attributes-joined x y z c = ap (λ w. codes "publish " ++ w) (joined-by (codes "; ") x y z c (10 ∷ []))

-- an attribute by the number of its name, and its value
abbrev numbered : ℕ → ℕ → Attribute
numbered name value = (97 ∷ decimal name, values.Int (pos value))

numbered-same : (name value : ℕ) → written (numbered (name % 8) value) ++ codes "; " ≡ attribute_text name value
unfolding written attribute_text
numbered-same name value = simp append_assoc

-- the last attribute
abbrev lettered : ℕ → ℕ → Attribute
lettered b c = (codes "t", values.Str (b ∷ c ∷ []))

lettered-same : (b c : ℕ) → IsDrawnLetter b → IsDrawnLetter c → written (lettered b c) ++ 10 ∷ [] ≡ codes "t str \"" ++ b ∷ c ∷ codes "\"\n"
unfolding written
lettered-same b c l k = ap (λ z. codes "t str " ++ z ++ 10 ∷ []) (letters-plain (b ∷ c ∷ []) (l, (k, tt)))

-- three numbers that follow one another, in a ring of eight
near-differ : (n : ℕ) → n < 8 → (n % 8 ≡ (n + 1) % 8 → ⊥) × (n % 8 ≡ (n + 2) % 8 → ⊥) × ((n + 1) % 8 ≡ (n + 2) % 8 → ⊥)
near-differ n l = (λ e. omega (arith, l, e), λ e. omega (arith, l, e), λ e. omega (arith, l, e))

-- a line of a publication, by its attributes
pub record IsPublishing (text : List ℕ) : Type 0 where
  pub first : Attribute
  pub others : List Attribute
  pub each : Each (IsAttributeIn 1) (first ∷ others)
  pub few : length others < 8
  pub names : AreNames (first ∷ others)
  pub values : AreValues (first ∷ others)
  pub once : first_twice (first ∷ others) ≡ None
  pub same : ended (codes "publish" ++ 32 ∷ notice_text (first ∷ others)) ≡ text
  pub short : length text ≤ 100

module _ (n u v w b c : ℕ) (n-few : n < 8) (u-few : u < 100) (v-few : v < 100) (w-few : w < 100) (b-is : IsDrawnLetter b) (c-is : IsDrawnLetter c) where
  text : List ℕ
  text = codes "publish " ++ attribute_text n u ++ attribute_text (n + 1) v ++ attribute_text (n + 2) w ++ codes "t str \"" ++ b ∷ c ∷ codes "\"\n"

  others : List Attribute
  others = numbered ((n + 1) % 8) v ∷ numbered ((n + 2) % 8) w ∷ lettered b c ∷ []

  name : (m : ℕ) → IsName (97 ∷ decimal (m % 8))
  name m = let l : m % 8 < 8 = mod-lt m (omega arith) in numbered-name 97 (m % 8) refl (omega (arith, l))

  name-t : IsName (codes "t")
  unfolding is_name
  name-t = tested_name (codes "t") refl

  value : (m : ℕ) → m < 100 → IsValue (values.Int (pos m))
  value m l = omega (arith, l)

  value-t : IsValue (values.Str (b ∷ c ∷ []))
  value-t = letters-text (b ∷ c ∷ []) (omega arith) (b-is, (c-is, tt))

  differ : (k m : ℕ) → (k % 8 ≡ m % 8 → ⊥) → bytes_eq (97 ∷ decimal (k % 8)) (97 ∷ decimal (m % 8)) ≡ false
  differ k m e =
      let l : k % 8 < 8 = mod-lt k (omega arith) in
      let j : m % 8 < 8 = mod-lt m (omega arith) in
      names-differ 97 (k % 8) (m % 8) (omega (arith, l)) (omega (arith, j)) e

  once : first_twice (numbered (n % 8) u ∷ others) ≡ None
  unfolding first_twice others
  once =
      let d = near-differ n n-few in
      rw (differ n (n + 1) d.0, differ n (n + 2) d.1, differ (n + 1) (n + 2) d.2) refl

  text-same : ended (codes "publish" ++ 32 ∷ notice_text (numbered (n % 8) u ∷ others)) ≡ text
  unfolding others text notice_text
  text-same =
      let head = codes "publish " in
      let x = written (numbered (n % 8) u) in
      let y = written (numbered ((n + 1) % 8) v) in
      let z = written (numbered ((n + 2) % 8) w) in
      let t = written (lettered b c) in
      attributes-joined x y z t
      ∙ ap (λ (p : List ℕ). head ++ p ++ (y ++ codes "; ") ++ (z ++ codes "; ") ++ (t ++ 10 ∷ [])) (numbered-same n u)
      ∙ ap (λ (p : List ℕ). head ++ attribute_text n u ++ p ++ (z ++ codes "; ") ++ (t ++ 10 ∷ [])) (numbered-same (n + 1) v)
      ∙ ap (λ (p : List ℕ). head ++ attribute_text n u ++ attribute_text (n + 1) v ++ p ++ (t ++ 10 ∷ [])) (numbered-same (n + 2) w)
      ∙ ap (λ (p : List ℕ). head ++ attribute_text n u ++ attribute_text (n + 1) v ++ attribute_text (n + 2) w ++ p) (lettered-same b c b-is c-is)
      ∙ sym (append_assoc (head ++ attribute_text n u ++ attribute_text (n + 1) v ++ attribute_text (n + 2) w) (codes "t str \"") (b ∷ c ∷ codes "\"\n"))

  attribute-short : (m x : ℕ) → x < 100 → length (attribute_text m x) ≤ 12
  unfolding attribute_text
  attribute-short m x l =
      let k : m % 8 < 8 = mod-lt m (omega arith) in
      let one = append-short (codes "a") (decimal (m % 8)) 1 2 (omega arith) (number-short (m % 8) (omega (arith, k))) in
      let two = append-short (codes "a" ++ decimal (m % 8)) (codes " int ") 3 5 one (omega arith) in
      let three = append-short (codes "a" ++ decimal (m % 8) ++ codes " int ") (decimal x) 8 2 two (number-short x l) in
      append-short (codes "a" ++ decimal (m % 8) ++ codes " int " ++ decimal x) (codes "; ") 10 2 three (omega arith)

  text-short : length text ≤ 55
  unfolding text
  text-short =
      let head = codes "publish " in
      let one = append-short head (attribute_text n u) 8 12 (omega arith) (attribute-short n u u-few) in
      let two = append-short (head ++ attribute_text n u) (attribute_text (n + 1) v) 20 12 one (attribute-short (n + 1) v v-few) in
      let three = append-short (head ++ attribute_text n u ++ attribute_text (n + 1) v) (attribute_text (n + 2) w) 32 12 two (attribute-short (n + 2) w w-few) in
      let four = append-short (head ++ attribute_text n u ++ attribute_text (n + 1) v ++ attribute_text (n + 2) w) (codes "t str \"") 44 7 three (omega arith) in
      append-short (head ++ attribute_text n u ++ attribute_text (n + 1) v ++ attribute_text (n + 2) w ++ codes "t str \"") (b ∷ c ∷ codes "\"\n") 51 4 four (omega arith)

  numbers : IsPublishing text
  unfolding others
  numbers = record {
    first = numbered (n % 8) u;
    others = others;
    each = ((name n, value u u-few, refl), ((name (n + 1), value v v-few, refl), ((name (n + 2), value w w-few, refl), ((name-t, value-t, refl), tt))));
    few = omega arith;
    names = (name n, (name (n + 1), (name (n + 2), (name-t, tt))));
    values = (value u u-few, (value v v-few, (value w w-few, (value-t, tt))));
    once = once;
    same = text-same;
    short = omega (arith, text-short);
  }

pub publishing : (s : ℕ) → IsPublishing (publish_line s)
unfolding publish_line text
publishing s = numbers (draw s 8) (draw (after 1 s) 100) (draw (after 2 s) 100) (draw (after 3 s) 100) (letter (after 4 s)) (letter (after 5 s))
    (draw-below s 8 (omega arith)) (draw-below (after 1 s) 100 (omega arith)) (draw-below (after 2 s) 100 (omega arith)) (draw-below (after 3 s) 100 (omega arith))
    (letter-is (after 4 s)) (letter-is (after 5 s))
