-- Defines the text of a notification.
use Rattle.std.specs.Prelude.{◌≡◌, ◌++◌, ℕ, List, [], ◌∷◌, codes}
use Rattle.std.specs.List.{flat_map}
use Rattle.filter_values.specs.Value.{kind_of}
use Rattle.filter_types.specs.Notice.{Attribute, IsNotice}
use Rattle.filter_text.specs.ValueText.{kind_word, value_text}

-- the texts of a list's members, each behind `;` and a space
abbrev pub later : {A : Type 0} → (A → List ℕ) → List A → List ℕ
later text xs = flat_map (λ x. codes "; " ++ text x) xs

-- the texts of a list's members, with `;` and a space between them
abbrev pub joined : {A : Type 0} → (A → List ℕ) → List A → List ℕ
joined text [] = []
joined text (x ∷ xs) = text x ++ later text xs

-- name, kind and value, with single spaces (32)
unfoldable pub attribute_text : Attribute → List ℕ
attribute_text a = a.0 ++ 32 ∷ kind_word (kind_of a.1) ++ 32 ∷ value_text a.1

-- attributes, joined
unfoldable pub notice_text : List Attribute → List ℕ
notice_text n = joined attribute_text n

-- the bytes are the text of a notice: 1 to 64 attributes, names strictly rising
pub record IsNoticeText (bytes : List ℕ) (n : List Attribute) : Type 0 where
  pub notice : IsNotice n
  pub text : bytes ≡ notice_text n
