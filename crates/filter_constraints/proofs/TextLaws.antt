-- Proves that covering and compatibility of the normal forms of texts are sound.
use Rattle.std.proofs.Common.{◌≡◌, ℕ, true, arith, List}
use Rattle.filter_constraints.specs.Texts.{Texts, text_allows, text_covers, text_compatible}
use Rattle.filter_constraints.proofs.BytesLemmas.{le-le, less-irrefl, less-asym, less-le, le-less, has_prefix-has_prefix, has_suffix-has_suffix, has_part-has_prefix, has_part-has_suffix, has_part-has_part, two_fronts, two_ends, bytes_eq-tells, bytes_eq-told, has_prefix-self, has_suffix-self, has_part-self}
use Rattle.base.proofs.Lists.{bytes_eq-self}

pub sound : (k m : Texts) (x : List ℕ) → text_covers k m ≡ true → text_allows m x ≡ true → text_allows k x ≡ true
sound k m x h j = grind (arith, less-le, le-less, less-asym, le-le, has_prefix-has_prefix, has_suffix-has_suffix, has_part-has_prefix, has_part-has_suffix, has_part-has_part, bytes_eq-tells, bytes_eq-told)

pub reflexive : (k : Texts) → text_covers k k ≡ true
reflexive k = grind (arith, less-irrefl, has_prefix-self, has_suffix-self, has_part-self, bytes_eq-self)

pub transitive : (k m n : Texts) → text_covers k m ≡ true → text_covers m n ≡ true → text_covers k n ≡ true
transitive k m n h j = grind (arith, sound, less-le, le-less, less-asym, le-le, has_prefix-has_prefix, has_suffix-has_suffix, has_part-has_prefix, has_part-has_suffix, has_part-has_part, bytes_eq-tells, bytes_eq-told)

pub never_wrong : (k m : Texts) (x : List ℕ) → text_allows k x ≡ true → text_allows m x ≡ true → text_compatible k m ≡ true
never_wrong k m x h j = grind (arith, less-le, le-less, less-asym, le-le, two_fronts, two_ends, bytes_eq-tells, bytes_eq-told)
