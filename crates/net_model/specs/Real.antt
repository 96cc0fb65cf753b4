-- Defines the theory of filters, advertisements and notices that the servers run with, and shows that it keeps what the network asks.
use Rattle.std.specs.Prelude.{◌≡◌, Bool, true, ◌&&◌, List}
use Rattle.filter_constraints.specs.Constraint.{ConstraintParts}
use Rattle.filter_types.specs.Notice.{Attribute}
use Rattle.filter_types.specs.Cover.{matches, allows, filter_covers, advert_covers, overlaps}
use Rattle.filter_types.specs.Before.{list_before}
use Rattle.filter_types.proofs.CoveringLaws.{filter-sound, advert-sound}
use Rattle.filter_types.proofs.OverlapLaws.{overlap}
use Rattle.filter_covering.specs.Laws.{sub_laws, ad_laws}
use Rattle.filter_covering.specs.Values.{are_values}
use Rattle.filter_covering.proofs.Values.{tested_values}
use Rattle.law_routing.specs.Theory.{Theory, TheoryLaws}
use Rattle.std.proofs.lemmas.Bool.{and_parts, and_from}

-- the notice is one that a program can have, and matches the filter
unfoldable pub real_matches : List Attribute → List ConstraintParts → Bool
real_matches n f = are_values n && matches n f

-- the notice is one that a program can have, and the advertisement allows it
unfoldable pub real_allows : List ConstraintParts → List Attribute → Bool
real_allows a n = are_values n && allows a n

-- filters and advertisements are lists of constraints, notices lists of attributes
abbrev pub real : Theory
real = record {
  Filter = List ConstraintParts;
  Advert = List ConstraintParts;
  Notice = List Attribute;
  covers = filter_covers;
  before = list_before;
  covers_advert = advert_covers;
  before_advert = list_before;
  matches = real_matches;
  allows = real_allows;
  overlaps = overlaps;
}

sound : (n : List Attribute) (f g : List ConstraintParts) → filter_covers f g ≡ true → real_matches n g ≡ true → real_matches n f ≡ true
unfolding real_matches
sound n f g p q = let w = and_parts (are_values n) (matches n g) q in and_from (are_values n) (matches n f) w.0 (filter-sound f g n (tested_values n w.0) p w.1)

sound-advert : (n : List Attribute) (a b : List ConstraintParts) → advert_covers a b ≡ true → real_allows b n ≡ true → real_allows a n ≡ true
unfolding real_allows
sound-advert n a b p q =
    let w = and_parts (are_values n) (allows b n) q in and_from (are_values n) (allows a n) w.0 (advert-sound a b n (tested_values n w.0) p w.1)

meet : (n : List Attribute) (f a : List ConstraintParts) → real_matches n f ≡ true → real_allows a n ≡ true → overlaps f a ≡ true
unfolding real_matches real_allows
meet n f a p q =
    let w = and_parts (are_values n) (matches n f) p in
    let v = and_parts (are_values n) (allows a n) q in
    overlap f a n (tested_values n w.0) w.1 v.1

pub real_laws : TheoryLaws real
real_laws = record { filters = sub_laws; adverts = ad_laws; sound = sound; sound_advert = sound-advert; meet = meet }
