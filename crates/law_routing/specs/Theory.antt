-- What the network asks of filters, advertisements and notices. No definition and no law of the network looks into one.
use Rattle.std.specs.Prelude.{◌≡◌, Bool, true}
use Rattle.base.specs.Laws.{CoverLaws}

-- types of filters, advertisements and notices, with the tests on them
pub record Theory : Type 1 where
  pub Filter : Type 0
  pub Advert : Type 0
  pub Notice : Type 0
  -- covers f g: f covers g; before f g: f comes before g in the canonical order
  pub covers : Filter → Filter → Bool
  pub before : Filter → Filter → Bool
  pub covers_advert : Advert → Advert → Bool
  pub before_advert : Advert → Advert → Bool
  pub matches : Notice → Filter → Bool
  pub allows : Advert → Notice → Bool
  pub overlaps : Filter → Advert → Bool

-- covering is reflexive, transitive and sound, the orders are total, and a filter and an advertisement with a notice in common overlap
pub record TheoryLaws (theory : Theory) : Type 0 where
  pub filters : CoverLaws theory.covers theory.before
  pub adverts : CoverLaws theory.covers_advert theory.before_advert
  pub sound : (n : theory.Notice) (f g : theory.Filter) → theory.covers f g ≡ true → theory.matches n g ≡ true → theory.matches n f ≡ true
  pub sound_advert : (n : theory.Notice) (a b : theory.Advert) → theory.covers_advert a b ≡ true → theory.allows b n ≡ true → theory.allows a n ≡ true
  pub meet : (n : theory.Notice) (f : theory.Filter) (a : theory.Advert) → theory.matches n f ≡ true → theory.allows a n ≡ true → theory.overlaps f a ≡ true
