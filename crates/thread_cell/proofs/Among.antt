-- Lemmas on members of lists of numbers, found by a test.
use Rattle.std.proofs.Common.{◌≡◌, ◌↔◌, ℕ, ◌==◌, ◌||◌, Bool, true, false, List, [], ◌∷◌, inl, inr, refl, sym, ap, ◌∙◌, eq-eqb, IsTrue}
use Rattle.std.specs.List.{list_any}
