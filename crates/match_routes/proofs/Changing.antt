-- Lemmas on changes that are made one after the other.
use Rattle.std.proofs.Common.{◌<◌, ◌∙◌, ℕ, List, [], ◌∷◌, sym, subst}
use Rattle.base.specs.Sets.{Has}
use Rattle.match_routes.specs.Installed.{Pair, Installed, IsKnown, IsOfSame, AreKnown, pair_in}
use Rattle.match_routes.specs.declared.table_change.TableChange.{TableChange}

pub same-too : (p q r : Installed) → IsOfSame p q → IsOfSame q r → IsOfSame p r
same-too p q r a b = record { width = a.width ∙ b.width; interfaces = a.interfaces ∙ b.interfaces }

known-too : (p q : Installed) (x : Pair) → IsOfSame q p → IsKnown p x → IsKnown q x
known-too p q x s k = record { interface = subst (Has x.0) (sym s.interfaces) k.interface; number = subst (λ (w : ℕ). x.1 < w) (sym s.width) k.number }

pub all-known-too : (p q : Installed) (changes : List TableChange) → IsOfSame q p → AreKnown p changes → AreKnown q changes
all-known-too p q [] s k = tt
all-known-too p q (change ∷ changes) s k = (known-too p q (pair_in change) s k.0, all-known-too p q changes s k.1)
