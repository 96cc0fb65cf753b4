-- Lemmas on ids that are appended to a list.
use Rattle.std.proofs.Common.{◌≡◌, ◌+◌, ◌∙◌, ap, refl, sym, List, [], ◌∷◌, ◌++◌, ℕ, append-nil}
use Rattle.match_index.specs.Pairs.{Appends, tally}

pub appended : (old new ids : List ℕ) → new ≡ old ++ ids → Appends old new ids
appended old new ids h = record { tail = ids; whole = h; same = λ p. refl }

pub nothing-appended : (old ids : List ℕ) → ids ≡ [] → Appends old old ids
nothing-appended old [] h = appended old old [] (sym (append-nil old))
nothing-appended old (id ∷ ids) h = cc

pub those-appended : (old new ids all : List ℕ) → Appends old new ids → ids ≡ all → Appends old new all
those-appended old new ids all h e = record { tail = h.tail; whole = h.whole; same = λ p. h.same p ∙ ap (tally p) e }
