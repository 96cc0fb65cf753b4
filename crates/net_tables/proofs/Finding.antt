-- What publications match is found one after the other.
use Rattle.std.proofs.Common.{◌≡◌, ℕ, ◌+◌, ◌<◌, List, [], ◌∷◌, ◌++◌, length, map, take, get_or, sym, ap, ap₂, ◌∙◌}
use Rattle.std.proofs.lemmas.List.{map_more}
use Rattle.base_bits.specs.Rows.{Numbers}
use Rattle.base_bits.specs.Grid.{Table}
use Rattle.filter_text.specs.Messages.{Lists}
use Rattle.match_filters.specs.Matching.{matched}
use Rattle.net_tables.specs.Known.{PublicationParts}
use Rattle.net_tables.specs.Found.{matched_row}

pub found-more : (filters : Lists) (all : List PublicationParts) (k : ℕ) (known : PublicationParts) (row : Numbers) (old new : Table) → k < length all → known ≡ get_or all k known
    → row.width ≡ length filters → row.members ≡ matched known.notice filters → old.rows ≡ map (matched_row filters) (take k all)
    → new ≡ record { width = old.width; rows = old.rows ++ row ∷ [] } → new.rows ≡ map (matched_row filters) (take (k + 1) all)
found-more filters all k known row old new l here wide same before e =
    let found : row ≡ matched_row filters (get_or all k known) = ap₂ (λ w ms. record { width = w; members = ms }) wide same ∙ ap (matched_row filters) here in
    ap (λ (t : Table). t.rows) e ∙ (ap₂ (λ rows r. rows ++ r ∷ []) before found ∙ sym (map_more (matched_row filters) all k known l))
