use Rattle.std.proofs.Common.{map, sym, ap, ◌∙◌}
use Rattle.net_tables.specs.Words.{text_word}
use Rattle.net_tables.proofs.Asked.{narrows}
use Rattle.net_tables.proofs.catalogue.Catalogue.filter_order.Goals as goal

pub narrowed-requires-clause-words : goal.narrowed-requires-clause-words
narrowed-requires-clause-words c =
    narrows c.filters-2.result.now c.in_ok-words.words.items (c.in_ok-words.ensures ∙ ap (map text_word) (c.filters.ensures ∙ sym c.filters-2.ensures))
