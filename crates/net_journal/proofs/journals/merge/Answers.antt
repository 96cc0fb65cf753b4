use Rattle.std.proofs.Common.{rules, map, length, ap, ◌∙◌}
use Rattle.std.proofs.lemmas.List.Sorted.{IsNonDecreasingBy-from_sort_by_key, answers_always, length_permutation}
use Rattle.net_journal.proofs.Joined.{joined-map, length-joined}
use Rattle.net_journal.proofs.Sorted.{stamp_of, merged-parts}
use Rattle.net_journal.proofs.Runs.{merge-sorted}
use Rattle.net_journal.proofs.journals.merge.Goals as goal

pub returns-clause-merge : goal.returns-clause-merge
returns-clause-merge c = λ net.
    merge-sorted net (map (λ journal. journal.items) c.args.journals.items) c.requires c.in_ok-merged.merged.items c.sort_by_key.new.self.items
    (c.in_ok-merged.ensures ∙ joined-map (λ journal. journal.items) c.args.journals.items)
    (IsNonDecreasingBy-from_sort_by_key stamp_of c.sort_by_key.new.self.items c.in_ok-sort_by_key.ensures.sorted (λ a r q k. search rules))
    (c.sort_by_key.ensures.stable stamp_of (answers_always _ _ _ (λ f a r g h. search rules)))

pub returns-clause-entries : goal.returns-clause-entries
returns-clause-entries c =
    merged-parts (map (λ journal. journal.items) c.args.journals.items) c.requires c.in_ok-merged.merged.items c.sort_by_key.new.self.items
    (c.in_ok-merged.ensures ∙ joined-map (λ journal. journal.items) c.args.journals.items)
    (IsNonDecreasingBy-from_sort_by_key stamp_of c.sort_by_key.new.self.items c.in_ok-sort_by_key.ensures.sorted (λ a r q k. search rules))
    (c.sort_by_key.ensures.stable stamp_of (answers_always _ _ _ (λ f a r g h. search rules)))

pub returns-clause-length : goal.returns-clause-length
returns-clause-length c =
    length_permutation c.in_ok-merged.merged.items c.sort_by_key.new.self.items c.sort_by_key.ensures.permutation
    ∙ ap length c.in_ok-merged.ensures
    ∙ length-joined (λ journal. journal.items) c.args.journals.items
