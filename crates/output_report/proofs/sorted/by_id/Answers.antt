-- The sort keeps the order of ids and what ties, so it gives the list that insertion gives.
use Rattle.std.proofs.Common.{rules, ◌≡◌, ℕ, List, [], ◌∷◌, map, refl, sym, ap, ◌∙◌}
use Rattle.std.proofs.lemmas.List.Sorted.{answers_always}
use Rattle.std.proofs.lemmas.Result.{IfOk-weaker}
use Rattle.filter_text.specs.Deliveries.{Delivery}
use Rattle.net_inbox.specs.Inbox.{at_numbers, delivery_at}
use Rattle.output_report.specs.declared.sorted.Keyed.{Keyed}
use Rattle.output_report.proofs.Ids.{id_lt, id_weak, by_id_same}
use Rattle.output_report.proofs.Sorting.{inserted, inserted_from_sort, map_inserted}
use Rattle.output_report.proofs.sorted.by_id.Goals as goal

with_id : List Delivery → ℕ → Keyed
with_id all n = record { id = (delivery_at all n).id; number = n }

numbers_back : (all : List Delivery) (ns : List ℕ) → map (λ (k : Keyed). k.number) (map (with_id all) ns) ≡ ns
unfolding with_id
numbers_back all [] = refl
numbers_back all (n ∷ ns) = ap (λ z. n ∷ z) (numbers_back all ns)

pub returns : goal.returns
unfolding with_id
returns c =
    let all = c.args.deliveries.now in
    let at = delivery_at all in
    let ns = c.args.numbers.now in
    let lt = λ (x y : Keyed). id_lt x.id y.id in
    let below = λ (x y : ℕ). id_lt (at x).id (at y).id in
    let sorted = inserted_from_sort lt (id_weak (λ (k : Keyed). k.id)) c.in_ok-keyed.keyed.items c.sort_by_key.new.self.items
    (c.in_ok-sort_by_key.ensures.sorted (λ (k : Keyed). k.id) (answers_always _ _ _ (λ f a r g h. search rules)))
    (c.sort_by_key.ensures.stable (λ (k : Keyed). k.id) (answers_always _ _ _ (λ f a r g h. search rules))) in
    IfOk-weaker c.numbers_of.result _ _ (λ v (e : v.items ≡ map (λ (k : Keyed). k.number) c.deref.result.now).
    ap (map at) (e ∙ ap (map (λ (k : Keyed). k.number)) (c.deref.ensures.value ∙ sorted ∙ ap (inserted lt) c.in_ok-keyed.ensures ∙ sym (map_inserted (with_id all) lt ns))
    ∙ numbers_back all (inserted below ns))
    ∙ map_inserted at (λ d e. id_lt d.id e.id) ns
    ∙ by_id_same (at_numbers all ns)) c.numbers_of.ensures
