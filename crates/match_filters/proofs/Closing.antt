-- Shelves that become parts one after another, by rising names.
use Rattle.std.proofs.Common.{◌≡◌, ◌≤◌, ◌<◌, ◌∙◌, refl, sym, ap, subst, arith, ℕ, Bool, true, nat_le, List, [], ◌∷◌, ◌++◌, length, append_assoc}
use Rattle.std.specs.Prelude.{Vec}
use Rattle.std.specs.declared.alloc.Global.{Global}
use Rattle.std.specs.declared.cmp.Ordering.{Ordering}
use Rattle.std.specs.declared.cmp.Ordering.TheVariants.{Less, Greater}
use Rattle.std.specs.List.{AllByRecursion}
use Rattle.std.specs.List.Sorted.{IsStrictlySortedBy}
use Rattle.std.specs.Map.{keys_of}
use Rattle.std.specs.BTreeMap.{insert_entry}
use Rattle.std.specs.Ordering.{match_ordering, ordering_reverse}
use Rattle.std.proofs.lemmas.Cmp.{nat_list_cmp_total}
use Rattle.match_index.specs.Pairs.{tally, Pair}
use Rattle.match_index.specs.Keys.{key_cmp}
use Rattle.match_index.proofs.Tallies.{tally-append}
use Rattle.match_numbers.specs.Operands.{AreBelow}
use Rattle.match_filters.specs.Index.{Use}
use Rattle.match_filters.specs.Shelves.{named, uses_of}
use Rattle.match_filters.specs.Uses.{AreKnown}
use Rattle.match_filters.proofs.Filling.{tally-all}
use Rattle.match_filters.proofs.ShelfLaws.{tally-named}

abbrev Entry : Type 0
Entry = Vec ℕ Global × List Pair

-- some shelves are done, and others are left
pub record IsClosed (all done left : List Entry) : Type 0 where
  pub ordered : IsStrictlySortedBy key_cmp (keys_of all)
  pub whole : all ≡ done ++ left

all-at : (P : Vec ℕ Global → Type 0) (es rest : List Entry) (e : Entry) → AllByRecursion P (keys_of (es ++ e ∷ rest)) → P e.0
all-at P [] rest e h = h.0
all-at P (f ∷ es) rest e h = all-at P es rest e h.1

insert-last : (es rest : List Entry) (e : Entry) → IsStrictlySortedBy key_cmp (keys_of (es ++ e ∷ rest)) → insert_entry key_cmp es e.0 e.1 ≡ es ++ e ∷ []
unfolding IsStrictlySortedBy
insert-last [] rest e h = refl
insert-last (f ∷ es) rest e h =
    let less : key_cmp f.0 e.0 ≡ Less = all-at (λ y. key_cmp f.0 y ≡ Less) es rest e h.0 in
    let more : key_cmp e.0 f.0 ≡ Greater = nat_list_cmp_total.antisymm e.0.items f.0.items ∙ ap ordering_reverse less in
    ap (λ (o : Ordering). match_ordering o (e ∷ f ∷ es) ((f.0, e.1) ∷ es) (f ∷ insert_entry key_cmp es e.0 e.1)) more ∙ ap (λ (xs : List Entry). f ∷ xs) (insert-last es rest e h.1)

pub closed-more : (all done left new rest : List Entry) (e : Entry) → IsClosed all done left → left ≡ e ∷ rest → new ≡ insert_entry key_cmp done e.0 e.1 → IsClosed all new rest
closed-more all done left new rest e is l n =
    let whole : all ≡ done ++ (e ∷ rest) = is.whole ∙ ap (λ (xs : List Entry). done ++ xs) l in
    let sorted = subst (λ (xs : List Entry). IsStrictlySortedBy key_cmp (keys_of xs)) whole is.ordered in
    record {
      ordered = is.ordered;
      whole = whole ∙ (sym (append_assoc done (e ∷ []) rest) ∙ ap (λ (xs : List Entry). xs ++ rest) (sym (n ∙ insert-last done rest e sorted)));
    }

shelf-few : (p : Use → Bool) (done rest : List Entry) (e : Entry) → tally p (named e.0.items e.1) ≤ tally p (uses_of (done ++ e ∷ rest))
shelf-few p [] rest e = omega (arith, tally-append p (named e.0.items e.1) (uses_of rest))
shelf-few p (f ∷ done) rest e = omega (arith, tally-append p (named f.0.items f.1) (uses_of (done ++ e ∷ rest)), shelf-few p done rest e)

whole-few : (p : Use → Bool) (all done left rest : List Entry) (e : Entry) → IsClosed all done left → left ≡ e ∷ rest → tally p (named e.0.items e.1) ≤ tally p (uses_of all)
whole-few p all done left rest e is l = omega (arith, shelf-few p done rest e, ap (λ (xs : List Entry). tally p (uses_of xs)) (is.whole ∙ ap (λ (xs : List Entry). done ++ xs) l))

pub shelf-below : (bound : ℕ) (all done left rest : List Entry) (e : Entry) → IsClosed all done left → left ≡ e ∷ rest → AreKnown bound (uses_of all) → AreBelow bound e.1
shelf-below bound all done left rest e is l known =
    let p = λ (u : Use). nat_le bound u.1 in
    omega (arith, known, whole-few p all done left rest e is l, tally-named p e.0.items e.1)

pub shelf-small : (bound : ℕ) (all done left rest : List Entry) (e : Entry) → IsClosed all done left → left ≡ e ∷ rest → length (uses_of all) < bound → length e.1 < bound
shelf-small bound all done left rest e is l few =
    let p = λ (u : Use). true in
    omega (arith, few, whole-few p all done left rest e is l, tally-named p e.0.items e.1, tally-all (uses_of all), tally-all e.1)
