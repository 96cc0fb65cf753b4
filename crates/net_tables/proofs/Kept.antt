-- Items that are kept one after the other are the set of the list, and have keys and then numbers.
use Rattle.std.proofs.Common.{◌≡◌, inl, inr, ℕ, suc, ◌+◌, ◌<◌, ◌≤◌, Bool, List, [], ◌∷◌, ◌++◌, length, map, take, get_or, slice_get, Option, Some, sym, ap, subst, ◌∙◌, arith}
use Rattle.std.specs.List.{flat_map}
use Rattle.std.proofs.lemmas.List.{take_more, append_assoc, append-nil}
use Rattle.std.proofs.lemmas.Grind.{flat_map-append}
use Rattle.base.proofs.Lists.{take-suc-some, map-push, take-all}
use Rattle.base.specs.Laws.{CoverLaws}
use Rattle.base.specs.Sets.{Has, put_in}
use Rattle.filter_constraints.specs.Constraint.{ConstraintParts}
use Rattle.filter_types.specs.Before.{list_before}
use Rattle.filter_text.specs.Messages.{Lists}
use Rattle.base_pool.specs.declared.pool.Counted.{Counted}
use Rattle.base_pool.specs.Pool.{Pooled, slot, item_at, IsLive, AreKeysOf, IsKeptAt, SameElsewhere}
use Rattle.base_pool.proofs.Keys.{keys-next}
use Rattle.base_pool.proofs.Listed.{at-item, set_of-push}
use Rattle.base_pool.proofs.Order.{is-some}
use Rattle.net_model.specs.Parts.{ClientParts}
use Rattle.net_tables.specs.Known.{script_filters, script_adverts, known_filters, known_adverts}
use Rattle.net_tables.specs.Numbering.{AreNumbersOf, AreKept}

-- an item is kept under its key
pub kept_next : {T : Type 0} {covers before : T → T → Bool} → CoverLaws covers before → (old new : Pooled T) (keys : List ℕ) (named : List T) (item : T) (key : ℕ)
    → new.items ≡ put_in before item old.items → IsKeptAt old.slots new.slots item key → SameElsewhere old.slots new.slots key
    → AreKept before old keys named → AreKept before new (keys ++ key ∷ []) (named ++ item ∷ [])
kept_next {T} {covers} {before} laws old new keys named item key put kept others are = record {
  items = put ∙ ap (put_in before item) are.items ∙ sym (set_of-push laws named item);
  at = keys-next old.slots new.slots item key kept others keys named are.at;
}

-- room for another one leaves all as it is
pub kept_roomed : {T : Type 0} (before : T → T → Bool) (old new : Pooled T) (keys : List ℕ) (named : List T) → new.items ≡ old.items → new.slots ≡ old.slots
    → AreKept before old keys named → AreKept before new keys named
kept_roomed before old new keys named items slots are = record { items = items ∙ are.items; at = subst (λ s. AreKeysOf s keys named) (sym slots) are.at }

pub none_kept : (pool : Pooled (List ConstraintParts)) (keys : List ℕ) (named : Lists) → AreKept list_before pool keys named → AreKept list_before pool keys (named ++ [])
none_kept pool keys named are = subst (AreKept list_before pool keys) (sym (append-nil named)) are

-- the keys of what was kept are live
pub kept_live : {T : Type 0} (slots : List (Option (Counted T))) (keys : List ℕ) (items : List T) → AreKeysOf slots keys items → (key : ℕ) → Has key keys → IsLive slots key
kept_live slots [] items e key h = absurd h
kept_live slots (k ∷ ks) [] e key h = absurd cc
kept_live slots (k ∷ ks) (x ∷ xs) e key h =
    let first : item_at slots k ≡ Some x = cc in
    let rest : AreKeysOf slots ks xs = cc in
    elim h [
      | inl q ↦ let at = at-item slots k x first in is-some (slot slots key) (record { item = x; count = at.0 }) (ap (slot slots) q ∙ at.1)
      | inr m ↦ kept_live slots ks xs rest key m
    ]

-- numbers whose items are those of a list
pub numbers_of : {T : Type 0} (known : List T) (numbers : List ℕ) (named : List T) → map (slice_get known) numbers ≡ map (λ x. Some x) named → AreNumbersOf known numbers named
numbers_of known numbers [] e = tt
numbers_of known [] (x ∷ xs) e = absurd cc
numbers_of known (n ∷ ns) (x ∷ xs) e =
    let first : slice_get known n ≡ Some x = cc in
    let rest : map (slice_get known) ns ≡ map (λ z. Some z) xs = cc in
    (first, numbers_of known ns xs rest)

-- one more member of a list each of whose members names some
pub named_next : {S : Type 0} (f : S → Lists) (P : Lists → Type 0) (xs : List S) (i : ℕ) (x : S) (named : Lists) → i < length xs → x ≡ get_or xs i x
    → P ((named ++ flat_map f (take i xs)) ++ f x) → P (named ++ flat_map f (take (i + 1) xs))
named_next f P xs i x named l e h =
    let next : take (i + 1) xs ≡ take i xs ++ x ∷ [] = take_more xs i x l ∙ ap (λ z. take i xs ++ z ∷ []) (sym e) in
    let grown : flat_map f (take (i + 1) xs) ≡ flat_map f (take i xs) ++ f x = ap (flat_map f) next ∙ flat_map-append f (take i xs) (x ∷ []) ∙ ap (λ z. flat_map f (take i xs) ++ z) (append-nil (f x)) in
    subst P (append_assoc named (flat_map f (take i xs)) (f x) ∙ ap (λ z. named ++ z) (sym grown)) h

-- one more member of a list, taken or mapped
pub taken_next : {A : Type 0} (xs : List A) (i : ℕ) (x y : A) (done new : List A) → slice_get xs i ≡ Some x → y ≡ x → done ≡ take i xs → new ≡ done ++ y ∷ [] → new ≡ take (i + 1) xs
taken_next xs i x y done new e same before more =
    let next : i + 1 ≡ suc i = omega arith in
    more ∙ ap (λ z. z ++ y ∷ []) before ∙ ap (λ z. take i xs ++ z ∷ []) same ∙ sym (take-suc-some xs i x e) ∙ ap (λ n. take n xs) (sym next)

pub mapped_next : {A B : Type 0} (f : A → B) (xs : List A) (i : ℕ) (x : A) (y : B) (done new : List B) → slice_get xs i ≡ Some x → y ≡ f x → done ≡ map f (take i xs) → new ≡ done ++ y ∷ [] → new ≡ map f (take (i + 1) xs)
mapped_next f xs i x y done new e same before more =
    let next : i + 1 ≡ suc i = omega arith in
    more ∙ ap (λ z. z ++ y ∷ []) before ∙ ap (λ z. map f (take i xs) ++ z ∷ []) same ∙ sym (map-push f (take i xs) x) ∙ ap (map f) (sym (take-suc-some xs i x e)) ∙ ap (λ n. map f (take n xs)) (sym next)

-- nothing is left
pub all_kept : (f : ClientParts → Lists) (clients : List ClientParts) (i : ℕ) (pool : Pooled (List ConstraintParts)) (keys : List ℕ) → length clients ≤ i
    → AreKept list_before pool keys (flat_map f (take i clients)) → AreKept list_before pool keys (flat_map f clients)
all_kept f clients i pool keys l are = subst (λ z. AreKept list_before pool keys (flat_map f z)) (take-all i clients l) are

-- what was kept of all scripts
pub filters_kept : (clients : List ClientParts) (pool : Pooled (List ConstraintParts)) (keys : List ℕ) → AreKept list_before pool keys (flat_map (λ client. script_filters client.script) clients) → pool.items ≡ known_filters clients
unfolding known_filters
filters_kept clients pool keys are = are.items

pub adverts_kept : (clients : List ClientParts) (pool : Pooled (List ConstraintParts)) (keys : List ℕ) → AreKept list_before pool keys (flat_map (λ client. script_adverts client.script) clients) → pool.items ≡ known_adverts clients
unfolding known_adverts
adverts_kept clients pool keys are = are.items
