-- Places in a list, and in the list of what a function makes of it.
use Rattle.std.proofs.Common.{◌≡◌, ℕ, zero, suc, ◌+◌, ◌<◌, get_or, List, [], ◌∷◌, ◌++◌, length, map, refl, ap, sym, ◌∙◌, arith, Bool, true, false, not, ◌||◌, cond, Some, None}
use Rattle.std.specs.Prelude.{position, nat_lt}
use Rattle.std.specs.List.{list_any, position_or_len, prefix_len}
use Rattle.std.specs.Prelude.{if◌then◌else◌}
use Rattle.std.specs.Str.{bytes_eq}
use Rattle.std.proofs.lemmas.Grind.{common_steps}
use Rattle.std.specs.declared.option.Option.{Option}
use Rattle.std.specs.Option.{is_some}
use Rattle.filter_constraints.proofs.BytesLemmas.{bytes_eq-told}
use Rattle.document_reader.specs.declared.draft.Draft.{Draft}
use Rattle.document_reader.specs.Drafts.{client_at, name_of, name_place}
use Rattle.std.proofs.lemmas.List.{length-map}
use Rattle.base.proofs.Lists.{map-push}
use Rattle.base.proofs.Numbers.{nat_lt-true}

prefix_len-map : {X Y : Type 0} (p : Y → Bool) (f : X → Y) (xs : List X) → prefix_len p (map f xs) ≡ prefix_len (λ x. p (f x)) xs
prefix_len-map p f [] = refl
prefix_len-map p f (x ∷ xs) = rw (prefix_len-map p f xs) refl

pub position-map : {X Y : Type 0} (p : Y → Bool) (f : X → Y) (xs : List X) → position (λ x. p (f x)) xs ≡ position p (map f xs)
position-map p f xs = rw (prefix_len-map (λ y. not (p y)) f xs, length-map xs f) refl

any-map : {X Y : Type 0} (p : Y → Bool) (f : X → Y) (xs : List X) → list_any p (map f xs) ≡ list_any (λ x. p (f x)) xs
any-map p f [] = refl
any-map p f (x ∷ xs) = rw (any-map p f xs) refl

lt_here : (n : ℕ) → nat_lt 0 (suc n) ≡ true
lt_here n = grind (arith, common_steps)

lt_next : (a b : ℕ) → nat_lt a b ≡ true → nat_lt (1 + a) (suc b) ≡ true
lt_next a b e = grind (arith, common_steps)

none_past : {X : Type 0} (p : X → Bool) (xs : List X) → list_any p xs ≡ true → nat_lt (position_or_len p xs) (length xs) ≡ true
none_past p [] e = cc
none_past p (x ∷ xs) e = go (p x) refl (none_past p xs)
  where
    go : (b : Bool) → p x ≡ b → (list_any p xs ≡ true → nat_lt (position_or_len p xs) (length xs) ≡ true) → nat_lt (position_or_len p (x ∷ xs)) (length (x ∷ xs)) ≡ true
    go true is more = rw is (lt_here (length xs))
    go false is more = let h : list_any p xs ≡ true = (sym (rw is refl) ∙ e) in rw is (lt_next (position_or_len p xs) (length xs) (more h))

never : {X : Type 0} (b : Bool) (x : X) → b ≡ true → cond b (Some x) None ≡ None → ⊥
never true x e n = cc
never false x e n = cc

-- where no place is told, none passes
pub none_passes : {X Y : Type 0} (p : Y → Bool) (f : X → Y) (xs : List X) → position p (map f xs) ≡ None → list_any (λ x. p (f x)) xs ≡ false
none_passes p f xs none = sym (any-map p f xs) ∙ go (list_any p (map f xs)) refl
  where
    go : (b : Bool) → list_any p (map f xs) ≡ b → list_any p (map f xs) ≡ false
    go false is = is
    go true is = let lt : nat_lt (position_or_len p (map f xs)) (length (map f xs)) ≡ true = none_past p (map f xs) is in absurd (never _ (position_or_len p (map f xs)) lt none)

-- a new name goes last
pub added : {X : Type 0} (f : X → List ℕ) (keys new : List X) (key : X) (names : List (List ℕ)) (name : List ℕ)
    → new ≡ (if list_any (λ k. bytes_eq (f key) (f k)) keys then keys else keys ++ key ∷ []) → f key ≡ name → map f keys ≡ names → name_place names name ≡ None → map f new ≡ names ++ name ∷ []
added f keys new key names name goes is are none =
    let same : name_place (map f keys) (f key) ≡ None = (ap (λ ns. name_place ns (f key)) are ∙ ap (name_place names) is) ∙ none in
    let absent : list_any (λ k. bytes_eq (f key) (f k)) keys ≡ false = none_passes (bytes_eq (f key)) f keys same in
    let last : new ≡ keys ++ key ∷ [] = goes ∙ rw absent refl in
    (ap (map f) last ∙ map-push f keys key) ∙ (ap (λ ns. ns ++ f key ∷ []) are ∙ ap (λ n. names ++ n ∷ []) is)

-- where a name has no place, no name is that
pub no-place : (o : Option ℕ) → not (is_some o) ≡ true → o ≡ None
no-place None e = refl
no-place (Some n) e = cc

pub absent : (p : List ℕ → Bool) (names : List (List ℕ)) → position p names ≡ None → list_any p names ≡ false
absent p names none = go (list_any p names) refl
  where
    go : (b : Bool) → list_any p names ≡ b → list_any p names ≡ false
    go false is = is
    go true is = let lt : nat_lt (position_or_len p names) (length names) ≡ true = none_past p names is in absurd (never _ (position_or_len p names) lt none)

not-there : (p : List ℕ → Bool) (names : List (List ℕ)) → list_any p names ≡ false → (k : ℕ) (z : List ℕ) → k < length names → p (get_or names k z) ≡ false
not-there p [] e k z l = absurd (omega arith)
not-there p (name ∷ names) e zero z l = left (p name) (list_any p names) e
  where
    left : (a b : Bool) → a || b ≡ false → a ≡ false
    left true b f = cc
    left false b f = refl
not-there p (name ∷ names) e (suc k) z l = not-there p names (right (p name) (list_any p names) e) k z (omega arith)
  where
    right : (a b : Bool) → a || b ≡ false → b ≡ false
    right true b f = cc
    right false b f = f

pub differs : (names : List (List ℕ)) (name : List ℕ) → name_place names name ≡ None → (k : ℕ) (z : List ℕ) → k < length names → get_or names k z ≡ name → ⊥
differs names name none k z l e =
    let f : bytes_eq name (get_or names k z) ≡ false = not-there (bytes_eq name) names (absent (bytes_eq name) names none) k z l in
    let g : bytes_eq name (get_or names k z) ≡ true = bytes_eq-told name (get_or names k z) (sym e) in
    cc

within : (b : Bool) (i n : ℕ) → cond b (Some i) None ≡ Some n → (b ≡ true) × (i ≡ n)
within true i n e = (refl, cc)
within false i n e = cc

pub place_within : (drafts : List Draft) (name : List ℕ) (n : ℕ) → client_at drafts name ≡ Some n → n < length drafts
unfolding client_at
place_within drafts name n e =
    let names : List (List ℕ) = map name_of drafts in
    let w = within (nat_lt (position_or_len (bytes_eq name) names) (length names)) (position_or_len (bytes_eq name) names) n e in
    let l : position_or_len (bytes_eq name) names < length names = nat_lt-true (position_or_len (bytes_eq name) names) (length names) w.0 in
    let same : length names ≡ length drafts = length-map drafts name_of in
    omega (arith, w.1)
