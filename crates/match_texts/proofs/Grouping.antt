-- Groups of ids, and what a walk over them appends.
use Rattle.std.proofs.Common.{◌≡◌, ◌+◌, ◌<◌, ◌∙◌, refl, sym, ap, arith, ℕ, zero, suc, Bool, true, false, cond, List, [], ◌∷◌, ◌++◌, length, take, get_or, append_assoc, append-nil}
use Rattle.std.proofs.Math.ListN.{set}
use Rattle.std.proofs.lemmas.List.{take_more}
use Rattle.match_index.specs.Pairs.{tally, Same}
use Rattle.match_index.specs.Groups.{under}
use Rattle.match_index.specs.Lines.{ids_with, told}
use Rattle.match_index.proofs.Lines.{tally-told}
use Rattle.match_index.proofs.Rows.{flat-set, flat-push}
use Rattle.match_texts.specs.declared.group.Group.{Group}
use Rattle.match_texts.specs.declared.marks.Mark.{Mark}
use Rattle.match_texts.specs.Groups.{mark_of, marks_of, group_pairs, groups_pairs}

module _ (q : List ℕ → Bool) where
  pub with-append : (a b : List (List ℕ × ℕ)) → ids_with q (a ++ b) ≡ ids_with q a ++ ids_with q b
  with-append [] b = refl
  with-append (x ∷ a) b = go (q x.0) (with-append a b)
    where
      go : (t : Bool) → ids_with q (a ++ b) ≡ ids_with q a ++ ids_with q b → cond t (x.1 ∷ ids_with q (a ++ b)) (ids_with q (a ++ b)) ≡ cond t (x.1 ∷ ids_with q a) (ids_with q a) ++ ids_with q b
      go true h = ap (λ (zs : List ℕ). x.1 ∷ zs) h
      go false h = h

  pub with-under : (k : List ℕ) (ids : List ℕ) → ids_with q (under k ids) ≡ cond (q k) ids []
  with-under k [] = go (q k) []
    where
      go : (t : Bool) (xs : List ℕ) → xs ≡ cond t xs xs
      go true xs = refl
      go false xs = refl
  with-under k (id ∷ ids) = go (q k) (with-under k ids)
    where
      go : (t : Bool) → ids_with q (under k ids) ≡ cond t ids [] → cond t (id ∷ ids_with q (under k ids)) (ids_with q (under k ids)) ≡ cond t (id ∷ ids) []
      go true h = ap (λ (zs : List ℕ). id ∷ zs) h
      go false h = h

  pairs-append : (xs : List Group) (y : Group) → groups_pairs (xs ++ y ∷ []) ≡ groups_pairs xs ++ group_pairs y
  pairs-append [] y = append-nil (group_pairs y)
  pairs-append (x ∷ xs) y = ap (λ (z : List (List ℕ × ℕ)). group_pairs x ++ z) (pairs-append xs y) ∙ sym (append_assoc (group_pairs x) (groups_pairs xs) (group_pairs y))

  -- one group more in a walk
  pub walk-more : (groups : List Group) (i : ℕ) (g : Group) (first old new : List ℕ) → i < length groups → g ≡ get_or groups i g → old ≡ first ++ ids_with q (groups_pairs (take i groups)) → new ≡ old ++ cond (q g.key.items) g.ids.items [] → new ≡ first ++ ids_with q (groups_pairs (take (i + 1) groups))
  walk-more groups i g first old new l e a b =
      let t : take (i + 1) groups ≡ take i groups ++ g ∷ [] = take_more groups i g l ∙ ap (λ (x : Group). take i groups ++ x ∷ []) (sym e) in
      let p : ids_with q (groups_pairs (take (i + 1) groups)) ≡ ids_with q (groups_pairs (take i groups)) ++ ids_with q (group_pairs g) = ap (λ (gs : List Group). ids_with q (groups_pairs gs)) t ∙ (ap (ids_with q) (pairs-append (take i groups) g) ∙ with-append (groups_pairs (take i groups)) (group_pairs g)) in
      (b ∙ ap (λ (z : List ℕ). old ++ z) (sym (with-under g.key.items g.ids.items))) ∙ (ap (λ (z : List ℕ). z ++ ids_with q (group_pairs g)) a ∙ (append_assoc first (ids_with q (groups_pairs (take i groups))) (ids_with q (group_pairs g)) ∙ ap (λ (z : List ℕ). first ++ z) (sym p)))

pub marks-long : (groups : List Group) → length (marks_of groups) ≡ length groups
marks-long [] = refl
marks-long (x ∷ groups) = ap suc (marks-long groups)

pub marks-set : (groups : List Group) (i : ℕ) (g d : Group) → g.key.items ≡ (get_or groups i d).key.items → marks_of (set groups i g) ≡ marks_of groups
marks-set [] i g d e = refl
marks-set (x ∷ groups) zero g d e = ap (λ (u : List ℕ). mark_of u ∷ marks_of groups) e
marks-set (x ∷ groups) (suc i) g d e = ap (λ (ms : List Mark). mark_of x.key.items ∷ ms) (marks-set groups i g d e)

-- an id more in a group, and a group more
pub ids-more : (groups : List Group) (i : ℕ) (old new : Group) (x : List ℕ × ℕ) → i < length groups → old ≡ get_or groups i old → Same (group_pairs new) (x ∷ group_pairs old) → Same (groups_pairs (set groups i new)) (x ∷ groups_pairs groups)
ids-more groups i old new x l e s = λ p.
    let f = flat-set group_pairs p groups i new old l in
    let g = ap (λ (z : Group). tally p (group_pairs z)) e in
    omega (arith, f, g, s p)

pub group-more : (groups : List Group) (g : Group) (x : List ℕ × ℕ) → group_pairs g ≡ x ∷ [] → Same (groups_pairs (groups ++ g ∷ [])) (x ∷ groups_pairs groups)
group-more groups g x e = λ p. omega (arith, flat-push group_pairs p groups g, ap (tally p) e)

pub push-same : (k : List ℕ) (id : ℕ) (old new : List ℕ) → new ≡ old ++ id ∷ [] → Same (under k new) ((k, id) ∷ under k old)
push-same k id old new e = λ p. ap (λ (ids : List ℕ). tally p (under k ids)) e ∙ go p old
  where
    go : (p : List ℕ × ℕ → Bool) (ids : List ℕ) → tally p (under k (ids ++ id ∷ [])) ≡ tally p ((k, id) ∷ under k ids)
    go p [] = refl
    go p (x ∷ ids) = omega (arith, go p ids)

-- an id more under a key, and under what it says
pub told-more : {N : Type 0} (said : List ℕ → N) (k : List ℕ) (id : ℕ) (old new : List (List ℕ × ℕ)) → Same new ((k, id) ∷ old) → Same (told said new) ((said k, id) ∷ told said old)
told-more said k id old new h = λ p. (
    let a = tally-told said p new in
    let b = tally-told said p old in
    let c = h (λ x. p (said x.0, x.1)) in
    omega (arith, a, b, c))
