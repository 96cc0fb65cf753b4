-- Changes of links are handed over one after the other.
use Rattle.std.proofs.Common.{◌≡◌, inl, inr, ℕ, ◌+◌, List, [], ◌∷◌, ◌++◌, map, take, slice_get, Some, refl, sym, ap, subst, ◌∙◌, append_assoc, add-one}
use Rattle.std.proofs.lemmas.List.{map-append}
use Rattle.filter_constraints.specs.Constraint.{ConstraintParts}
use Rattle.base.specs.Sets.{Has, IsRising}
use Rattle.filter_types.specs.Before.{list_before}
use Rattle.filter_covering.specs.Laws.{sub_laws}
use Rattle.base_order.specs.Order.{picked}
use Rattle.server_stock.proofs.Shown.{picked-has, one-number}
use Rattle.match_routes.specs.declared.table_change.TableChange.{TableChange}
use Rattle.server_spec.specs.Control.{Controlled, subs}
use Rattle.thread_cell.specs.declared.link.Link.{Link}
use Rattle.thread_cell.specs.Lanes.{neighbours_in}
use Rattle.thread_cell.specs.Relinking.{AreTaken, takes}
use Rattle.base.proofs.Sets.{has-append, has-append-left, has-append-right, map-has, has-map}
use Rattle.base.proofs.Lists.{take-suc-some}

-- one more change of one link
pub one-more-change : (of : ℕ → TableChange) (numbers : List ℕ) (first old new : List TableChange) (n : ℕ) (x : ℕ) → slice_get numbers n ≡ Some x → new ≡ old ++ of x ∷ []
    → old ≡ first ++ map of (take n numbers) → new ≡ first ++ map of (take (n + 1) numbers)
one-more-change of numbers first old new n x at e f =
    e ∙ ap (λ l. l ++ of x ∷ []) f ∙ append_assoc first (map of (take n numbers)) (of x ∷ [])
    ∙ ap (λ l. first ++ l) (sym (map-append of (take n numbers) (x ∷ [])) ∙ ap (map of) (sym (rw add-one (take-suc-some numbers n x at))))

module _ (items : List (List ConstraintParts)) (control : Controlled) where
  -- of no link nothing is taken away
  pub taken-none : AreTaken items control [] []
  taken-none = record { only = λ c h. absurd h; all = λ link number f h. absurd h }

  -- the changes of more links
  pub taken-more : (links : List ℕ) (link : ℕ) (one two : List TableChange) → AreTaken items control links one → AreTaken items control (link ∷ []) two → AreTaken items control (links ++ link ∷ []) (one ++ two)
  taken-more links link one two a b = record { only = only; all = all }
    where
      only : (c : TableChange) → Has c (one ++ two) → (l number : ℕ) × (c ≡ takes l number) × Has l (links ++ link ∷ [])
      only c h = elim (has-append c one two h) [
        | inl m ↦ (let r = a.only c m in (r.0, r.1, r.2, has-append-left r.0 links (link ∷ []) r.3))
        | inr m ↦ (let r = b.only c m in (r.0, r.1, r.2, has-append-right r.0 links (link ∷ []) r.3))
      ]

      all : (l number : ℕ) (f : List ConstraintParts) → Has l (links ++ link ∷ []) → slice_get items number ≡ Some f → Has f (subs control l) → Has (takes l number) (one ++ two)
      all l number f h e m = elim (has-append l links (link ∷ []) h) [
        | inl k ↦ has-append-left (takes l number) one two (a.all l number f k e m)
        | inr k ↦ has-append-right (takes l number) one two (b.all l number f k e m)
      ]

  -- the numbers that pick what is held from a link are all that are taken away
  pub taken-one : IsRising list_before items → (link : ℕ) (numbers : List ℕ) → picked items numbers ≡ subs control link → AreTaken items control (link ∷ []) (map (takes link) numbers)
  taken-one rising link numbers represents = record { only = only; all = all }
    where
      unpicked : (number : ℕ) (f : List ConstraintParts) → slice_get items number ≡ Some f → Has f (picked items numbers) → Has number numbers
      unpicked number f e h =
          let r = picked-has items numbers f h in
          subst (λ z. Has z numbers) (one-number sub_laws items rising r.0 number f r.2 e) r.1

      only : (c : TableChange) → Has c (map (takes link) numbers) → (l number : ℕ) × (c ≡ takes l number) × Has l (link ∷ [])
      only c h = let m = has-map (takes link) numbers c h in (link, m.0, m.2, inl refl)

      all : (l number : ℕ) (f : List ConstraintParts) → Has l (link ∷ []) → slice_get items number ≡ Some f → Has f (subs control l) → Has (takes l number) (map (takes link) numbers)
      all l number f (inl q) e m =
          subst (λ z. Has (takes z number) (map (takes link) numbers)) (sym q)
          (map-has (takes link) numbers number (unpicked number f e (subst (Has f) (ap (subs control) q ∙ sym represents) m)))
      all l number f (inr h) e m = absurd h

pub names-take : (links : List Link) (n : ℕ) (x : Link) → slice_get links n ≡ Some x → neighbours_in (take (n + 1) links) ≡ neighbours_in (take n links) ++ x.neighbour ∷ []
names-take links n x at = ap neighbours_in (rw add-one (take-suc-some links n x at)) ∙ map-append (λ (l : Link). l.neighbour) (take n links) (x ∷ [])
