-- The facts of those of many filters, or advertisements, that are in force at some moment.
use Rattle.std.proofs.Common.{◌≡◌, ℕ, zero, suc, ◌+◌, ◌<◌, Bool, true, List, [], ◌∷◌, ◌++◌, inl, inr, map, take, length, get_or, append-nil, append_assoc, Option, Some, None, refl, sym, ap, subst, ◌∙◌, arith}
use Rattle.std.specs.List.{flat_map}
use Rattle.base.specs.Sets.{Has, IsRising}
use Rattle.output_explain.specs.declared.stay.Stay.{Stay}
use Rattle.output_explain.specs.Facts.{fact_by}

module _ {Item Fact : Type 0} (make : Item → Stay → Fact) (item : Fact → Item) (of : (x : Item) (stay : Stay) → item (make x stay) ≡ x) (stay : Item → Option Stay) where
  abbrev pub facts : List Item → List Fact
  facts known = flat_map (λ x. fact_by (make x) (stay x)) known

  abbrev pub items : List Item → List Item
  items known = map item (facts known)

  -- whose fact it is
  pub record Whose (known : List Item) (fact : Fact) : Type 0 where
    pub of_item : Item
    pub stays : Stay
    pub among : Has of_item known
    pub found : stay of_item ≡ Some stays
    pub is : fact ≡ make of_item stays

  later : (x : Item) (known : List Item) (fact : Fact) → Whose known fact → Whose (x ∷ known) fact
  later x known fact w = record { of_item = w.of_item; stays = w.stays; among = inr w.among; found = w.found; is = w.is }

  pub whose : (known : List Item) (fact : Fact) → Has fact (facts known) → Whose known fact
  whose [] fact h = absurd h
  whose (x ∷ known) fact h = go (whose known fact) (stay x) refl h
    where
      go : (Has fact (facts known) → Whose known fact) → (o : Option Stay) → stay x ≡ o → Has fact (fact_by (make x) o ++ facts known) → Whose (x ∷ known) fact
      go ih None e h = later x known fact (ih h)
      go ih (Some s) e (inl q) = record { of_item = x; stays = s; among = inl refl; found = e; is = q }
      go ih (Some s) e (inr h) = later x known fact (ih h)

  pub has_item : (known : List Item) (x : Item) (s : Stay) → Has x known → stay x ≡ Some s → Has x (items known)
  has_item [] x s h e = absurd h
  has_item (y ∷ known) x s (inl q) e = go (stay y) (ap stay (sym q) ∙ e)
    where
      go : (o : Option Stay) → o ≡ Some s → Has x (map item (fact_by (make y) o ++ facts known))
      go None f = absurd cc
      go (Some t) f = inl (q ∙ sym (of y t))
  has_item (y ∷ known) x s (inr h) e = go (stay y) (has_item known x s h e)
    where
      go : (o : Option Stay) → Has x (items known) → Has x (map item (fact_by (make y) o ++ facts known))
      go None h = h
      go (Some t) h = inr h

  item_known : (known : List Item) (x : Item) → Has x (items known) → Has x known
  item_known [] x h = absurd h
  item_known (y ∷ known) x h = go (item_known known x) (stay y) h
    where
      go : (Has x (items known) → Has x known) → (o : Option Stay) → Has x (map item (fact_by (make y) o ++ facts known)) → Has x (y ∷ known)
      go ih None h = inr (ih h)
      go ih (Some t) (inl q) = inl (q ∙ of y t)
      go ih (Some t) (inr h) = inr (ih h)

  pub items_rise : (before : Item → Item → Bool) (known : List Item) → IsRising before known → IsRising before (items known)
  items_rise before [] r = tt
  items_rise before (y ∷ known) r = go (stay y) (items_rise before known r.1)
    where
      go : (o : Option Stay) → IsRising before (items known) → IsRising before (map item (fact_by (make y) o ++ facts known))
      go None ih = ih
      go (Some t) ih = ((λ z h. subst (λ w. before w z ≡ true) (sym (of y t)) (r.0 z (item_known known z h))), ih)

-- the facts of one more
taken_next : {X Y : Type 0} (f : X → List Y) (xs : List X) (i : ℕ) (x : X) → i < length xs → x ≡ get_or xs i x
    → flat_map f (take (suc i) xs) ≡ flat_map f (take i xs) ++ f x
taken_next f [] i x l e = absurd (omega (arith, l))
taken_next f (y ∷ xs) zero x l e = append-nil (f y) ∙ ap f (sym e)
taken_next f (y ∷ xs) (suc i) x l e =
    ap (λ z. f y ++ z) (taken_next f xs i x (omega (arith, l)) e) ∙ sym (append_assoc (f y) (flat_map f (take i xs)) (f x))

pub one_more : {Item Fact : Type 0} (make : Item → Stay → Fact) (stay : Item → Option Stay) (known : List Item) (i : ℕ) (x : Item) (old new : List Fact) (s : Option Stay)
    → i < length known → x ≡ get_or known i x → s ≡ stay x → new ≡ old ++ fact_by (make x) s
    → old ≡ flat_map (λ x. fact_by (make x) (stay x)) (take i known) → new ≡ flat_map (λ x. fact_by (make x) (stay x)) (take (i + 1) known)
one_more make stay known i x old new s l e is more before =
    more ∙ ap (λ z. z ++ fact_by (make x) s) before ∙ ap (λ z. flat_map (λ x. fact_by (make x) (stay x)) (take i known) ++ fact_by (make x) z) is
    ∙ sym (taken_next (λ x. fact_by (make x) (stay x)) known i x l e) ∙ ap (λ n. flat_map (λ x. fact_by (make x) (stay x)) (take n known)) (next i)
  where
    next : (i : ℕ) → suc i ≡ i + 1
    next i = omega arith
