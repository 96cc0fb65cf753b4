-- A forest with its labels and hops grows by an edge between two of its parts.
use Rattle.std.proofs.Common.{◌≡◌, ℕ, ◌≤◌, ◌==◌, Bool, true, false, cond, not, ◌&&◌, List, [], ◌∷◌, ◌++◌, refl, sym, ap, subst, ◌∙◌, eq-eqb, ne_eqb}
use Rattle.base_tree.specs.Graph.{has_edge, IsTrail, AreJoined}
use Rattle.base_tree.specs.Hops.{side}
use Rattle.base_tree.specs.Labels.{Labelled}
use Rattle.base.proofs.Numbers.{Same, Is, Not, compare}
use Rattle.base_tree.proofs.Joined.{IsOf, Old, Out, Back, split-edge, joined-on, joined-back, joined-more, joined-edge, has_edge-old, has_edge-new, has_edge-back}

abbrev pub In : ℕ → ℕ → Type 0
In n x = (1 ≤ x) × (x ≤ n)

trail-level : (n : ℕ) (edges : List (ℕ × ℕ)) (label : ℕ → ℕ) → Labelled n edges label → (x y : ℕ) (p : List ℕ) → IsTrail edges x p y → label x ≡ label y
trail-level n edges label good x y [] s = ap label s
trail-level n edges label good x y (z ∷ p) s = (good.ends x z s.0).2 ∙ trail-level n edges label good z y p s.1

pub level : (n : ℕ) (edges : List (ℕ × ℕ)) (label : ℕ → ℕ) → Labelled n edges label → (x y : ℕ) → AreJoined edges x y → label x ≡ label y
level n edges label good x y p = trail-level n edges label good x y p.0 p.1

-- the label after c and d are joined
abbrev pub relabel : (ℕ → ℕ) → ℕ → ℕ → ℕ → ℕ
relabel label c d x = cond (label x == label d) (label c) (label x)

module _ (n : ℕ) (edges : List (ℕ × ℕ)) (label new : ℕ → ℕ) (old : Labelled n edges label) (edge : ℕ × ℕ) (here : In n edge.0) (there : In n edge.1) (is : (x : ℕ) → In n x → new x ≡ relabel label edge.0 edge.1 x) where
  pub data Parts (x y : ℕ) : Type 0 where
    Both : label x ≡ label y → Parts x y
    Over : label x ≡ label edge.0 → label y ≡ label edge.1 → Parts x y
    Under : label x ≡ label edge.1 → label y ≡ label edge.0 → Parts x y

  taken : (x : ℕ) → In n x → label x ≡ label edge.1 → new x ≡ label edge.0
  taken x i e = is x i ∙ rw (eq-eqb (label x) (label edge.1) e) refl

  left : (x : ℕ) → In n x → (label x ≡ label edge.1 → ⊥) → new x ≡ label x
  left x i m = is x i ∙ rw (ne_eqb (label x) (label edge.1) m) refl

  -- what has one label now had one before, or lay in the two parts
  pub parts : (x y : ℕ) → In n x → In n y → new x ≡ new y → Parts x y
  parts x y i j e = go (compare (label x) (label edge.1)) (compare (label y) (label edge.1))
    where
      go : Same (label x) (label edge.1) → Same (label y) (label edge.1) → Parts x y
      go (Is p v) (Is q w) = Both (p ∙ sym q)
      go (Is p v) (Not q w) = Under p (sym (left y j q) ∙ sym e ∙ taken x i p)
      go (Not p v) (Is q w) = Over (sym (left x i p) ∙ e ∙ taken y j q) q
      go (Not p v) (Not q w) = Both (sym (left x i p) ∙ e ∙ left y j q)

  together : AreJoined (edges ++ edge ∷ []) edge.0 edge.1
  together = joined-edge (edges ++ edge ∷ []) edge.0 edge.1 (has_edge-new edges edge)

  within : (x y : ℕ) → In n x → In n y → label x ≡ label y → AreJoined (edges ++ edge ∷ []) x y
  within x y i j e = joined-more edges edge x y (old.joined x y i j e)

  across : (x y : ℕ) → In n x → In n y → label x ≡ label edge.0 → label y ≡ label edge.1 → AreJoined (edges ++ edge ∷ []) x y
  across x y i j e f = joined-on (edges ++ edge ∷ []) x edge.0 y (within x edge.0 i here e) (joined-on (edges ++ edge ∷ []) edge.0 edge.1 y together (within edge.1 y there j (sym f)))

  kept : (x y : ℕ) → In n x → In n y → label x ≡ label y → new x ≡ new y
  kept x y i j e = is x i ∙ ap (λ z. cond (z == label edge.1) (label edge.0) z) e ∙ sym (is y j)

  met : new edge.0 ≡ new edge.1
  met = go (compare (label edge.0) (label edge.1)) ∙ sym (taken edge.1 there refl)
    where
      go : Same (label edge.0) (label edge.1) → new edge.0 ≡ label edge.0
      go (Is p v) = taken edge.0 here p
      go (Not p v) = left edge.0 here p

  pub labelled : Labelled n (edges ++ edge ∷ []) new
  labelled = record { joined = joined; ends = ends }
    where
      joined : (x y : ℕ) → In n x → In n y → new x ≡ new y → AreJoined (edges ++ edge ∷ []) x y
      joined x y i j e = go (parts x y i j e)
        where
          go : Parts x y → AreJoined (edges ++ edge ∷ []) x y
          go (Both p) = within x y i j p
          go (Over p q) = across x y i j p q
          go (Under p q) = joined-back (edges ++ edge ∷ []) y x (across y x j i q p)

      ends : (x y : ℕ) → has_edge (edges ++ edge ∷ []) x y ≡ true → In n x × In n y × (new x ≡ new y)
      ends x y e = go (split-edge edges edge x y e)
        where
          go : IsOf edges edge x y → In n x × In n y × (new x ≡ new y)
          go (Old p) = let f = old.ends x y p in (f.0, f.1, kept x y f.0 f.1 f.2)
          go (Out p q) = (subst (In n) (sym p) here, subst (In n) (sym q) there, ap new p ∙ met ∙ sym (ap new q))
          go (Back p q) = (subst (In n) (sym p) there, subst (In n) (sym q) here, ap new p ∙ sym met ∙ sym (ap new q))

-- in each part of the forest, hops lead from each server to each other
pub record Hopped (n : ℕ) (edges : List (ℕ × ℕ)) (label : ℕ → ℕ) (hop : ℕ → ℕ → ℕ) : Type 0 where
  pub apart : (a : ℕ) → has_edge edges a a ≡ true → ⊥
  pub near : (b x : ℕ) → In n b → In n x → label x ≡ label b → (x ≡ b → ⊥) → has_edge edges b (hop b x) ≡ true
  pub one_side : (a b x : ℕ) → has_edge edges a b ≡ true → In n x → label x ≡ label a → side hop a b x ≡ not (side hop b a x)

-- the hop from x over the edge from c to d
abbrev pub cross : (ℕ → ℕ → ℕ) → ℕ → ℕ → ℕ → ℕ
cross hop c d x = cond (x == c) d (hop x c)

beyond : (hop : ℕ → ℕ → ℕ) (a b x : ℕ) → (x ≡ a → ⊥) → side hop a b x ≡ (hop a x == b)
beyond hop a b x m = rw (ne_eqb x a m) refl

at-end : (hop : ℕ → ℕ → ℕ) (a b x : ℕ) → x ≡ a → side hop a b x ≡ false
at-end hop a b x e = rw (eq-eqb x a e) refl

flip : (a b : Bool) → a ≡ false → b ≡ true → a ≡ not b
flip a b e f = e ∙ sym (ap not f)

flop : (a b : Bool) → a ≡ true → b ≡ false → a ≡ not b
flop a b e f = e ∙ sym (ap not f)

module _ (n : ℕ) (edges : List (ℕ × ℕ)) (label : ℕ → ℕ) (hop new : ℕ → ℕ → ℕ) (labels : Labelled n edges label) (old : Hopped n edges label hop) where
  -- from the part of c to that of d hops lead over the edge
  abbrev Leads : ℕ → ℕ → Type 0
  Leads c d = (x y : ℕ) → In n x → In n y → label x ≡ label c → label y ≡ label d → new x y ≡ cross hop c d x

  -- in one part hops stay
  abbrev Stays : Type 0
  Stays = (x y : ℕ) → In n x → In n y → label x ≡ label y → new x y ≡ hop x y

  near-over : (c d b x : ℕ) → In n c → In n d → In n b → In n x → Leads c d → label b ≡ label c → label x ≡ label d → (edge : ℕ × ℕ) → has_edge (edges ++ edge ∷ []) c d ≡ true → has_edge (edges ++ edge ∷ []) b (new b x) ≡ true
  near-over c d b x i j k l leads e f edge is = go (compare b c)
    where
      go : Same b c → has_edge (edges ++ edge ∷ []) b (new b x) ≡ true
      go (Is p v) = rw (leads b x k l e f) (rw (v, p) is)
      go (Not m v) = rw (leads b x k l e f) (rw v (has_edge-old edges edge b (hop b c) (old.near b c k i (sym e) (λ q. m (sym q)))))

  -- an old edge of c's part, seen from d's part
  side-over : (c d a b x : ℕ) → In n c → In n d → In n x → (label c ≡ label d → ⊥) → Leads c d → has_edge edges a b ≡ true → label a ≡ label c → label x ≡ label d → side new a b x ≡ not (side new b a x)
  side-over c d a b x i j k m leads is e f = go (compare a c) (compare b c)
    where
      ends : In n a × In n b × (label a ≡ label b)
      ends = labels.ends a b is

      off-a : x ≡ a → ⊥
      off-a q = m (sym e ∙ ap label (sym q) ∙ f)

      off-b : x ≡ b → ⊥
      off-b q = m (sym e ∙ ends.2 ∙ ap label (sym q) ∙ f)

      far-a : d ≡ a → ⊥
      far-a q = m (sym e ∙ ap label (sym q))

      far-b : d ≡ b → ⊥
      far-b q = m (sym e ∙ ends.2 ∙ ap label (sym q))

      from-a : side new a b x ≡ (cross hop c d a == b)
      from-a = beyond new a b x off-a ∙ ap (λ z. z == b) (leads a x ends.0 k e f)

      from-b : side new b a x ≡ (cross hop c d b == a)
      from-b = beyond new b a x off-b ∙ ap (λ z. z == a) (leads b x ends.1 k (sym ends.2 ∙ e) f)

      to-c : side hop a b c ≡ not (side hop b a c)
      to-c = old.one_side a b c is i (sym e)

      to-c-back : side hop b a c ≡ not (side hop a b c)
      to-c-back = old.one_side b a c (has_edge-back edges a b is) i (sym e ∙ ends.2)

      go : Same a c → Same b c → side new a b x ≡ not (side new b a x)
      go (Is p v) (Is q w) = absurd (old.apart a (subst (λ z. has_edge edges a z ≡ true) (q ∙ sym p) is))
      go (Is p v) (Not q w) =
          flip (side new a b x) (side new b a x) (from-a ∙ rw v (ne_eqb d b far-b)) (
          from-b ∙ rw w (sym (beyond hop b a c (λ z. q (sym z))) ∙ to-c-back ∙ ap not (at-end hop a b c (sym p)))
          )
      go (Not p v) (Is q w) =
          flop (side new a b x) (side new b a x) (
          from-a ∙ rw v (sym (beyond hop a b c (λ z. p (sym z))) ∙ to-c ∙ ap not (at-end hop b a c (sym q)))
          ) (from-b ∙ rw w (ne_eqb d a far-a))
      go (Not p v) (Not q w) =
          let a-side : side new a b x ≡ side hop a b c = from-a ∙ rw v (sym (beyond hop a b c (λ z. p (sym z)))) in
          let b-side : side new b a x ≡ side hop b a c = from-b ∙ rw w (sym (beyond hop b a c (λ z. q (sym z)))) in
          a-side ∙ to-c ∙ ap not (sym b-side)

  -- the new edge, seen from c's part
  side-new : (c d x : ℕ) → In n c → In n d → In n x → (label c ≡ label d → ⊥) → Leads d c → Stays → label x ≡ label c → (side new c d x ≡ false) × (side new d c x ≡ true)
  side-new c d x i j k m leads stays e = (go (compare x c), beyond new d c x off ∙ ap (λ z. z == c) (leads d x j k refl e ∙ rw (eq-eqb d d refl) refl) ∙ eq-eqb c c refl)
    where
      off : x ≡ d → ⊥
      off q = m (sym e ∙ ap label q)

      go : Same x c → side new c d x ≡ false
      go (Is p v) = at-end new c d x p
      go (Not p v) =
          let is : has_edge edges c (hop c x) ≡ true = old.near c x i k e p in
          beyond new c d x p ∙ ap (λ z. z == d) (stays c x i k (sym e)) ∙ ne_eqb (hop c x) d (λ q. m ((labels.ends c (hop c x) is).2 ∙ ap label q))

  stay-side : (a b x : ℕ) → In n a → In n x → Stays → label x ≡ label a → side new a b x ≡ side hop a b x
  stay-side a b x i k stays e = ap (λ z. not (x == a) && (z == b)) (stays a x i k (sym e))

  pub hopped : (edge : ℕ × ℕ) → In n edge.0 → In n edge.1 → (label edge.0 ≡ label edge.1 → ⊥) → Leads edge.0 edge.1 → Leads edge.1 edge.0 → Stays
      → (label' : ℕ → ℕ) → ((x : ℕ) → In n x → label' x ≡ relabel label edge.0 edge.1 x) → Hopped n (edges ++ edge ∷ []) label' new
  hopped edge i j m out back stays label' is = record { apart = apart; near = near; one_side = one_side }
    where
      apart : (a : ℕ) → has_edge (edges ++ edge ∷ []) a a ≡ true → ⊥
      apart a e = go (split-edge edges edge a a e)
        where
          go : IsOf edges edge a a → ⊥
          go (Old p) = old.apart a p
          go (Out p q) = m (ap label (sym p ∙ q))
          go (Back p q) = m (ap label (sym q ∙ p))

      near : (b x : ℕ) → In n b → In n x → label' x ≡ label' b → (x ≡ b → ⊥) → has_edge (edges ++ edge ∷ []) b (new b x) ≡ true
      near b x k l e o = go (parts n edges label label' labels edge i j is x b l k e)
        where
          go : Parts n edges label label' labels edge i j is x b → has_edge (edges ++ edge ∷ []) b (new b x) ≡ true
          go (Both p) = rw (stays b x k l (sym p)) (has_edge-old edges edge b (hop b x) (old.near b x k l p o))
          go (Over p q) = near-over edge.1 edge.0 b x j i k l back q p edge (has_edge-back (edges ++ edge ∷ []) edge.0 edge.1 (has_edge-new edges edge))
          go (Under p q) = near-over edge.0 edge.1 b x i j k l out q p edge (has_edge-new edges edge)

      one_side : (a b x : ℕ) → has_edge (edges ++ edge ∷ []) a b ≡ true → In n x → label' x ≡ label' a → side new a b x ≡ not (side new b a x)
      one_side a b x e k f = go (split-edge edges edge a b e)
        where
          here : In n a
          here = ((labelled n edges label label' labels edge i j is).ends a b e).0

          seen : has_edge edges a b ≡ true → Parts n edges label label' labels edge i j is x a → side new a b x ≡ not (side new b a x)
          seen p (Both q) =
              let ends = labels.ends a b p in
              stay-side a b x ends.0 k stays q ∙ old.one_side a b x p k q ∙ sym (ap not (stay-side b a x ends.1 k stays (q ∙ ends.2)))
          seen p (Over q r) = side-over edge.1 edge.0 a b x j i k (λ z. m (sym z)) back p r q
          seen p (Under q r) = side-over edge.0 edge.1 a b x i j k m out p r q

          new-out : Parts n edges label label' labels edge i j is x edge.0 → side new edge.0 edge.1 x ≡ not (side new edge.1 edge.0 x)
          new-out (Both q) = let s = side-new edge.0 edge.1 x i j k m back stays q in flip (side new edge.0 edge.1 x) (side new edge.1 edge.0 x) s.0 s.1
          new-out (Over q r) = absurd (m r)
          new-out (Under q r) = let s = side-new edge.1 edge.0 x j i k (λ z. m (sym z)) out stays q in flop (side new edge.0 edge.1 x) (side new edge.1 edge.0 x) s.1 s.0

          new-back : Parts n edges label label' labels edge i j is x edge.1 → side new edge.1 edge.0 x ≡ not (side new edge.0 edge.1 x)
          new-back (Both q) = let s = side-new edge.1 edge.0 x j i k (λ z. m (sym z)) out stays q in flip (side new edge.1 edge.0 x) (side new edge.0 edge.1 x) s.0 s.1
          new-back (Over q r) = let s = side-new edge.0 edge.1 x i j k m back stays q in flop (side new edge.1 edge.0 x) (side new edge.0 edge.1 x) s.1 s.0
          new-back (Under q r) = absurd (m (sym r))

          go : IsOf edges edge a b → side new a b x ≡ not (side new b a x)
          go (Old p) = seen p (parts n edges label label' labels edge i j is x a k here f)
          go (Out p q) = rw (p, q) (new-out (subst (λ z. Parts n edges label label' labels edge i j is x z) p (parts n edges label label' labels edge i j is x a k here f)))
          go (Back p q) = rw (p, q) (new-back (subst (λ z. Parts n edges label label' labels edge i j is x z) p (parts n edges label label' labels edge i j is x a k here f)))
