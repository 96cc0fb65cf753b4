-- At rest, without advertisements, a server holds of a neighbour the roots of all that the clients beyond subscribe to.
use Rattle.std.proofs.Common.{◌≡◌, ℕ, zero, suc, ◌+◌, ◌≤◌, ◌<◌, ◌==◌, Bool, true, false, cond, not, ◌&&◌, ◌||◌, List, [], ◌∷◌, ◌⊎◌, inl, inr, filter, map, refl, sym, ap, subst, ◌∙◌, arith, ne_eqb, eq-eqb}
use Rattle.std.specs.List.{flat_map}
use Rattle.base.specs.Sets.{Has, same_list, minus, roots, set_of}
use Rattle.base.proofs.Lists.{filter-true}
use Rattle.base.proofs.Numbers.{Same, Is, Not, compare}
use Rattle.base.proofs.Roots.{Has-filter, filter-Has, roots-iff, covered_by_root}
use Rattle.base.proofs.Sets.{same_list-self, has-flat_map, flat_map-has, ext, rising-roots, rising-set_of, has-set_of, has-append, has-append-left, has-append-right, has-map, map-has}
use Rattle.base_tree.specs.Hops.{side, side_size}
use Rattle.law_routing.specs.Theory.{Theory, TheoryLaws}
use Rattle.law_routing.specs.Net.{Net, NetLaws}
use Rattle.law_routing.specs.Clients.{some_pass}
use Rattle.law_routing.specs.Server.{Message, Subs, Advs, ServerState, union_except, interfaces, sent, sent_adverts, filter_change, advert_change, messages_to}
use Rattle.law_routing.specs.Routing.{Network}
use Rattle.law_routing.specs.Rest.{filters_of, IsAtRest}
use Rattle.law_routing.specs.Beyond.{clients_beyond, filters_beyond}
use Rattle.law_routing.proofs.Along.{tree, part-weight}
use Rattle.law_routing.proofs.Contents.{rising-gather}
use Rattle.law_routing.proofs.Gathered.{has-gather, gather-has}

module _ (th : Theory) (laws : TheoryLaws th) (net : Net th) (good : NetLaws th net) (plain : net.adverts ≡ false) (w : Network th net) (rest : IsAtRest th net w) where
  -- a client beyond has the filter
  record IsListedBeyond (t u : ℕ) (f : th.Filter) : Type 0 where
    server : ℕ
    among : Has server net.servers
    beyond : side net.hop t u server ≡ true
    client : ℕ
    lives : Has client (net.clients server)
    listed : Has f (filters_of th net w client)

  listed-beyond : (t u : ℕ) (f : th.Filter) → Has f (filters_beyond th net w t u) → IsListedBeyond t u f
  listed-beyond t u f h =
      let a = has-flat_map (filters_of th net w) (clients_beyond th net t u) f ((has-set_of laws.filters f (flat_map (filters_of th net w) (clients_beyond th net t u))).0 h) in
      let b = has-flat_map net.clients (filter (side net.hop t u) net.servers) a.0 a.1 in
      let c = filter-Has (side net.hop t u) b.0 net.servers b.1 in
      record { server = b.0; among = c.0; beyond = c.1; client = a.0; lives = b.2; listed = a.2 }

  beyond-listed : (t u : ℕ) (f : th.Filter) → IsListedBeyond t u f → Has f (filters_beyond th net w t u)
  beyond-listed t u f l =
      (has-set_of laws.filters f (flat_map (filters_of th net w) (clients_beyond th net t u))).1
      (flat_map-has (filters_of th net w) (clients_beyond th net t u) l.client f
      (flat_map-has net.clients (filter (side net.hop t u) net.servers) l.server l.client (Has-filter (side net.hop t u) l.server net.servers l.among l.beyond) l.lives)
      l.listed)

  -- the neighbour itself lies beyond the link to it
  at-once : (t u : ℕ) → Has u (net.links t) → side net.hop t u u ≡ true
  at-once t u near = good.tree.one_side t u u near (good.tree.linked u t (good.tree.both t u near)) ∙ rw (eq-eqb u u refl) refl

  -- what lies beyond a further neighbour lies beyond the nearer one
  further : (t u v x : ℕ) → Has u (net.links t) → (v ≡ t → ⊥) → Has x net.servers → side net.hop u v x ≡ true → side net.hop t u x ≡ true
  further t u v x near off here e = good.tree.one_side t u x near here ∙ ap not (go (compare x u) (compare (net.hop u x) v))
    where
      go : Same x u → Same (net.hop u x) v → side net.hop u t x ≡ false
      go (Is p q) y = rw (eq-eqb x u p) refl
      go (Not n q) (Is p q') = rw (ne_eqb x u n, ne_eqb (net.hop u x) t (λ z. off (sym p ∙ z))) refl
      go (Not n q) (Not m q') = absurd (grind (arith, e, ne_eqb x u n, ne_eqb (net.hop u x) v m))

  -- and what lies beyond is the neighbour or lies beyond a further one
  Parted : ℕ → ℕ → ℕ → Type 0
  Parted t u x = (x ≡ u) ⊎ ((v : ℕ) × Has v (net.links u) × (v ≡ t → ⊥) × (side net.hop u v x ≡ true))

  parted : (t u x : ℕ) → Has u (net.links t) → Has x net.servers → side net.hop t u x ≡ true → Parted t u x
  unfolding Parted
  parted t u x near here e = go (compare x u)
    where
      back : side net.hop u t x ≡ false
      back = (let q = good.tree.one_side t u x near here in grind (arith, q, e))

      go : Same x u → (x ≡ u) ⊎ ((v : ℕ) × Has v (net.links u) × (v ≡ t → ⊥) × (side net.hop u v x ≡ true))
      go (Is p q) = inl p
      go (Not n q) = inr (net.hop u x, good.tree.near u x (good.tree.linked u t (good.tree.both t u near)) here n, not-back, on)
        where
          on : side net.hop u (net.hop u x) x ≡ true
          on = rw (ne_eqb x u n, eq-eqb (net.hop u x) (net.hop u x) refl) refl

          not-back : net.hop u x ≡ t → ⊥
          not-back q = grind (arith, back, ne_eqb x u n, eq-eqb (net.hop u x) t q)

  -- all that a server holds but from one neighbour
  abbrev gathered : ℕ → ℕ → List th.Filter
  gathered t u = union_except th.before (w.state u).subs t (interfaces th net u)

  -- what is sent is the roots of that
  sent-roots : (t u : ℕ) → Has u (net.links t) → (w.state t).subs u ≡ roots th.covers th.before (gathered t u)
  sent-roots t u near =
      rest.subs u t (good.tree.both t u near)
      ∙ ap (λ (b : Bool). roots th.covers th.before (filter (λ f. not b || some_pass (th.overlaps f) ((w.state u).advs t)) (gathered t u))) plain
      ∙ ap (roots th.covers th.before) (filter-true (gathered t u))

  abbrev all-beyond : ℕ → ℕ → List th.Filter
  all-beyond t u = filters_beyond th net w t u

  -- no filter of a list keeps one from being a root
  abbrev IsTop : List th.Filter → th.Filter → Type 0
  IsTop all f = (g : th.Filter) → Has g all → th.covers g f ≡ true → (th.covers f g ≡ true) × (th.before g f ≡ false)

  -- a root of a list that covers one of its members yields to another filter only where the member does
  yields-too : (r g f : th.Filter) → th.covers r g ≡ true → th.covers g f ≡ true → (th.covers f r ≡ true) × (th.before r f ≡ false)
      → ((th.covers g r ≡ true) → (th.covers r g ≡ true) × (th.before g r ≡ false)) → (th.covers f g ≡ true) × (th.before g f ≡ false)
  yields-too r g f down cov (back, later) root = (laws.filters.transitive f r g back down, go (th.before f r) refl)
    where
      apart : th.before g r ≡ false
      apart = (root (laws.filters.transitive g f r cov back)).1

      go : (b : Bool) → th.before f r ≡ b → th.before g f ≡ false
      go true e = grind (arith, e, apart, laws.filters.chain g f r)
      go false e = subst (λ x. th.before g x ≡ false) (laws.filters.total r f later e) apart

  module _ (t u : ℕ) (near : Has u (net.links t)) (further-held : (v : ℕ) → Has v (net.links u) → (v ≡ t → ⊥) → (w.state u).subs v ≡ roots th.covers th.before (all-beyond u v)) where
    -- a client's interface is none of the neighbours
    no-link : (c : ℕ) → Has c (net.clients u) → 64 + c ≡ t → ⊥
    no-link c lives e = omega (arith, e, good.counted u c lives, good.small u t (good.tree.both t u near))

    of-client : (c : ℕ) (f : th.Filter) → Has c (net.clients u) → Has f (filters_of th net w c) → Has f (gathered t u)
    of-client c f lives h =
        has-gather laws.filters (w.state u).subs t (64 + c) f (interfaces th net u)
        (has-append-right (64 + c) (net.links u) (map (λ z. 64 + z) (net.clients u)) (map-has (λ z. 64 + z) (net.clients u) c lives))
        (no-link c lives)
        (subst (λ (z : List th.Filter). Has f z) (sym (rest.filters u c lives)) h)

    of-link : (v : ℕ) (f : th.Filter) → Has v (net.links u) → (v ≡ t → ⊥) → Has f (roots th.covers th.before (all-beyond u v)) → Has f (gathered t u)
    of-link v f on off h =
        has-gather laws.filters (w.state u).subs t v f (interfaces th net u)
        (has-append-left v (net.links u) (map (λ z. 64 + z) (net.clients u)) on)
        off
        (subst (λ (z : List th.Filter). Has f z) (sym (further-held v on off)) h)

    -- what lies beyond a further neighbour lies beyond this one
    wider : (v : ℕ) (f : th.Filter) → (v ≡ t → ⊥) → Has f (all-beyond u v) → Has f (all-beyond t u)
    wider v f off h =
        let l = listed-beyond u v f h in
        beyond-listed t u f (record { server = l.server; among = l.among; beyond = further t u v l.server near off l.among l.beyond; client = l.client; lives = l.lives; listed = l.listed })

    own : (c : ℕ) (f : th.Filter) → Has c (net.clients u) → Has f (filters_of th net w c) → Has f (all-beyond t u)
    own c f lives h =
        beyond-listed t u f (record { server = u; among = good.tree.linked u t (good.tree.both t u near); beyond = at-once t u near; client = c; lives = lives; listed = h })

    -- all that is gathered lies beyond
    inside : (f : th.Filter) → Has f (gathered t u) → Has f (all-beyond t u)
    inside f h =
        let g = gather-has laws.filters (w.state u).subs t f (interfaces th net u) h in
        elim (has-append g.0 (net.links u) (map (λ z. 64 + z) (net.clients u)) g.1) [
          | inl on ↦ wider g.0 f g.2 ((roots-iff th.covers th.before (all-beyond u g.0) f).0 (subst (λ (z : List th.Filter). Has f z) (further-held g.0 on g.2) g.3)).0
          | inr at ↦ client g.0 g.3 (has-map (λ z. 64 + z) (net.clients u) g.0 at)
        ]
      where
        client : (i : ℕ) → Has f ((w.state u).subs i) → ((c : ℕ) × Has c (net.clients u) × (i ≡ 64 + c)) → Has f (all-beyond t u)
        client i m (c, lives, e) = own c f lives (subst (λ (z : List th.Filter). Has f z) (rest.filters u c lives) (subst (λ z. Has f ((w.state u).subs z)) e m))

    -- what lies beyond is gathered, or lies beyond a further neighbour
    Found : th.Filter → Type 0
    Found f = Has f (gathered t u) ⊎ ((v : ℕ) × Has v (net.links u) × (v ≡ t → ⊥) × Has f (all-beyond u v))

    found : (f : th.Filter) → Has f (all-beyond t u) → Found f
    unfolding Found Parted
    found f h = go (listed-beyond t u f h)
      where
        go : IsListedBeyond t u f → Has f (gathered t u) ⊎ ((v : ℕ) × Has v (net.links u) × (v ≡ t → ⊥) × Has f (all-beyond u v))
        go l = elim (parted t u l.server near l.among l.beyond) [
          | inl here ↦ inl (of-client l.client f (subst (λ z. Has l.client (net.clients z)) here l.lives) l.listed)
          | inr on ↦ inr (on.0, on.1, on.2, beyond-listed u on.0 f (record { server = l.server; among = l.among; beyond = on.3; client = l.client; lives = l.lives; listed = l.listed }))
        ]

    to : (f : th.Filter) → Has f (roots th.covers th.before (gathered t u)) → Has f (roots th.covers th.before (all-beyond t u))
    unfolding Found
    to f h = (roots-iff th.covers th.before (all-beyond t u) f).1 (inside f r.0, each)
      where
        r : Has f (gathered t u) × IsTop (gathered t u) f
        r = (roots-iff th.covers th.before (gathered t u) f).0 h

        each : IsTop (all-beyond t u) f
        each g m cov = elim (found g m) [
          | inl has ↦ r.1 g has cov
          | inr on ↦ (
              let top = covered_by_root laws.filters (all-beyond u on.0) g on.3 in
              let held = of-link on.0 top.0 on.1 on.2 top.1 in
              let over = laws.filters.transitive top.0 g f top.2 cov in
              yields-too top.0 g f top.2 cov (r.1 top.0 held over) (((roots-iff th.covers th.before (all-beyond u on.0) top.0).0 top.1).1 g on.3)
              )
        ]

    from : (f : th.Filter) → Has f (roots th.covers th.before (all-beyond t u)) → Has f (roots th.covers th.before (gathered t u))
    unfolding Found
    from f h = (roots-iff th.covers th.before (gathered t u) f).1 (here, λ g m. r.1 g (inside g m))
      where
        r : Has f (all-beyond t u) × IsTop (all-beyond t u) f
        r = (roots-iff th.covers th.before (all-beyond t u) f).0 h

        here : Has f (gathered t u)
        here = elim (found f r.0) [
          | inl has ↦ has
          | inr on ↦ of-link on.0 f on.1 on.2 ((roots-iff th.covers th.before (all-beyond u on.0) f).1 (on.3, λ g m. r.1 g (wider on.0 g on.2 m)))
        ]

    one : (w.state t).subs u ≡ roots th.covers th.before (all-beyond t u)
    one =
        sent-roots t u near
        ∙ ext laws.filters (roots th.covers th.before (gathered t u)) (roots th.covers th.before (all-beyond t u))
        (rising-roots laws.filters (gathered t u) (rising-gather th laws net good (w.state u).subs t (interfaces th net u)))
        (rising-roots laws.filters (all-beyond t u) (rising-set_of laws.filters (flat_map (filters_of th net w) (clients_beyond th net t u))))
        to from

  within : (n t u : ℕ) → Has u (net.links t) → side_size net.hop net.servers t u ≤ n → (w.state t).subs u ≡ roots th.covers th.before (all-beyond t u)
  within zero t u near l = absurd (omega (arith, l, (tree th laws net good).weighs t u near))
  within (suc n) t u near l =
      one t u near
      (λ v on off. within n u v on (omega (arith, l, (tree th laws net good).weighs t u near, part-weight (side_size net.hop net.servers u) t v (net.links u) on off)))

  pub held-roots : (t u : ℕ) → Has u (net.links t) → (w.state t).subs u ≡ roots th.covers th.before (all-beyond t u)
  held-roots t u near = within (side_size net.hop net.servers t u) t u near (omega arith)

-- a change of filters on a link is the difference of two sets that differ
module _ (th : Theory) (laws : TheoryLaws th) (net : Net th) (old new : ServerState th) (server link : ℕ) (out add : List th.Filter) where
  abbrev sent-old : List th.Filter
  sent-old = sent th net old server link

  abbrev sent-new : List th.Filter
  sent-new = sent th net new server link

  abbrev IsChanged : Type 0
  IsChanged = (sent-old ≡ sent-new → ⊥) × (out ≡ minus th.before sent-old sent-new) × (add ≡ minus th.before sent-new sent-old)

  in-filters : (b : Bool) → same_list th.before sent-old sent-new ≡ b
      → Has {T = Message th} (Subs out add) (cond b [] (Subs (minus th.before sent-old sent-new) (minus th.before sent-new sent-old) ∷ [])) → IsChanged
  in-filters true e h = absurd h
  in-filters false e (inl q) = ((λ same. differ (subst (λ z. same_list th.before sent-old z ≡ false) (sym same) e)), outs q, adds q)
    where
      differ : same_list th.before sent-old sent-old ≡ false → ⊥
      differ f = grind (arith, f, same_list-self laws.filters sent-old)

      outs : ◌≡◌ {A = Message th} (Subs out add) (Subs (minus th.before sent-old sent-new) (minus th.before sent-new sent-old)) → out ≡ minus th.before sent-old sent-new
      outs e = cc

      adds : ◌≡◌ {A = Message th} (Subs out add) (Subs (minus th.before sent-old sent-new) (minus th.before sent-new sent-old)) → add ≡ minus th.before sent-new sent-old
      adds e = cc
  in-filters false e (inr h) = absurd h

  in-adverts : (b : Bool) (xs ys : List th.Advert) → Has {T = Message th} (Subs out add) (cond b [] (Advs xs ys ∷ [])) → ⊥
  in-adverts true xs ys h = absurd h
  in-adverts false xs ys (inl q) = absurd cc
  in-adverts false xs ys (inr h) = absurd h

  pub changed-only : Has (Subs out add) (messages_to th net old new server link) → IsChanged
  changed-only h =
      elim (has-append (Subs out add) (filter_change th net sent-old sent-new) (advert_change th net (sent_adverts th net old server link) (sent_adverts th net new server link)) h) [
        | inl a ↦ in-filters (same_list th.before sent-old sent-new) refl a
        | inr b ↦ absurd (in-adverts (same_list th.before_advert (sent_adverts th net old server link) (sent_adverts th net new server link))
            (minus th.before_advert (sent_adverts th net old server link) (sent_adverts th net new server link))
            (minus th.before_advert (sent_adverts th net new server link) (sent_adverts th net old server link)) b)
      ]
