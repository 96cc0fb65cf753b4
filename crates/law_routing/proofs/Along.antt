-- Along a way: what a client's list had at the moment to look back to is covered here, and what is here comes from such a list.
use Rattle.std.proofs.Common.{◌≡◌, ℕ, zero, suc, ◌+◌, ◌≤◌, Bool, true, false, cond, not, ◌||◌, List, [], ◌∷◌, ◌⊎◌, inl, inr, length, map, refl, sym, ap, subst, ◌∙◌, arith}
use Rattle.law_machine.specs.Links.{IsLink}
use Rattle.law_machine.proofs.Links.{back-is, back-sent, back-since}
use Rattle.law_machine.specs.Machine.{Has}
use Rattle.law_machine.specs.Load.{other_sizes}
use Rattle.law_machine.specs.History.{IsHistory}
use Rattle.law_machine.proofs.History.{link, applied, is-link}
use Rattle.law_machine.proofs.Lists.{Same, Is, Not, compare}
use Rattle.base.specs.Sets.{roots, is_root}
use Rattle.base.proofs.Roots.{covered_by_root, Has-filter, filter-Has}
use Rattle.base_tree.specs.Hops.{side_size}
use Rattle.law_routing.specs.Theory.{Theory, TheoryLaws}
use Rattle.law_routing.specs.Net.{Net, NetLaws}
use Rattle.law_routing.specs.Server.{ServerState, union_except, interfaces, needed, sent, sent_adverts}
use Rattle.law_routing.specs.Clients.{some_pass}
use Rattle.law_routing.specs.Routing.{routing_machine, Network, NetEntry}
use Rattle.law_routing.specs.Tree.{IsTreeBySizes, StrictOrders}
use Rattle.law_routing.specs.Contents.{filter_content, advert_content}
use Rattle.law_routing.specs.Rest.{filters_of, adverts_of, IsOnwardWay, end_of, IsAtRest}
use Rattle.law_routing.specs.AsOf.{back, as_of, IsAdvertisedAlong}
use Rattle.law_routing.proofs.Sizes.{sides-tree}
use Rattle.law_routing.proofs.Spreading.{one}
use Rattle.law_routing.proofs.Contents.{subs-laws, advs-laws}
use Rattle.law_routing.proofs.Listing.{pass-by}
use Rattle.law_routing.proofs.Gathered.{has-gather, gather-has}
use Rattle.law_routing.proofs.Listed.{filters-are, adverts-are}
use Rattle.base.proofs.Sets.{has-append-left, has-append-right, map-has, has-append, has-map}

pub part-weight : (size : ℕ → ℕ) (but b : ℕ) (bs : List ℕ) → Has b bs → (b ≡ but → ⊥) → size b ≤ other_sizes size but bs
part-weight size but b [] h n = absurd h
part-weight size but b (x ∷ bs) h n = go (compare x but) h (λ k. part-weight size but b bs k n)
  where
    go : Same x but → Has b (x ∷ bs) → (Has b bs → size b ≤ other_sizes size but bs) → size b ≤ other_sizes size but (x ∷ bs)
    go (Is q v) (inl p) ih = absurd (n (p ∙ q))
    go (Is q v) (inr k) ih = rw v (omega (arith, ih k))
    go (Not z v) (inl p) ih = rw v (omega (arith, ap size p))
    go (Not z v) (inr k) ih = rw v (omega (arith, ih k))

pub strict-of : (th : Theory) → TheoryLaws th → StrictOrders th
strict-of th laws = record { filters = laws.filters.irreflexive; adverts = laws.adverts.irreflexive }

module _ (th : Theory) (laws : TheoryLaws th) (net : Net th) (good : NetLaws th net) where
  pub strict : StrictOrders th
  strict = strict-of th laws

  pub tree : IsTreeBySizes net.servers net.links (side_size net.hop net.servers)
  tree = sides-tree net.servers net.links net.hop good.tree

  -- a filter that matches is sent on where an advertisement lets it through
  is-wanted : (n : th.Notice) (f : th.Filter) (ads : List th.Advert) → th.matches n f ≡ true → (net.adverts ≡ true → (a : th.Advert) × Has a ads × (th.allows a n ≡ true)) → not net.adverts || some_pass (th.overlaps f) ads ≡ true
  is-wanted n f ads hit fed = go net.adverts refl
    where
      go : (b : Bool) → net.adverts ≡ b → not b || some_pass (th.overlaps f) ads ≡ true
      go true e = let a = fed e in pass-by (th.overlaps f) a.0 ads a.1 (laws.meet n f a.0 hit a.2)
      go false e = refl

  root-over : (s : ServerState th) (u t i : ℕ) (f : th.Filter) → Has i (interfaces th net u) → (i ≡ t → ⊥) → Has f (s.subs i) → not net.adverts || some_pass (th.overlaps f) (s.advs t) ≡ true → (r : th.Filter) × Has r (sent th net s u t) × (th.covers r f ≡ true)
  root-over s u t i f h n m e = covered_by_root laws.filters (needed th net s u t) f (Has-filter (λ f. not net.adverts || some_pass (th.overlaps f) (s.advs t)) f (union_except th.before s.subs t (interfaces th net u)) (has-gather laws.filters s.subs t i f (interfaces th net u) h n m) e)

  advert-over : (s : ServerState th) (u t i : ℕ) (a : th.Advert) → net.adverts ≡ true → Has i (interfaces th net u) → (i ≡ t → ⊥) → Has a (s.advs i) → (r : th.Advert) × Has r (sent_adverts th net s u t) × (th.covers_advert r a ≡ true)
  advert-over s u t i a o h n m =
      let r = covered_by_root laws.adverts (union_except th.before_advert s.advs t (interfaces th net u)) a (has-gather laws.adverts s.advs t i a (interfaces th net u) h n m) in
      (r.0, subst (λ z. Has r.0 (cond z (roots th.covers_advert th.before_advert (union_except th.before_advert s.advs t (interfaces th net u))) [])) (sym o) r.1, r.2)

  port-of : (u c : ℕ) → Has c (net.clients u) → Has (64 + c) (interfaces th net u)
  port-of u c lives = has-append-right (64 + c) (net.links u) (map (λ c. 64 + c) (net.clients u)) (map-has (λ c. 64 + c) (net.clients u) c lives)

  link-port : (u x : ℕ) → Has x (net.links u) → Has x (interfaces th net u)
  link-port u x near = has-append-left x (net.links u) (map (λ c. 64 + c) (net.clients u)) near

  not-link : (t u c : ℕ) → Has t (net.links u) → Has c (net.clients u) → 64 + c ≡ t → ⊥
  not-link t u c near lives q = let low : t ≤ 64 = good.small u t near in let one : 1 ≤ c = good.counted u c lives in omega (arith, q)

  module _ (J : List (NetEntry th net)) (h : ℕ → Network th net) (ph : ℕ → ℕ) (history : IsHistory (routing_machine th net) J h ph) (rest : IsAtRest th net (h 0)) where
    abbrev Linked : ℕ → ℕ → Type 0
    Linked u t = Has t (net.links u)

    pub filters-link : (u t : ℕ) (near : Linked u t)
        → IsLink (applied (routing_machine th net) (filter_content th net) (subs-laws th laws net good strict) (one th strict net) good.tree.apart good.tree.both J h ph history u t near)
        (link (routing_machine th net) (filter_content th net) (subs-laws th laws net good strict) (one th strict net) good.tree.apart good.tree.both J h ph history u t near)
    filters-link u t near = is-link (routing_machine th net) (filter_content th net) (subs-laws th laws net good strict) (one th strict net) good.tree.apart good.tree.both J h ph history u t near (rest.empty u t) (rest.subs u t near)

    pub adverts-link : (u t : ℕ) (near : Linked u t)
        → IsLink (applied (routing_machine th net) (advert_content th net) (advs-laws th laws net good strict) (one th strict net) good.tree.apart good.tree.both J h ph history u t near)
        (link (routing_machine th net) (advert_content th net) (advs-laws th laws net good strict) (one th strict net) good.tree.apart good.tree.both J h ph history u t near)
    adverts-link u t near = is-link (routing_machine th net) (advert_content th net) (advs-laws th laws net good strict) (one th strict net) good.tree.apart good.tree.both J h ph history u t near (rest.empty u t) (rest.advs u t near)

    -- what t holds of u is what u sent at the moment to look back to
    pub filters-back : (u t m : ℕ) → Linked u t → ((h m).state t).subs u ≡ sent th net ((h (back th net h t u m)).state u) u t
    filters-back u t m near = back-sent (applied (routing_machine th net) (filter_content th net) (subs-laws th laws net good strict) (one th strict net) good.tree.apart good.tree.both J h ph history u t near) (link (routing_machine th net) (filter_content th net) (subs-laws th laws net good strict) (one th strict net) good.tree.apart good.tree.both J h ph history u t near) (filters-link u t near) m

    pub adverts-back : (u t m : ℕ) → Linked u t → ((h m).state t).advs u ≡ sent_adverts th net ((h (back th net h t u m)).state u) u t
    adverts-back u t m near = back-sent (applied (routing_machine th net) (advert_content th net) (advs-laws th laws net good strict) (one th strict net) good.tree.apart good.tree.both J h ph history u t near) (link (routing_machine th net) (advert_content th net) (advs-laws th laws net good strict) (one th strict net) good.tree.apart good.tree.both J h ph history u t near) (adverts-link u t near) m

    pub back-low : (u t m : ℕ) → Linked u t → back th net h t u m ≤ m
    back-low u t m near = (back-is (applied (routing_machine th net) (filter_content th net) (subs-laws th laws net good strict) (one th strict net) good.tree.apart good.tree.both J h ph history u t near) (link (routing_machine th net) (filter_content th net) (subs-laws th laws net good strict) (one th strict net) good.tree.apart good.tree.both J h ph history u t near) (filters-link u t near) m).0

    pub back-not-before : (u t b m : ℕ) → Linked u t → (h b).taken u t ≡ length ((h b).put u t) → b ≤ m → b ≤ back th net h t u m
    back-not-before u t b m near e l = back-since (applied (routing_machine th net) (filter_content th net) (subs-laws th laws net good strict) (one th strict net) good.tree.apart good.tree.both J h ph history u t near) (link (routing_machine th net) (filter_content th net) (subs-laws th laws net good strict) (one th strict net) good.tree.apart good.tree.both J h ph history u t near) (filters-link u t near) b m e l

    -- an advertisement of q at the end of a way is covered by one that is held here
    pub advert-along : net.adverts ≡ true → (prior t u : ℕ) (path : List ℕ) (m q : ℕ) (a : th.Advert) → IsOnwardWay th net prior t (u ∷ path) → Has q (net.clients (end_of th net u path)) → Has a (adverts_of th net (h (as_of th net h t (u ∷ path) m)) q)
        → (b : th.Advert) × Has b (((h m).state t).advs u) × (th.covers_advert b a ≡ true)
    advert-along o prior t u [] m q a way lives has =
        let near : Linked u t = good.tree.both t u way.0 in
        let x = back th net h t u m in
        let r = advert-over ((h x).state u) u t (64 + q) a o (port-of u q lives) (not-link t u q near lives) (subst (Has a) (sym (adverts-are th net good J h ph history rest x u q lives o)) has) in
        (r.0, subst (Has r.0) (sym (adverts-back u t m near)) r.1, r.2)
    advert-along o prior t u (v ∷ path) m q a way lives has =
        let near : Linked u t = good.tree.both t u way.0 in
        let x = back th net h t u m in
        let ih = advert-along o t u v path x q a way.2 lives has in
        let r = advert-over ((h x).state u) u t v ih.0 o (link-port u v way.2.0) way.2.1 ih.1 in
        (r.0, subst (Has r.0) (sym (adverts-back u t m near)) r.1, laws.adverts.transitive r.0 ih.0 a r.2 ih.2)

    -- the advertisements that t knows of on the way back let a filter of u through
    fed : (q : ℕ) (n : th.Notice) (behind : List ℕ) (t u x : ℕ) → Has t (net.links u) → (net.adverts ≡ true → IsOnwardWay th net u t behind × Has q (net.clients (end_of th net t behind))) → (net.adverts ≡ true → (a : th.Advert) × Has a (adverts_of th net (h (as_of th net h u (t ∷ behind) x)) q) × (th.allows a n ≡ true))
        → net.adverts ≡ true → (a : th.Advert) × Has a (((h x).state u).advs t) × (th.allows a n ≡ true)
    fed q n behind t u x near from knows o =
        let a = knows o in
        let b = advert-along o (suc t) u t behind x q a.0 (near, (λ e. omega (arith, e)), (from o).0) (from o).1 a.1 in
        (b.0, b.1, laws.sound_advert n b.0 a.0 b.2 a.2)

    -- a filter of c at the end of a way represents one here that the notice matches
    pub filter-along : (q : ℕ) (behind : List ℕ) (prior t u : ℕ) (path : List ℕ) (m c : ℕ) (f : th.Filter) (n : th.Notice) → IsOnwardWay th net prior t (u ∷ path) → (net.adverts ≡ true → IsOnwardWay th net u t behind × Has q (net.clients (end_of th net t behind))) → Has c (net.clients (end_of th net u path))
        → Has f (filters_of th net (h (as_of th net h t (u ∷ path) m)) c) → th.matches n f ≡ true → IsAdvertisedAlong th net h q n behind t (u ∷ path) m → (r : th.Filter) × Has r (((h m).state t).subs u) × (th.matches n r ≡ true)
    filter-along q behind prior t u [] m c f n way from lives has hit knows =
        let near : Linked u t = good.tree.both t u way.0 in
        let x = back th net h t u m in
        let r = root-over ((h x).state u) u t (64 + c) f (port-of u c lives) (not-link t u c near lives) (subst (Has f) (sym (filters-are th net good J h ph history rest x u c lives)) has) (is-wanted n f (((h x).state u).advs t) hit (fed q n behind t u x near from knows.0)) in
        (r.0, subst (Has r.0) (sym (filters-back u t m near)) r.1, laws.sound n r.0 f r.2 hit)
    filter-along q behind prior t u (v ∷ path) m c f n way from lives has hit knows =
        let near : Linked u t = good.tree.both t u way.0 in
        let x = back th net h t u m in
        let ih = filter-along q (t ∷ behind) t u v path x c f n way.2 (λ o. ((near, (λ e. way.2.1 (sym e)), (from o).0), (from o).1)) lives has hit knows.1 in
        let r = root-over ((h x).state u) u t v ih.0 (link-port u v way.2.0) way.2.1 ih.1 (is-wanted n ih.0 (((h x).state u).advs t) ih.2 (fed q n behind t u x near from knows.0)) in
        (r.0, subst (Has r.0) (sym (filters-back u t m near)) r.1, laws.sound n r.0 ih.0 r.2 ih.2)

    -- a filter held here of a neighbour stands in the list of some client beyond
    pub record Beyond (t u m : ℕ) (g : th.Filter) : Type 0 where
      pub path : List ℕ
      pub client : ℕ
      pub way : IsOnwardWay th net t u path
      pub lives : Has client (net.clients (end_of th net u path))
      pub listed : Has g (filters_of th net (h (as_of th net h t (u ∷ path) m)) client)

    pub comes-from : (n t u m : ℕ) (g : th.Filter) → Has u (net.links t) → side_size net.hop net.servers t u ≤ n → Has g (((h m).state t).subs u) → Beyond t u m g
    comes-from zero t u m g near le has = absurd (omega (arith, tree.weighs t u near))
    comes-from (suc n) t u m g near le has =
        let near' : Linked u t = good.tree.both t u near in
        let x = back th net h t u m in
        let s = (h x).state u in
        let g' = filter-Has (is_root th.covers th.before (needed th net s u t)) g (needed th net s u t) (subst (Has g) (filters-back u t m near') has) in
        let g'' = filter-Has (λ f. not net.adverts || some_pass (th.overlaps f) (s.advs t)) g (union_except th.before s.subs t (interfaces th net u)) g'.0 in
        let i = gather-has laws.filters s.subs t g (interfaces th net u) g''.0 in
        go i.0 i.2 i.3 (has-append i.0 (net.links u) (map (λ c. 64 + c) (net.clients u)) i.1) (λ v a b c. comes-from n u v x g a b c)
      where
        go : (i : ℕ) → (i ≡ t → ⊥) → Has g (((h (back th net h t u m)).state u).subs i) → Has i (net.links u) ⊎ Has i (map (λ c. 64 + c) (net.clients u))
            → ((v : ℕ) → Has v (net.links u) → side_size net.hop net.servers u v ≤ n → Has g (((h (back th net h t u m)).state u).subs v) → Beyond u v (back th net h t u m) g) → Beyond t u m g
        go i ne f (inl l) ih =
            let small : side_size net.hop net.servers u i ≤ n = omega (arith, le, tree.weighs t u near, part-weight (side_size net.hop net.servers u) t i (net.links u) l ne) in
            let r = ih i l small f in record { path = i ∷ r.path; client = r.client; way = (l, ne, r.way); lives = r.lives; listed = r.listed }
        go i ne f (inr k) ih =
            let c = has-map (λ c. 64 + c) (net.clients u) i k in
            record { path = []; client = c.0; way = tt; lives = c.1; listed = subst (Has g) (filters-are th net good J h ph history rest (back th net h t u m) u c.0 c.1) (subst (λ z. Has g (((h (back th net h t u m)).state u).subs z)) c.2 f) }
