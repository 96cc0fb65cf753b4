-- The equations of a state at rest have one solution over a tree.
use Rattle.std.proofs.Common.{◌≡◌, ℕ, zero, suc, ◌≤◌, ◌<◌, ◌==◌, Bool, true, false, cond, not, ◌||◌, List, [], ◌∷◌, inl, inr, filter, length, refl, sym, ap, ◌∙◌, arith, ne_eqb}
use Rattle.law_machine.specs.Machine.{Has}
use Rattle.law_machine.proofs.Lists.{Same, Is, Not, compare}
use Rattle.law_machine.proofs.Bound.{sum-has}
use Rattle.base.specs.Sets.{roots, union}
use Rattle.law_routing.specs.Theory.{Theory}
use Rattle.law_routing.specs.Net.{Net}
use Rattle.law_routing.specs.Server.{ServerState, is_among, union_except, interfaces}
use Rattle.law_routing.specs.Clients.{some_pass}
use Rattle.law_routing.specs.Tree.{IsTreeBySizes}
use Rattle.law_routing.specs.Flow.{IsLocal, Solves, flowing, holds, make_ad, make_sub, flow_ad, flow, AgreesOnLinks, relinked}
use Rattle.law_routing.proofs.Laws.{one-has}
use Rattle.law_routing.proofs.Listing.{has-one}
use Rattle.std.proofs.Math.Path.{fun_ext}

module _ (servers : List ℕ) (links : ℕ → List ℕ) (size : ℕ → ℕ → ℕ) (tree : IsTreeBySizes servers links size) where
  -- fewer servers stand beyond
  beyond : (t u v : ℕ) → Has u (links t) → Has v (links u) → (v ≡ t → ⊥) → size u v < size t u
  beyond t u v near on off = omega (arith, tree.weighs t u near, ap (λ z. cond z 0 (size u v)) (ne_eqb v t off), sum-has (λ b. cond (b == t) 0 (size u b)) (links u) v on)

  size-within : (t u : ℕ) → Has u (links t) → size t u ≤ length servers
  size-within t u near = omega (arith, tree.total t (tree.linked t u near), sum-has (size t) (links t) u near)

  module _ {A : Type 0} (make : ℕ → ℕ → (ℕ → A) → A) (local : IsLocal links make) where
    pub unique : (x y : ℕ → ℕ → A) → Solves links make x → Solves links make y → (n t u : ℕ) → Has u (links t) → size t u ≤ n → x t u ≡ y t u
    unique x y p q zero t u near l = absurd (omega (arith, tree.weighs t u near))
    unique x y p q (suc n) t u near l = p t u near ∙ local t u (x u) (y u) (λ v on off. unique x y p q n u v on (omega (arith, l, beyond t u v near on off))) ∙ sym (q t u near)

    stable : (start : A) (n t u : ℕ) → Has u (links t) → size t u ≤ n → flowing make start n t u ≡ flowing make start (suc n) t u
    stable start zero t u near l = absurd (omega (arith, tree.weighs t u near))
    stable start (suc n) t u near l = local t u (flowing make start n u) (flowing make start (suc n) u) (λ v on off. stable start n u v on (omega (arith, l, beyond t u v near on off)))

    pub solves : (start : A) → Solves links make (flowing make start (length servers))
    solves start t u near = stable start (length servers) t u near (size-within t u near)

module _ (th : Theory) (net : Net th) where
  -- gathered but for t, equal sets make equal sets
  gather-same : {T : Type 0} (before : T → T → Bool) (f g : ℕ → List T) (t : ℕ) (is : List ℕ) → ((i : ℕ) → (i ≡ t → ⊥) → f i ≡ g i) → union_except before f t is ≡ union_except before g t is
  gather-same before f g t [] e = refl
  gather-same before f g t (i ∷ is) e = go (compare i t) (gather-same before f g t is e)
    where
      go : Same i t → union_except before f t is ≡ union_except before g t is → union_except before f t (i ∷ is) ≡ union_except before g t (i ∷ is)
      go (Is p v) ih = rw v ih
      go (Not n v) ih = rw v (ap (λ z. union before z (union_except before f t is)) (e i n) ∙ ap (union before (g i)) ih)

  holds-same : {T : Type 0} (homes : ℕ → ℕ → List T) (t u : ℕ) (f g : ℕ → List T) → ((v : ℕ) → Has v (net.links u) → (v ≡ t → ⊥) → f v ≡ g v) → (i : ℕ) → (i ≡ t → ⊥) → holds th net homes u f i ≡ holds th net homes u g i
  holds-same {T} homes t u f g e i n = go (is_among i (net.links u)) refl
    where
      go : (b : Bool) → is_among i (net.links u) ≡ b → cond b (f i) (homes u i) ≡ cond b (g i) (homes u i)
      go true q = e i (one-has i (net.links u) q) n
      go false q = refl

  local-ad : (homes : ℕ → ℕ → List th.Advert) → IsLocal net.links (make_ad th net homes)
  local-ad homes t u f g e = ap (λ z. cond net.adverts (roots th.covers_advert th.before_advert z) []) (gather-same th.before_advert (holds th net homes u f) (holds th net homes u g) t (interfaces th net u) (holds-same homes t u f g e))

  local-sub : (homes : ℕ → ℕ → List th.Filter) (ads : ℕ → ℕ → List th.Advert) → IsLocal net.links (make_sub th net homes ads)
  local-sub homes ads t u f g e = ap (λ z. roots th.covers th.before (filter (λ x. not net.adverts || some_pass (th.overlaps x) (ads u t)) z)) (gather-same th.before (holds th net homes u f) (holds th net homes u g) t (interfaces th net u) (holds-same homes t u f g e))

  one-both : {T : Type 0} (b : Bool) (x : T) → cond b x x ≡ x
  one-both true x = refl
  one-both false x = refl

  module _ (size : ℕ → ℕ → ℕ) (tree : IsTreeBySizes net.servers net.links size) where
    -- at rest each server holds of its neighbours what flows
    pub settled-flow_ad : (state : ℕ → ServerState th) → AgreesOnLinks th net state → (t u : ℕ) → Has u (net.links t) → (state t).advs u ≡ flow_ad th net (λ u. (state u).advs) t u
    settled-flow_ad state rest t u near =
        unique net.servers net.links size tree (make_ad th net (λ u. (state u).advs)) (local-ad (λ u. (state u).advs)) (λ t. (state t).advs) (flow_ad th net (λ u. (state u).advs))
        (λ t u near. rest.advs t u near ∙ ap (λ z. cond net.adverts (roots th.covers_advert th.before_advert (union_except th.before_advert z t (interfaces th net u))) []) (sym (fun_ext (λ i. one-both (is_among i (net.links u)) ((state u).advs i)))))
        (solves net.servers net.links size tree (make_ad th net (λ u. (state u).advs)) (local-ad (λ u. (state u).advs)) [])
        (length net.servers) t u near (size-within net.servers net.links size tree t u near)

    pub settled-flow : (state : ℕ → ServerState th) → AgreesOnLinks th net state → (t u : ℕ) → Has u (net.links t) → (state t).subs u ≡ flow th net (λ u. (state u).subs) (λ u. (state u).advs) t u
    settled-flow state rest t u near =
        let ads : ℕ → ℕ → List th.Advert = flow_ad th net (λ u. (state u).advs) in
        unique net.servers net.links size tree (make_sub th net (λ u. (state u).subs) ads) (local-sub (λ u. (state u).subs) ads) (λ t. (state t).subs) (flow th net (λ u. (state u).subs) (λ u. (state u).advs))
        (λ t u near. rest.subs t u near
        ∙ ap (λ z. roots th.covers th.before (filter (λ x. not net.adverts || some_pass (th.overlaps x) z) (union_except th.before (state u).subs t (interfaces th net u)))) (settled-flow_ad state rest u t (tree.both t u near))
        ∙ ap (λ z. roots th.covers th.before (filter (λ x. not net.adverts || some_pass (th.overlaps x) (ads u t)) (union_except th.before z t (interfaces th net u)))) (sym (fun_ext (λ i. one-both (is_among i (net.links u)) ((state u).subs i)))))
        (solves net.servers net.links size tree (make_sub th net (λ u. (state u).subs) ads) (local-sub (λ u. (state u).subs) ads) [])
        (length net.servers) t u near (size-within net.servers net.links size tree t u near)

    one-near : (u t : ℕ) {T : Type 0} (x y : T) → Has u (net.links t) → cond (is_among u (net.links t)) x y ≡ x
    one-near u t {T} x y h = ap (λ z. cond z x y) (has-one u (net.links t) h)

    -- a change to this tree leaves the servers at rest
    pub relinked-settled : (homes : ℕ → ℕ → List th.Filter) (ad_homes : ℕ → ℕ → List th.Advert) → AgreesOnLinks th net (relinked th net homes ad_homes)
    relinked-settled homes ad_homes = record {
      advs = λ t u near. one-near u t (flow_ad th net ad_homes t u) (ad_homes t u) near ∙ solves net.servers net.links size tree (make_ad th net ad_homes) (local-ad ad_homes) [] t u near;
      subs = λ t u near. one-near u t (flow th net homes ad_homes t u) (homes t u) near ∙ solves net.servers net.links size tree (make_sub th net homes (flow_ad th net ad_homes)) (local-sub homes (flow_ad th net ad_homes)) [] t u near
          ∙ ap (λ z. roots th.covers th.before (filter (λ x. not net.adverts || some_pass (th.overlaps x) z) (union_except th.before (holds th net homes u (flow th net homes ad_homes u)) t (interfaces th net u)))) (sym (one-near t u (flow_ad th net ad_homes u t) (ad_homes u t) (tree.both t u near)));
    }
