-- Proves what a client's lists are after one more command.
use Rattle.std.proofs.Common.{◌≡◌, ℕ, zero, suc, ◌+◌, Bool, true, false, cond, List, [], ◌∷◌, ◌++◌, take, slice_get, map, Some, refl, ap, ◌∙◌, arith}
use Rattle.std.proofs.lemmas.Option.{same_Some}
use Rattle.law_routing.specs.Theory.{Theory}
use Rattle.law_routing.specs.Net.{Net, Command, Subscribe, Unsubscribe, Advertise, Unadvertise, Publish, PhasedCommand}
use Rattle.law_routing.specs.Clients.{is_publish, ordinal, adverts_step, adverts_after, accepts, add_refused, refused_from}
use Rattle.net_model.specs.Adding.{own_filters_step, own_filters, own_adverts_step, own_adverts}

module _ (th : Theory) where
  pub filters-next : (cs : List (PhasedCommand th)) (fs : List th.Filter) (j : ℕ) (x : PhasedCommand th) → slice_get cs j ≡ Some x → own_filters th fs (take (suc j) cs) ≡ own_filters_step th (own_filters th fs (take j cs)) x.command
  filters-next [] fs j x e = absurd cc
  filters-next (c ∷ cs) fs zero x e = ap (λ (z : PhasedCommand th). own_filters_step th fs z.command) (same_Some _ _ e)
  filters-next (c ∷ cs) fs (suc j) x e = filters-next cs (own_filters_step th fs c.command) j x e

  pub adverts-next : (cs : List (PhasedCommand th)) (fs : List th.Advert) (j : ℕ) (x : PhasedCommand th) → slice_get cs j ≡ Some x → own_adverts th fs (take (suc j) cs) ≡ own_adverts_step th (own_adverts th fs (take j cs)) x.command
  adverts-next [] fs j x e = absurd cc
  adverts-next (c ∷ cs) fs zero x e = ap (λ (z : PhasedCommand th). own_adverts_step th fs z.command) (same_Some _ _ e)
  adverts-next (c ∷ cs) fs (suc j) x e = adverts-next cs (own_adverts_step th fs c.command) j x e

  swap : (p q : Bool) (n : ℕ) → cond p (suc (cond q (suc n) n)) (cond q (suc n) n) ≡ cond q (suc (cond p (suc n) n)) (cond p (suc n) n)
  swap true true n = refl
  swap true false n = refl
  swap false true n = refl
  swap false false n = refl

  pub ordinal-next : (cs : List (PhasedCommand th)) (j : ℕ) (x : PhasedCommand th) → slice_get cs j ≡ Some x → ordinal th (take (suc j) cs) ≡ cond (is_publish th x.command) (suc (ordinal th (take j cs))) (ordinal th (take j cs))
  ordinal-next [] j x e = absurd cc
  ordinal-next (c ∷ cs) zero x e = ap (λ (z : PhasedCommand th). cond (is_publish th z.command) 1 0) (same_Some _ _ e)
  ordinal-next (c ∷ cs) (suc j) x e = ap (λ n. cond (is_publish th c.command) (suc n) n) (ordinal-next cs j x e) ∙ swap (is_publish th c.command) (is_publish th x.command) (ordinal th (take j cs))

  module _ (net : Net th) where
    abbrev add : List th.Advert → ℕ → Command th → List ℕ → List ℕ
    add = add_refused th net

    front : (ads : List th.Advert) (o : ℕ) (y : Command th) (os more : List ℕ) → add ads o y (os ++ more) ≡ add ads o y os ++ more
    front ads o (Subscribe f) os more = refl
    front ads o (Unsubscribe f) os more = refl
    front ads o (Advertise a) os more = refl
    front ads o (Unadvertise a) os more = refl
    front ads o (Publish n) os more = go (accepts th net ads n)
      where
        go : (b : Bool) → cond b (os ++ more) (suc o ∷ (os ++ more)) ≡ cond b os (suc o ∷ os) ++ more
        go true = refl
        go false = refl

    further : (b : Bool) (o n : ℕ) → cond b (suc o) o + n ≡ o + cond b (suc n) n
    further true o n = omega arith
    further false o n = refl

    pub refused-next : (cs : List (PhasedCommand th)) (ads : List th.Advert) (o j : ℕ) (x : PhasedCommand th) → slice_get cs j ≡ Some x → refused_from th net ads o (take (suc j) cs) ≡ refused_from th net ads o (take j cs) ++ add_refused th net (adverts_after th ads (take j cs)) (o + ordinal th (take j cs)) x.command []
    refused-next [] ads o j x e = absurd cc
    refused-next (c ∷ cs) ads o zero x e = ap (λ (z : PhasedCommand th). add_refused th net ads o z.command []) (same_Some _ _ e) ∙ ap (λ n. add_refused th net ads n x.command []) (omega arith)
    refused-next (c ∷ cs) ads o (suc j) x e =
        let o' : ℕ = cond (is_publish th c.command) (suc o) o in
        let ads' : List th.Advert = adverts_step th ads c.command in
        let more : List ℕ = add_refused th net (adverts_after th ads' (take j cs)) (o' + ordinal th (take j cs)) x.command [] in
        ap (λ os. add_refused th net ads o c.command os) (refused-next cs ads' o' j x e)
        ∙ front ads o c.command (refused_from th net ads' o' (take j cs)) more
        ∙ ap (λ n. add_refused th net ads o c.command (refused_from th net ads' o' (take j cs)) ++ add_refused th net (adverts_after th ads' (take j cs)) n x.command []) (further (is_publish th c.command) o (ordinal th (take j cs)))
