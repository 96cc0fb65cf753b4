-- Proves that a blank server sends nothing, and what holds at rest.
use Rattle.std.proofs.Common.{◌≡◌, ℕ, ◌==◌, Bool, true, false, cond, not, ◌||◌, List, [], ◌∷◌, filter, refl, ap, ◌∙◌}
use Rattle.base.specs.Sets.{roots}
use Rattle.law_routing.specs.Theory.{Theory, TheoryLaws}
use Rattle.law_routing.specs.Net.{Net, NetLaws}
use Rattle.law_routing.specs.Server.{union_except, interfaces, sent, sent_adverts}
use Rattle.law_routing.specs.Tree.{IsTreeBySizes, StrictOrders}
use Rattle.law_routing.specs.Routing.{empty_server}

pub gather-none : {T : Type 0} (before : T → T → Bool) (l : ℕ) (is : List ℕ) → union_except before (λ i. []) l is ≡ []
gather-none before l [] = refl
gather-none before l (i ∷ is) = go (i == l) (gather-none before l is)
  where
    go : (b : Bool) → union_except before (λ i. []) l is ≡ [] → cond b (union_except before (λ i. []) l is) (union_except before (λ i. []) l is) ≡ []
    go true e = e
    go false e = e

module _ (th : Theory) (orders : TheoryLaws th) (strict : StrictOrders th) (net : Net th) (numbered : NetLaws th net) (size : ℕ → ℕ → ℕ) (tree : IsTreeBySizes net.servers net.links size) where
  pub none-sent : (t l : ℕ) → sent th net (empty_server th net) t l ≡ []
  none-sent t l = ap (λ z. roots th.covers th.before (filter (λ f. not net.adverts || false) z)) (gather-none th.before l (interfaces th net t))

  pub none-sent_adverts : (t l : ℕ) → sent_adverts th net (empty_server th net) t l ≡ []
  none-sent_adverts t l = ap (λ z. cond net.adverts (roots th.covers_advert th.before_advert z) []) (gather-none th.before_advert l (interfaces th net t)) ∙ flat net.adverts
    where
      flat : (b : Bool) → cond b (roots th.covers_advert th.before_advert []) [] ≡ []
      flat true = refl
      flat false = refl
