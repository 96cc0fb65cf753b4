-- Proves that rows of a table represent what flows over a tree.
use Rattle.std.proofs.Common.{inl, inr, ℕ, suc, Bool, true, false, cond, not, ◌||◌, List, [], ◌∷◌, filter, refl, sym, subst, arith}
use Rattle.base.specs.Sets.{Has, IsRising, roots}
use Rattle.base.proofs.Sets.{rising-filter, rising-roots}
use Rattle.filter_constraints.specs.Constraint.{ConstraintParts}
use Rattle.filter_types.specs.Before.{list_before}
use Rattle.filter_covering.specs.Laws.{sub_laws, ad_laws}
use Rattle.filter_text.specs.declared.semantics.Semantics.{Semantics}
use Rattle.base_tree.specs.Tree.{Topology, TreeLaws, servers_of, links_of, hop_of}
use Rattle.law_routing.specs.Net.{Net}
use Rattle.law_routing.specs.Server.{union_except, interfaces}
use Rattle.law_routing.specs.Clients.{some_pass}
use Rattle.law_routing.specs.Flow.{holds, flow_ad, flow}
use Rattle.net_model.specs.Real.{real}
use Rattle.server_spec.specs.Control.{by_adverts}
use Rattle.server_spec.specs.Flow.{IsNetOn, IsUnionOfClients}
use Rattle.server_spec.proofs.Solving.{rising-except, ad-is, sub-is}

-- a net on the tree in which each server has one client
abbrev pub lone : Semantics → Topology → Net real
lone semantics tree = record {
  adverts = by_adverts semantics;
  servers = servers_of tree;
  links = links_of tree;
  hop = hop_of tree;
  home = λ c. 1;
  clients = λ s. suc s ∷ [];
  script = λ c. [];
}

module _ (semantics : Semantics) (tree : Topology) where
  pub lone-on : IsNetOn semantics tree (lone semantics tree)
  lone-on = record { adverts = refl; servers = refl; links = refl; counted = λ s c m. elim m [ inl q ↦ omega (arith, q) | inr n ↦ absurd n ] }

  pub lone-union : (given : ℕ → List (List ConstraintParts)) → IsUnionOfClients (lone semantics tree) (λ s i. given s) given
  lone-union given s h x = (λ m. (suc s, inl refl, m), λ r. r.2)

  -- and what flows is rising
  pub filters-rise : TreeLaws tree → (given ad_given : ℕ → List (List ConstraintParts)) → (a b : ℕ) → Has b (links_of tree a) → IsRising list_before (flow real (lone semantics tree) (λ s i. given s) (λ s i. ad_given s) a b)
  filters-rise laws given ad_given a b m =
      let sets : ℕ → ℕ → List (List ConstraintParts) = λ s i. given s in
      let ads : ℕ → ℕ → List (List ConstraintParts) = λ s i. ad_given s in
      let wanted : List ConstraintParts → Bool = λ x. not (by_adverts semantics) || some_pass (real.overlaps x) (flow_ad real (lone semantics tree) ads b a) in
      let all : List (List ConstraintParts) = union_except list_before (holds real (lone semantics tree) sets b (flow real (lone semantics tree) sets ads b)) a (interfaces real (lone semantics tree) b) in
      subst (IsRising list_before) (sym (sub-is semantics tree laws (lone semantics tree) lone-on sets ads a b m))
      (rising-roots sub_laws (filter wanted all) (rising-filter sub_laws wanted all (rising-except sub_laws (holds real (lone semantics tree) sets b (flow real (lone semantics tree) sets ads b)) a (interfaces real (lone semantics tree) b))))

  pub adverts-rise : TreeLaws tree → (given : ℕ → List (List ConstraintParts)) → (a b : ℕ) → Has b (links_of tree a) → IsRising list_before (flow_ad real (lone semantics tree) (λ s i. given s) a b)
  adverts-rise laws given a b m =
      let sets : ℕ → ℕ → List (List ConstraintParts) = λ s i. given s in
      let all : List (List ConstraintParts) = union_except list_before (holds real (lone semantics tree) sets b (flow_ad real (lone semantics tree) sets b)) a (interfaces real (lone semantics tree) b) in
      subst (IsRising list_before) (sym (ad-is semantics tree laws (lone semantics tree) lone-on sets sets a b m))
      (either (by_adverts semantics) (roots real.covers_advert list_before all) (rising-roots ad_laws all (rising-except sub_laws (holds real (lone semantics tree) sets b (flow_ad real (lone semantics tree) sets b)) a (interfaces real (lone semantics tree) b))))
    where
      either : (t : Bool) (xs : List (List ConstraintParts)) → IsRising list_before xs → IsRising list_before (cond t xs [])
      either true xs r = r
      either false xs r = tt
