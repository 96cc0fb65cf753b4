-- A network before its first turn, and the clients of its servers.
use Rattle.std.proofs.Common.{◌≡◌, ℕ, zero, suc, ◌+◌, ◌<◌, Bool, true, false, cond, filter, List, [], ◌∷◌, ◌++◌, length, slice_get, slice_index_or, Some, refl, sym, ap, subst, ◌∙◌, arith}
use Rattle.std.specs.List.{range_with_len}
use Rattle.law_phases.specs.Moments.{opening_moment}
use Rattle.net_model.specs.Real.{real}
use Rattle.net_model.specs.Parts.{NetParts}
use Rattle.net_model.specs.Nets.{phased_net, first_tree}
use Rattle.server_core.specs.Core.{CoreParts}
use Rattle.sequential_network.specs.Kept.{AreServers, ArePlacesUpTo}
use Rattle.std.proofs.lemmas.List.Elements.{filter-append}

-- one number more
range-more : (a n : ℕ) → range_with_len a (suc n) ≡ range_with_len a n ++ (a + n) ∷ []
range-more a zero = ap (λ z. z ∷ []) (omega arith)
range-more a (suc n) = ap (λ z. a ∷ z) (range-more (a + 1) n ∙ ap (λ z. range_with_len (a + 1) n ++ z ∷ []) (omega arith))

pub filter_more : (p : ℕ → Bool) (k : ℕ) → filter p (range_with_len 1 k) ++ cond (p (k + 1)) ((k + 1) ∷ []) [] ≡ filter p (range_with_len 1 (k + 1))
filter_more p k = one (p (k + 1)) refl ∙ sym (filter-append p (range_with_len 1 k) ((k + 1) ∷ []))
    ∙ ap (filter p) (ap (λ z. range_with_len 1 k ++ z ∷ []) last ∙ sym (range-more 1 k) ∙ ap (range_with_len 1) next)
  where
    last : k + 1 ≡ 1 + k
    last = omega arith

    next : suc k ≡ k + 1
    next = omega arith

    one : (b : Bool) → p (k + 1) ≡ b → filter p (range_with_len 1 k) ++ cond (p (k + 1)) ((k + 1) ∷ []) [] ≡ filter p (range_with_len 1 k) ++ filter p ((k + 1) ∷ [])
    one true e = rw e refl
    one false e = rw e refl

-- all servers before their first steps
pub servers_start : (net : NetParts) (cores : List CoreParts) → length cores ≡ (first_tree net.trees).count → ArePlacesUpTo net cores
    → AreServers net 0 (opening_moment real (phased_net net)).state cores
servers_start net cores all each = record {
  all = all;
  nets = λ k core e. (each k core e).net_is;
  number = λ k core e. (each k core e).server_is;
  states = λ k core e. (each k core e).state;
  clocks = λ k core e. (each k core e).clock;
}
