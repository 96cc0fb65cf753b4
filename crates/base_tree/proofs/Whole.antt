-- Proves that the tables of a tree meet the laws of a tree.
use Rattle.std.proofs.Common.{◌≡◌, ℕ, zero, suc, ◌<◌, ◌≤◌, nat_lt, filter, List, [], ◌∷◌, ◌⊎◌, inl, inr, length, get_or, refl, sym, subst, ◌∙◌, arith}
use Rattle.std.proofs.Math.ListN.{get_or-eq_default}
use Rattle.base.specs.Sets.{Has, IsRising}
use Rattle.base_tree.specs.Graph.{IsCount, servers_to, neighbours_by}
use Rattle.base_tree.specs.Hops.{AreHops, side}
use Rattle.base_tree.specs.Tree.{topology, links_of, entry, IsTable, IsSoundTree}
use Rattle.base_tree.proofs.Servers.{rising-neighbours, server-in}
use Rattle.base_tree.proofs.Hopping.{neighbours-by-hops}
use Rattle.std.proofs.Math.Path.{fun_ext}

no-members : (xs : List ℕ) → ((x : ℕ) → Has x xs → ⊥) → xs ≡ []
no-members [] n = refl
no-members (x ∷ xs) n = absurd (n x (inl refl))

module _ (n : ℕ) (edges : List (ℕ × ℕ)) (neighbours hops : List (List ℕ)) (some : IsCount n) (table : IsTable n hops) (good : AreHops (servers_to n) (neighbours_by n edges) (entry hops)) (rows : length neighbours ≡ suc n) (none : get_or neighbours 0 [] ≡ [])
    (by_hops : (a : ℕ) → 1 ≤ a → a ≤ n → get_or neighbours a [] ≡ filter (λ b. side (entry hops) a b b) (servers_to n)) where
  outside : (a : ℕ) → (1 ≤ a → a ≤ n → ⊥) → neighbours_by n edges a ≡ []
  outside a m = no-members (neighbours_by n edges a) (λ b h. let i = server-in n a (good.linked a b h) in m i.0 i.1)

  pub links-are : (a : ℕ) → links_of (topology n neighbours hops) a ≡ neighbours_by n edges a
  links-are zero = none ∙ sym (outside zero (λ l h. omega arith))
  links-are (suc a) = go (within (suc a) n)
    where
      within : (a n : ℕ) → (a ≤ n) ⊎ (n < a)
      within a n = grind arith

      go : (suc a ≤ n) ⊎ (n < suc a) → get_or neighbours (suc a) [] ≡ neighbours_by n edges (suc a)
      go (inl l) = by_hops (suc a) (omega arith) l ∙ neighbours-by-hops n edges (entry hops) good (suc a) (omega arith, l)
      go (inr l) = get_or-eq_default neighbours [] (omega (arith, rows)) ∙ sym (outside (suc a) (λ k h. omega arith))

  pub sound : IsSoundTree (topology n neighbours hops)
  sound =
      let links : neighbours_by n edges ≡ links_of (topology n neighbours hops) = sym (fun_ext links-are) in
      record {
        laws = record {
          some = some.0;
          most = some.1;
          rising = λ a. subst (IsRising nat_lt) (sym (links-are a)) (rising-neighbours n edges a);
          hops = subst (λ f. AreHops (servers_to n) f (entry hops)) links good;
        };
        neighbour_rows = rows;
        hop_rows = table;
      }
