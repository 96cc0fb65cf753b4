-- What the rows name, as what servers hold of their neighbours.
use Rattle.std.proofs.Common.{◌≡◌, inl, inr, ℕ, suc, nat_lt, true, ◌+◌, ◌-◌, ◌≤◌, List, [], ◌∷◌, ◌++◌, Some, map, length, slice_get, sym, ap, subst, ◌∙◌, arith}
use Rattle.std.proofs.lemmas.Bool.Decides.{nat_tests}
use Rattle.std.proofs.lemmas.List.{length-append}
use Rattle.base.specs.Sets.{Has, IsRising}
use Rattle.filter_types.specs.Before.{list_before}
use Rattle.server_spec.proofs.Places.{un-push}
use Rattle.filter_text.specs.declared.semantics.Semantics.{Semantics}
use Rattle.base_tree.specs.Tree.{Topology, TreeLaws, links_of}
use Rattle.server_spec.specs.declared.control.HeldLink.{HeldLink}
use Rattle.server_spec.specs.declared.home.Home.{Home}
use Rattle.server_spec.specs.Flow.{filters_of, adverts_of, IsFlow, AreGivenLinks}
use Rattle.server_spec.proofs.Ordering.{to-small}
use Rattle.server_spec.proofs.Filling.{lone, lone-on, lone-union, filters-rise, adverts-rise}
use Rattle.base.proofs.Sets.{map-has}

-- one more server
pub server-step : {X : Type 0} (P : ℕ → X → Type 0) (xs new : List X) (x : X) (at : ℕ) → 1 ≤ at → new ≡ xs ++ x ∷ [] → length xs ≡ at - 1 → P at x
    → ((place : ℕ) (y : X) → slice_get xs place ≡ Some y → P (suc place) y) → (place : ℕ) (y : X) → slice_get new place ≡ Some y → P (suc place) y
server-step {X} P xs new x at low is long here before place y e = elim (un-push xs x place y (subst (λ z. slice_get z place ≡ Some y) is e)) [
  | inl r ↦ before place y r.1
  | inr r ↦
      let same : at ≡ suc place = omega (arith, low, long, r.0) in
      subst (P (suc place)) (sym r.1) (subst (λ z. P z x) same here)
]

pub server-long : {X : Type 0} (xs new : List X) (x : X) (at : ℕ) → 1 ≤ at → new ≡ xs ++ x ∷ [] → length xs ≡ at - 1 → length new ≡ at + 1 - 1
server-long xs new x at low is long = omega (arith, low, long, ap length is, length-append xs (x ∷ []))

not-less : (x y : ℕ) → nat_lt x y ≡ true → x ≡ y → ⊥
not-less x y e q = grind (arith, nat_tests, e, q)

-- links of rising numbers are told apart by them
apart : (links : List HeldLink) → IsRising nat_lt (map (λ (l : HeldLink). l.link) links) → (a b : HeldLink) → Has a links → Has b links → a.link ≡ b.link → a ≡ b
apart [] rises a b m n e = absurd m
apart (x ∷ xs) rises a b (inl p) (inl q) e = p ∙ sym q
apart (x ∷ xs) rises a b (inl p) (inr n) e = absurd (not-less (x.link) (b.link) (rises.0 b.link (map-has (λ (l : HeldLink). l.link) xs b n)) (ap (λ l. l.link) (sym p) ∙ e))
apart (x ∷ xs) rises a b (inr m) (inl q) e = absurd (not-less (x.link) (a.link) (rises.0 a.link (map-has (λ (l : HeldLink). l.link) xs a m)) (ap (λ l. l.link) (sym q) ∙ sym e))
apart (x ∷ xs) rises a b (inr m) (inr n) e = apart xs rises.1 a b m n e

-- what a control asks of the links
pub given-links : (semantics : Semantics) (tree : Topology) → TreeLaws tree → (homes : List Home) (server : ℕ) (links : List HeldLink) → map (λ (l : HeldLink). l.link) links ≡ links_of tree server
    → ((link : HeldLink) → Has link links → IsFlow semantics tree homes server link) → AreGivenLinks links
given-links semantics tree laws homes server links is flows = record {
  small = λ h m. omega (arith, to-small tree laws server h.link (near h m));
  distinct = apart links (subst (IsRising nat_lt) (sym is) (laws.rising server));
  filters = λ h m. subst (IsRising list_before) (sym ((flows h m).filters (lone semantics tree) (λ s i. filters_of homes s) (λ s i. adverts_of homes s) (lone-on semantics tree) (lone-union semantics tree (filters_of homes)) (lone-union semantics tree (adverts_of homes)))) (filters-rise semantics tree laws (filters_of homes) (adverts_of homes) server h.link (near h m));
  adverts = λ h m. subst (IsRising list_before) (sym ((flows h m).adverts (lone semantics tree) (λ s i. adverts_of homes s) (lone-on semantics tree) (lone-union semantics tree (adverts_of homes)))) (adverts-rise semantics tree laws (adverts_of homes) server h.link (near h m));
}
  where
    near : (h : HeldLink) → Has h links → Has h.link (links_of tree server)
    near h m = subst (Has h.link) is (map-has (λ (l : HeldLink). l.link) links h m)
