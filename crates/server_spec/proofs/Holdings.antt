-- Lemmas on the members of the sets of what is held.
use Rattle.std.proofs.Common.{◌≡◌, ◌↔◌, Bool, true, false, List, map, filter, sym, ◌∙◌}
use Rattle.base.specs.Laws.{CoverLaws}
use Rattle.base.specs.Sets.{Has, IsRising}
use Rattle.base.proofs.Roots.{Has-filter, filter-Has}
use Rattle.base.proofs.Sets.{has-set_of, rising-set_of, has-map}
use Rattle.server_spec.proofs.Places.{map-Has}
use Rattle.server_spec.specs.Holdings.{Holding, items_where}

module _ {T : Type 0} {covers before : T → T → Bool} (laws : CoverLaws covers before) where
  -- an item of the set has a holding that the test lets pass
  pub has-where : (test : Holding T → Bool) (s : List (Holding T)) (x : T) → Has x (items_where before test s) ↔ ((h : Holding T) × Has h s × (test h ≡ true) × (x ≡ h.item))
  has-where test s x = (to, λ r. (has-set_of laws x (map (λ (h : Holding T). h.item) (filter test s))).1 (map-Has (λ (h : Holding T). h.item) (filter test s) r.0 x (Has-filter test r.0 s r.1 r.2) r.3))
    where
      to : Has x (items_where before test s) → (h : Holding T) × Has h s × (test h ≡ true) × (x ≡ h.item)
      to m =
          let a = has-map (λ (h : Holding T). h.item) (filter test s) x ((has-set_of laws x (map (λ (h : Holding T). h.item) (filter test s))).0 m) in
          let b = filter-Has test a.0 s a.1 in
          (a.0, b.0, b.1, a.2)

  pub rising-where : (test : Holding T → Bool) (s : List (Holding T)) → IsRising before (items_where before test s)
  rising-where test s = rising-set_of laws (map (λ (h : Holding T). h.item) (filter test s))
