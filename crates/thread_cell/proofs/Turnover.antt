-- What a publisher has once what was held from links is taken away and what is held on other links is put.
use Rattle.std.proofs.Common.{◌≡◌, ◌↔◌, ◌⊎◌, inl, inr, ℕ, ◌≤◌, Bool, true, false, List, [], ◌++◌, map, slice_get, Some, refl, sym, ap, subst, ◌∙◌, arith, append_assoc, ◌+◌}
use Rattle.filter_constraints.specs.Constraint.{ConstraintParts}
use Rattle.base.specs.Sets.{Has}
use Rattle.law_routing.specs.Server.{is_among, interfaces}
use Rattle.law_routing.proofs.Laws.{one-has}
use Rattle.law_routing.proofs.Listing.{has-one}
use Rattle.net_model.specs.Real.{real}
use Rattle.net_model.specs.Parts.{NetParts}
use Rattle.net_tables.specs.Known.{known_filters}
use Rattle.server_spec.specs.declared.control.HeldLink.{HeldLink}
use Rattle.server_spec.specs.Control.{subs}
use Rattle.server_spec.specs.Holdings.{held_from}
use Rattle.match_routes.specs.declared.table_change.TableChange.{TableChange}
use Rattle.match_routes.specs.declared.table_change.TableChange.TheVariants.{Take}
use Rattle.match_routes.specs.Installed.{Pair, all_changed}
use Rattle.server_core.specs.Ledger.{LedgerParts}
use Rattle.server_core.specs.Core.{CoreParts, installed_from}
use Rattle.server_core.specs.Linked.{SuitsCore, IsLinked, IsOnLinks}
use Rattle.server_core.specs.Pending.{IsPending, RepresentPairs}
use Rattle.thread_versions.specs.Pairs.{pairs_after}
use Rattle.thread_versions.proofs.Pairs.{more_after}
use Rattle.thread_cell.specs.Kept.{AreOf, IsSomeServer}
use Rattle.thread_cell.specs.Relinking.{AreTaken}
use Rattle.thread_cell.proofs.Changes.{Touch, look, touched, untouched, only-less, gone as is-gone}
use Rattle.base.proofs.Sets.{has-append, has-map}
use Rattle.base.proofs.Numbers.{le-or-gt}

-- the links of a server have low numbers
pub small-links : (core : CoreParts) → IsSomeServer core → (i : ℕ) → Has i core.control.links → i ≤ 64
small-links core some i m = some.1.small core.server i (subst (Has i) (sym some.3.control.links) m)

module _ (core next : CoreParts) (given : List HeldLink) (ledger : LedgerParts) (gone : List TableChange) (row : List ℕ) (before after : List TableChange) (some : IsSomeServer core) (named : row ≡ core.control.links) (calm : core.pending ≡ [])
    (pending : IsPending (known_filters core.net.clients) core.interfaces (installed_from core) (subs core.control) core.pending) (linked : IsLinked given core.control ledger.control) (suits : SuitsCore core ledger) (on : IsOnLinks ledger core next)
    (taken : AreTaken (known_filters core.net.clients) core.control row gone)
    (added : IsPending (known_filters ledger.net.clients) ledger.interfaces (λ i. held_from real.before i ledger.installed) (subs ledger.control) ledger.pending) (bare : ledger.installed ≡ [])
    (known : (i : ℕ) (f : List ConstraintParts) → Has f (subs ledger.control i) → Has f (known_filters ledger.net.clients)) (is : AreOf core (pairs_after before)) where
  abbrev items : List (List ConstraintParts)
  items = known_filters core.net.clients

  same-items : known_filters ledger.net.clients ≡ items
  same-items = ap (λ (n : NetParts). known_filters n.clients) suits.net

  -- what is installed is what is held
  held-now : RepresentPairs items (subs core.control) (pairs_after before)
  held-now = subst (λ l. RepresentPairs items (subs core.control) (all_changed l (pairs_after before))) calm (pending.turned (pairs_after before) is.pairs_are)

  -- what is put makes what is held then, of nothing
  from-none : RepresentPairs items (subs ledger.control) (all_changed ledger.pending [])
  from-none = subst (λ z. RepresentPairs z (subs ledger.control) (all_changed ledger.pending [])) same-items
      (added.turned [] (λ i k x e. (λ h. absurd h, λ m. absurd (subst (λ l. Has x (held_from real.before i l)) bare m))))

  -- of other low numbers nothing is held
  above : (i : ℕ) → i ≤ 64 → Has i (map (λ c. 64 + c) (some.0.clients core.server)) → ⊥
  above i low m =
      let r = has-map (λ c. 64 + c) (some.0.clients core.server) i m in
      let one = some.1.counted core.server r.0 r.1 in
      omega (arith, low, one, r.2)

  is-link : (i : ℕ) (f : List ConstraintParts) → i ≤ 64 → Has f (subs core.control i) → Has i core.control.links
  is-link i f low m = go (is_among i core.control.links) refl
    where
      go : (b : Bool) → is_among i core.control.links ≡ b → Has i core.control.links
      go true e = one-has i core.control.links e
      go false e = absurd (subst (Has f) (some.3.control.subs_apart i none) m)
        where
          none : Has i (interfaces real some.0 core.server) → ⊥
          none h = elim (has-append i (some.0.links core.server) (map (λ c. 64 + c) (some.0.clients core.server)) h) [
            | inl k ↦ (let t : is_among i core.control.links ≡ true = has-one i core.control.links (subst (Has i) some.3.control.links k) in unlike (sym e ∙ t))
            | inr k ↦ above i low k
          ]
            where
              unlike : false ≡ true → ⊥
              unlike q = cc

  all-takes : (c : TableChange) → Has c gone → (interface number : ℕ) × (c ≡ Take number interface)
  all-takes c h = let r = taken.only c h in (r.0, r.1, r.2)

  abbrev between : List Pair
  between = all_changed gone (pairs_after before)

  -- nothing is left of links
  none-left : (i k : ℕ) (x : List ConstraintParts) → slice_get items k ≡ Some x → i ≤ 64 → Has (i, k) between → ⊥
  none-left i k x e low h =
      let held = (held-now i k x e).0 (only-less (i, k) gone (pairs_after before) all-takes h) in
      let link = is-link i x low held in
      is-gone (i, k) gone (pairs_after before) all-takes (Take k i, taken.all i k x (subst (Has i) (sym named) link) e held, refl) h

  pairs-on : (i k : ℕ) (x : List ConstraintParts) → slice_get items k ≡ Some x → Has (i, k) (all_changed ledger.pending between) ↔ Has x (subs ledger.control i)
  pairs-on i k x e = go (look (i, k) ledger.pending)
    where
      go : Touch (i, k) ledger.pending ⊎ (Touch (i, k) ledger.pending → ⊥) → Has (i, k) (all_changed ledger.pending between) ↔ Has x (subs ledger.control i)
      go (inl t) = (λ h. (from-none i k x e).0 (touched (i, k) ledger.pending between [] t h), λ m. touched (i, k) ledger.pending [] between t ((from-none i k x e).1 m))
      go (inr n) = (λ h. left ((untouched (i, k) ledger.pending between n).0 h), λ m. absurd ((untouched (i, k) ledger.pending [] n).0 ((from-none i k x e).1 m)))
        where
          left : Has (i, k) between → Has x (subs ledger.control i)
          left h = elim (le-or-gt i 64) [
            | inl low ↦ absurd (none-left i k x e low h)
            | inr more ↦ subst (Has x) (sym (linked.filters.clients i more)) ((held-now i k x e).0 (only-less (i, k) gone (pairs_after before) all-takes h))
          ]

  pub shown-on : after ≡ before ++ (gone ++ ledger.pending) → AreOf next (pairs_after after)
  shown-on e = record {
    pairs_are = λ i k x at.
        let here : slice_get items k ≡ Some x = subst (λ (n : NetParts). slice_get (known_filters n.clients) k ≡ Some x) on.net at in
        let list = ap pairs_after (e ∙ sym (append_assoc before gone ledger.pending)) ∙ (more_after (before ++ gone) ledger.pending ∙ ap (all_changed ledger.pending) (more_after before gone)) in
        subst (λ z. Has (i, k) (pairs_after after) ↔ Has x z) (sym (on.installed i)) (subst (λ l. Has (i, k) l ↔ Has x (subs ledger.control i)) (sym list) (pairs-on i k x here));
    known = λ i f m. subst (λ (n : NetParts). Has f (known_filters n.clients)) (suits.net ∙ sym on.net) (known i f (subst (Has f) (on.installed i) m));
  }
