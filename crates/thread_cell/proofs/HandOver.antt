-- A table update whose changes were handed over in part before: once these are mended, its pairs are those of what is held.
use Rattle.std.proofs.Common.{◌≡◌, ◌↔◌, ◌⊎◌, inl, inr, ℕ, zero, suc, ◌+◌, ◌<◌, Bool, true, false, List, [], ◌∷◌, ◌++◌, length, take, drop, get_or, slice_get, Some, refl, sym, ap, subst, ◌∙◌, arith, add-one, append_assoc}
use Rattle.filter_constraints.specs.Constraint.{ConstraintParts}
use Rattle.base.specs.Sets.{Has}
use Rattle.server_spec.specs.Control.{subs}
use Rattle.net_tables.specs.Known.{known_filters}
use Rattle.match_routes.specs.declared.table_change.TableChange.{TableChange}
use Rattle.match_routes.specs.declared.table_change.TableChange.TheVariants.{Put, Take}
use Rattle.match_routes.specs.Installed.{Pair, Installed, pair_in, changed, all_changed, IsKnown}
use Rattle.match_routes.proofs.Lists.{all_changed-append}
use Rattle.law_machine.specs.Machine.{Does}
use Rattle.law_routing.specs.Step.{TableUpdate}
use Rattle.server_core.specs.Core.{CoreParts, installed_from}
use Rattle.server_core.specs.Pending.{IsPending}
use Rattle.server_core.specs.Step.{MakesStep}
use Rattle.thread_versions.specs.declared.publisher.Publisher.{Publisher}
use Rattle.thread_versions.specs.Ends.{pending, installed, forwarding_of, IsSamePublisher}
use Rattle.thread_versions.specs.Pairs.{pairs_after}
use Rattle.thread_versions.proofs.Pairs.{more_after}
use Rattle.thread_cell.specs.Kept.{AreOf, IsWideFor, IsSomeServer}
use Rattle.thread_cell.specs.Versions.{IsTouched, AreTouched, AreNumbered, IsOfHeld, AreMended}
use Rattle.server_core.proofs.KeepsInstalled.{held_by_update}
use Rattle.thread_cell.proofs.Changes.{Touch, look, touched, untouched, at-put, at-take}
use Rattle.base.proofs.Sets.{has-append, has-append-left, has-append-right}
use Rattle.std.proofs.lemmas.Bool.{and_parts}
use Rattle.std.proofs.lemmas.List.{append_cancel_left}
use Rattle.thread_versions.specs.Pairs.{is_known, all_known}
use Rattle.thread_versions.proofs.Applied.{true-known}
use Rattle.base_order.specs.Order.{picked}
use Rattle.base_order.proofs.SettledRoots.{in-has, has-in}
use Rattle.base_bits.specs.Rows.{is_in}
use Rattle.filter_types.specs.Before.{list_before}
use Rattle.filter_covering.specs.Laws.{sub_laws}
use Rattle.server_stock.proofs.Shown.{has-picked, picked-has, one-number}
use Rattle.net_tables.proofs.Counting.{known_filters_rise}

module _ (core : CoreParts) (i k : ℕ) (f : List ConstraintParts) (at : slice_get (known_filters core.net.clients) k ≡ Some f) where
  -- a change of a pair that says what is held
  one-held : (c : TableChange) (pairs : List Pair) → IsOfHeld core c → (i, k) ≡ pair_in c → Has (i, k) (changed c pairs) ↔ Has f (subs core.control i)
  one-held (Put number interface) pairs held e = (
    λ h. subst (λ (z : ℕ). Has f (subs core.control z)) (sym (ap (λ (p : Pair). p.0) e)) (held f (subst (λ z. slice_get (known_filters core.net.clients) z ≡ Some f) (ap (λ (p : Pair). p.1) e) at)),
    λ h. (at-put (i, k) number interface pairs).1 (inl e),
  )
  one-held (Take number interface) pairs held e = (
    λ h. absurd (((at-take (i, k) number interface pairs).0 h).1 e),
    λ h. absurd (held f (subst (λ z. slice_get (known_filters core.net.clients) z ≡ Some f) (ap (λ (p : Pair). p.1) e) at) (subst (λ (z : ℕ). Has f (subs core.control z)) (ap (λ (p : Pair). p.0) e) h)),
  )

  -- and several
  all-held : (cs : List TableChange) (pairs : List Pair) → ((c : TableChange) → Has c cs → IsOfHeld core c) → Touch (i, k) cs → Has (i, k) (all_changed cs pairs) ↔ Has f (subs core.control i)
  all-held [] pairs held t = absurd t.1
  all-held (c ∷ cs) pairs held t = go (look (i, k) cs) t (λ r. all-held cs (changed c pairs) (λ d m. held d (inr m)) r)
    where
      go : Touch (i, k) cs ⊎ (Touch (i, k) cs → ⊥) → Touch (i, k) (c ∷ cs) → (Touch (i, k) cs → Has (i, k) (all_changed (c ∷ cs) pairs) ↔ Has f (subs core.control i)) → Has (i, k) (all_changed (c ∷ cs) pairs) ↔ Has f (subs core.control i)
      go (inl r) t later = later r
      go (inr n) (d, inl q, e) later =
          let one = one-held c pairs (held c (inl refl)) (e ∙ ap pair_in q) in
          let rest = untouched (i, k) cs (changed c pairs) n in
          (λ h. one.0 (rest.0 h), λ h. rest.1 (one.1 h))
      go (inr n) (d, inr m, e) later = absurd (n (d, m, e))

-- changes after which all their pairs are touched by those that say what is held
pub mended : (core : CoreParts) (handed mends : List TableChange) → AreTouched mends handed → ((c : TableChange) → Has c mends → IsOfHeld core c) → AreMended core (handed ++ mends)
mended core handed mends touched held pairs i k f c at h e =
    subst (λ (l : List Pair). Has (i, k) l ↔ Has f (subs core.control i)) (sym (all_changed-append handed mends pairs)) (all-held core i k f at mends (all_changed handed pairs) held (touch (has-append c handed mends h)))
  where
    touch : Has c handed ⊎ Has c mends → Touch (i, k) mends
    touch (inl m) = let u = touched c m in (u.0, u.1, e ∙ u.2)
    touch (inr m) = (c, m, e)

module _ (core : CoreParts) (pending : IsPending (known_filters core.net.clients) core.interfaces (installed_from core) (subs core.control) core.pending) (shown handed : List TableChange) (mends : AreMended core handed) (is : AreOf core (pairs_after shown)) where
  -- what is handed is mended, so that what is pending makes of it what is held
  mended-held : (i k : ℕ) (f : List ConstraintParts) → slice_get (known_filters core.net.clients) k ≡ Some f → Has (i, k) (all_changed core.pending (all_changed handed (pairs_after shown))) ↔ Has f (subs core.control i)
  mended-held i k f at = go (look (i, k) core.pending) (look (i, k) handed) (pending.turned (pairs_after shown) is.pairs_are i k f at)
    where
      go : Touch (i, k) core.pending ⊎ (Touch (i, k) core.pending → ⊥) → Touch (i, k) handed ⊎ (Touch (i, k) handed → ⊥) → Has (i, k) (all_changed core.pending (pairs_after shown)) ↔ Has f (subs core.control i)
          → Has (i, k) (all_changed core.pending (all_changed handed (pairs_after shown))) ↔ Has f (subs core.control i)
      go (inl t) other made =
          (λ h. made.0 (touched (i, k) core.pending (all_changed handed (pairs_after shown)) (pairs_after shown) t h), λ h. touched (i, k) core.pending (pairs_after shown) (all_changed handed (pairs_after shown)) t (made.1 h))
      go (inr n) (inl t) made =
          let a = untouched (i, k) core.pending (all_changed handed (pairs_after shown)) n in
          let b = mends (pairs_after shown) i k f t.0 at t.1 t.2 in
          (λ h. b.0 (a.0 h), λ h. a.1 (b.1 h))
      go (inr n) (inr m) made =
          let a = untouched (i, k) core.pending (all_changed handed (pairs_after shown)) n in
          let b = untouched (i, k) handed (pairs_after shown) m in
          let c = untouched (i, k) core.pending (pairs_after shown) n in
          (λ h. made.0 (c.1 (b.0 (a.0 h))), λ h. a.1 (b.1 (c.0 (made.1 h))))

  -- where nothing is pending it makes no difference
  pub mended-calm : core.pending ≡ [] → AreOf core (pairs_after (shown ++ handed))
  mended-calm calm = record {
    pairs_are = λ i k f at.
        let one = subst (λ l. Has (i, k) (all_changed l (all_changed handed (pairs_after shown))) ↔ Has f (subs core.control i)) calm (mended-held i k f at) in
        let two = subst (λ l. Has (i, k) (all_changed l (pairs_after shown)) ↔ Has f (subs core.control i)) calm (pending.turned (pairs_after shown) is.pairs_are i k f at) in
        let three = is.pairs_are i k f at in
        subst (λ (l : List Pair). Has (i, k) l ↔ Has f (installed_from core i)) (sym (more_after shown handed)) (λ h. three.0 (two.1 (one.0 h)), λ h. one.1 (two.0 (three.1 h)));
    known = is.known;
  }

-- one more of these is touched
touched_next : (changes these : List TableChange) (k : ℕ) (d : TableChange) → k < length these → AreTouched changes (take k these) → IsTouched changes (get_or these k d) → AreTouched changes (take (suc k) these)
touched_next changes [] k d lt t u c h = absurd (omega (arith, lt))
touched_next changes (x ∷ these) zero d lt t u c (inl e) = subst (IsTouched changes) (sym e) u
touched_next changes (x ∷ these) zero d lt t u c (inr h) = absurd h
touched_next changes (x ∷ these) (suc k) d lt t u c (inl e) = subst (IsTouched changes) (sym e) (t x (inl refl))
touched_next changes (x ∷ these) (suc k) d lt t u c (inr h) = touched_next changes these k d (omega (arith, lt)) (λ c h. t c (inr h)) u c h

pub touched_more : (changes these : List TableChange) (k : ℕ) (d : TableChange) → k < length these → AreTouched changes (take k these) → IsTouched changes (get_or these k d) → AreTouched changes (take (k + 1) these)
touched_more changes these k d lt t u = rw add-one (touched_next changes these k d lt t u)

-- more changes touch as much
touched-on : (changes more these : List TableChange) → AreTouched changes these → AreTouched (changes ++ more) these
touched-on changes more these t c h = let u = t c h in (u.0, has-append-left u.0 changes more u.1, u.2)

-- a change of the pair of the next one of these is put at the end
pub touched_put : (mends these : List TableChange) (k : ℕ) (d mend : TableChange) → k < length these → AreTouched mends (take k these) → pair_in mend ≡ pair_in (get_or these k d) → AreTouched (mends ++ mend ∷ []) (take (k + 1) these)
touched_put mends these k d mend lt t e = touched_more (mends ++ mend ∷ []) these k d lt (touched-on mends (mend ∷ []) (take k these) t) (mend, has-append-right mend mends (mend ∷ []) (inl refl), sym e)

-- what each has, one more has too
pub each-put : (P : TableChange → Type 0) (mends : List TableChange) (mend : TableChange) → ((c : TableChange) → Has c mends → P c) → P mend → (c : TableChange) → Has c (mends ++ mend ∷ []) → P c
each-put P mends mend all one c h = go (has-append c mends (mend ∷ []) h)
  where
    go : Has c mends ⊎ Has c (mend ∷ []) → P c
    go (inl m) = all c m
    go (inr (inl e)) = subst P (sym e) one
    go (inr (inr m)) = absurd m

-- what is put for an item that is held, or taken away for one that isn't
pub says-held : (core : CoreParts) (number interface : ℕ) (numbers : List ℕ) → picked (known_filters core.net.clients) numbers ≡ subs core.control interface → is_in number numbers ≡ true → IsOfHeld core (Put number interface)
says-held core number interface numbers e t f at = subst (Has f) e (has-picked (known_filters core.net.clients) numbers number f (in-has number numbers t) at)

pub says-gone : (core : CoreParts) (number interface : ℕ) (numbers : List ℕ) → picked (known_filters core.net.clients) numbers ≡ subs core.control interface → is_in number numbers ≡ false → IsOfHeld core (Take number interface)
says-gone core number interface numbers e t f at m =
    let r = picked-has (known_filters core.net.clients) numbers f (subst (Has f) (sym e) m) in
    let one = one-number sub_laws (known_filters core.net.clients) (known_filters_rise core.net.clients) r.0 number f r.2 at in
    let q : true ≡ false = sym (has-in number numbers (subst (λ z. Has z numbers) one r.1)) ∙ t in
    cc

-- each of known changes is known
each-known : (p : Installed) (cs : List TableChange) → all_known p cs ≡ true → (c : TableChange) → Has c cs → IsKnown p (pair_in c)
each-known p [] e c h = absurd h
each-known p (x ∷ cs) e c (inl q) = subst (λ (z : TableChange). IsKnown p (pair_in z)) (sym q) (true-known p (pair_in x) (and_parts (is_known p (pair_in x)) (all_known p cs) e).0)
each-known p (x ∷ cs) e c (inr m) = each-known p cs (and_parts (is_known p (pair_in x)) (all_known p cs) e).1 c m

-- what is pending at a publisher is known to it
pub handed-known : (p : Publisher) (handed : List TableChange) → pending p ≡ installed p ++ handed → (c : TableChange) → Has c handed → IsKnown (forwarding_of p) (pair_in c)
handed-known p handed e =
    let same : handed ≡ p.waiting.items = append_cancel_left (installed p) handed p.waiting.items (sym e ∙ p.pending) in
    each-known (forwarding_of p) handed (subst (λ (l : List TableChange). all_known (forwarding_of p) l ≡ true) (sym same) p.known)

-- and has a number of the core's filters
pub handed-numbered : (p : Publisher) (core : CoreParts) (handed : List TableChange) → pending p ≡ installed p ++ handed → IsWideFor core (forwarding_of p) → AreNumbered core handed
handed-numbered p core handed e wide c h = let k = handed-known p handed e c h in let n = k.number in let w = wide.width in omega (arith, n, w)

-- a change of a pair that is known is known
pub touched-known : (f : Installed) (handed : List TableChange) (c : TableChange) → ((d : TableChange) → Has d handed → IsKnown f (pair_in d)) → IsTouched handed c → IsKnown f (pair_in c)
touched-known f handed c known t = subst (IsKnown f) (sym t.2) (known t.0 t.1)

-- what is known to a publisher is so later
pub known-later : (p q : Publisher) (c : TableChange) → IsSamePublisher p q → IsKnown (forwarding_of p) (pair_in c) → IsKnown (forwarding_of q) (pair_in c)
known-later p q c same known = record {
  interface = subst (Has (pair_in c).0) (sym same.server.interfaces) known.interface;
  number = subst (λ w. (pair_in c).1 < w) (sym same.server.width) known.number;
}

-- what is pending is known to a forwarding that is wide enough
pub pending-known : (core : CoreParts) (f : Installed) (items : List (List ConstraintParts)) (interfaces : List ℕ) (before held : ℕ → List (List ConstraintParts)) (pending : List TableChange) → IsWideFor core f → items ≡ known_filters core.net.clients
    → ((i : ℕ) → Has i interfaces → Has i f.interfaces) → IsPending items interfaces before held pending → (c : TableChange) → Has c pending → IsKnown f (pair_in c)
pending-known core f items interfaces before held pending wide same reaches is c h = record {
  interface = reaches (pair_in c).0 (is.interfaces_known c h);
  number = let n = is.numbers c h in let w = wide.width in let s = ap (λ l. length l) same in omega (arith, n, w, s);
}

-- after a table update the installed changes are those of the core
pub pairs_after_handed : (core next : CoreParts) (shown handed now : List TableChange) (stamp : ℕ) → IsSomeServer core → MakesStep (Does TableUpdate) 0 core next stamp []
    → IsPending (known_filters core.net.clients) core.interfaces (installed_from core) (subs core.control) core.pending
    → ((i : ℕ) (f : List ConstraintParts) → Has f (subs core.control i) → Has f (known_filters core.net.clients))
    → AreMended core handed → now ≡ shown ++ (handed ++ core.pending) → AreOf core (pairs_after shown) → AreOf next (pairs_after now)
pairs_after_handed core next shown handed now stamp (net, laws, state, stands) step pending known mends e is =
    subst (λ z. AreOf next (pairs_after z)) (append_assoc shown handed core.pending ∙ sym e) (record {
      pairs_are = λ i k x at.
          let here : slice_get (known_filters core.net.clients) k ≡ Some x = subst (λ n. slice_get (known_filters n.clients) k ≡ Some x) step.same_net at in
          let list = more_after (shown ++ handed) core.pending ∙ ap (all_changed core.pending) (more_after shown handed) in
          subst (λ z. Has (i, k) (pairs_after ((shown ++ handed) ++ core.pending)) ↔ Has x z) (sym (held i))
          (subst (λ l. Has (i, k) l ↔ Has x (subs core.control i)) (sym list) (mended-held core pending shown handed mends is i k x here));
      known = λ i f m. subst (λ n. Has f (known_filters n.clients)) (sym step.same_net) (known i f (subst (Has f) (held i) m));
    })
  where
    held : (i : ℕ) → installed_from next i ≡ subs core.control i
    held = held_by_update net state core next [] stands (step.step net state stands) step.same_server
