-- A client's filters within a phase: at some moment of it, and at each.
use Rattle.std.proofs.Common.{◌≡◌, ℕ, ◌+◌, ◌-◌, ◌≤◌, not, ◌⊎◌, inl, inr, List, [], take, drop, length, sym, ap, subst, ◌∙◌, arith}
use Rattle.base.specs.Sets.{Has}
use Rattle.base.proofs.Roots.{Has-filter, filter-Has}
use Rattle.filter_constraints.specs.Constraint.{ConstraintParts}
use Rattle.law_routing.specs.Clients.{filters_after}
use Rattle.net_model.specs.Real.{real}
use Rattle.filter_text.specs.Messages.{Lists}
use Rattle.output_flood.specs.Held.{Script, below, before, within, filters_held, subscribed, withdrawn, some_filters, every_filters}
use Rattle.output_flood.proofs.Below.{below_rises}
use Rattle.output_flood.proofs.Moments.{Same, ps, take_most, at_moment, take_ps}
use Rattle.output_flood.proofs.OwnFilters.{held_same, after_append, every_to, every_from, some_to, some_from}
use Rattle.base.proofs.Sets.{has-append-left, has-append-right, has-append}
use Rattle.std.proofs.lemmas.Bool.{not-true, not_from_false}

abbrev at_first : ℕ → Script → Lists
at_first k script = filters_after real [] (ps (before k script))

same_held : (k : ℕ) (script : Script) → Same (filters_held [] (before k script)) (at_first k script)
same_held k script = held_same (before k script) [] [] (λ x. ((λ h. h), (λ h. h)))

at_count : (k n : ℕ) (script : Script) → n ≤ below (k + 1) script - below k script
    → filters_after real [] (take (below k script + n) (ps script)) ≡ filters_after real (at_first k script) (take n (ps (within k script)))
at_count k n script l =
    ap (filters_after real []) (at_moment k n script l)
    ∙ after_append (before k script) (take n (within k script)) []
    ∙ ap (filters_after real (at_first k script)) (take_ps n (within k script))

short : (k n : ℕ) (script : Script) → n ≤ length (within k script) → n ≤ below (k + 1) script - below k script
short k n script l = omega (arith, l, take_most (below (k + 1) script - below k script) (drop (below k script) script))

-- in the list after these many commands, by the moment within the phase
inside : (k count : ℕ) (script : Script) (f : List ConstraintParts) → below k script ≤ count → count ≤ below (k + 1) script
    → Has f (filters_after real [] (take count (ps script))) → Has f (filters_after real (at_first k script) (take (count - below k script) (ps (within k script))))
inside k count script f from upto h =
    subst (Has f) (at_count k (count - below k script) script (omega (arith, from, upto)))
    (subst (λ z. Has f (filters_after real [] (take z (ps script)))) (sym (back (below k script) count from)) h)
  where
    back : (b count : ℕ) → b ≤ count → b + (count - b) ≡ count
    back b count from = omega (arith, from)

outside : (k count : ℕ) (script : Script) (f : List ConstraintParts) → below k script ≤ count → count ≤ below (k + 1) script
    → Has f (filters_after real (at_first k script) (take (count - below k script) (ps (within k script)))) → Has f (filters_after real [] (take count (ps script)))
outside k count script f from upto h =
    subst (λ z. Has f (filters_after real [] (take z (ps script)))) (back (below k script) count from)
    (subst (Has f) (sym (at_count k (count - below k script) script (omega (arith, from, upto)))) h)
  where
    back : (b count : ℕ) → b ≤ count → b + (count - b) ≡ count
    back b count from = omega (arith, from)

pub throughout_to : (k : ℕ) (script : Script) (f : List ConstraintParts) → Has f (every_filters k script)
    → (count : ℕ) → below k script ≤ count → count ≤ below (k + 1) script → Has f (filters_after real [] (take count (ps script)))
unfolding every_filters
throughout_to k script f h count from upto =
    let r = filter-Has (λ g. not (withdrawn g (within k script))) f (filters_held [] (before k script)) h in
    outside k count script f from upto
    (every_from (within k script) (at_first k script) f ((same_held k script f).0 r.0) (not-true (withdrawn f (within k script)) r.1) (count - below k script))

pub throughout_from : (k : ℕ) (script : Script) (f : List ConstraintParts)
    → ((count : ℕ) → below k script ≤ count → count ≤ below (k + 1) script → Has f (filters_after real [] (take count (ps script))))
    → Has f (every_filters k script)
unfolding every_filters
throughout_from k script f h =
    let r = every_to (within k script) (at_first k script) f (λ n l.
    subst (Has f) (at_count k n script (short k n script l))
    (h (below k script + n) (omega arith) (omega (arith, short k n script l, below_rises k script)))) in
    Has-filter (λ g. not (withdrawn g (within k script))) f (filters_held [] (before k script)) ((same_held k script f).1 r.0) (not_from_false (withdrawn f (within k script)) r.1)

pub record Sometime (k : ℕ) (script : Script) (f : List ConstraintParts) : Type 0 where
  pub count : ℕ
  pub from : below k script ≤ count
  pub upto : count ≤ below (k + 1) script
  pub listed : Has f (filters_after real [] (take count (ps script)))

pub sometime_to : (k : ℕ) (script : Script) (f : List ConstraintParts) → Has f (some_filters k script) → Sometime k script f
unfolding some_filters
sometime_to k script f h = go (some_from (within k script) (at_first k script) f (first (has-append f (filters_held [] (before k script)) (subscribed (within k script)) h)))
  where
    first : Has f (filters_held [] (before k script)) ⊎ Has f (subscribed (within k script)) → Has f (at_first k script) ⊎ Has f (subscribed (within k script))
    first (inl a) = inl ((same_held k script f).0 a)
    first (inr b) = inr b

    go : ((n : ℕ) × (n ≤ length (within k script)) × Has f (filters_after real (at_first k script) (take n (ps (within k script))))) → Sometime k script f
    go r = record {
      count = below k script + r.0;
      from = omega arith;
      upto = omega (arith, short k r.0 script r.1, below_rises k script);
      listed = subst (Has f) (sym (at_count k r.0 script (short k r.0 script r.1))) r.2;
    }

pub sometime_from : (k : ℕ) (script : Script) (f : List ConstraintParts) → Sometime k script f → Has f (some_filters k script)
unfolding some_filters
sometime_from k script f m =
    elim (some_to (within k script) (at_first k script) (m.count - below k script) f (inside k m.count script f m.from m.upto m.listed)) [
      | inl a ↦ has-append-left f (filters_held [] (before k script)) (subscribed (within k script)) ((same_held k script f).1 a)
      | inr b ↦ has-append-right f (filters_held [] (before k script)) (subscribed (within k script)) b
    ]
