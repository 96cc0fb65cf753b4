-- A client's advertisements at each moment of a phase.
use Rattle.std.proofs.Common.{◌≡◌, ℕ, ◌+◌, ◌-◌, ◌≤◌, not, List, [], take, drop, length, sym, ap, subst, ◌∙◌, arith}
use Rattle.base.specs.Sets.{Has}
use Rattle.base.proofs.Roots.{Has-filter, filter-Has}
use Rattle.filter_constraints.specs.Constraint.{ConstraintParts}
use Rattle.law_routing.specs.Clients.{adverts_after}
use Rattle.net_model.specs.Real.{real}
use Rattle.filter_text.specs.Messages.{Lists}
use Rattle.output_flood.specs.Held.{Script, below, before, within, held_adverts, unadvertised, every_adverts}
use Rattle.output_flood.proofs.Below.{below_rises}
use Rattle.output_flood.proofs.Moments.{Same, ps, take_most, at_moment, take_ps}
use Rattle.output_flood.proofs.OwnAdverts.{held_adverts_same, after_append, every_to, every_from}
use Rattle.std.proofs.lemmas.Bool.{not-true, not_from_false}

abbrev at_first : ℕ → Script → Lists
at_first k script = adverts_after real [] (ps (before k script))

same_held : (k : ℕ) (script : Script) → Same (held_adverts [] (before k script)) (at_first k script)
same_held k script = held_adverts_same (before k script) [] [] (λ x. ((λ h. h), (λ h. h)))

at_count : (k n : ℕ) (script : Script) → n ≤ below (k + 1) script - below k script
    → adverts_after real [] (take (below k script + n) (ps script)) ≡ adverts_after real (at_first k script) (take n (ps (within k script)))
at_count k n script l =
    ap (adverts_after real []) (at_moment k n script l)
    ∙ after_append (before k script) (take n (within k script)) []
    ∙ ap (adverts_after real (at_first k script)) (take_ps n (within k script))

short : (k n : ℕ) (script : Script) → n ≤ length (within k script) → n ≤ below (k + 1) script - below k script
short k n script l = omega (arith, l, take_most (below (k + 1) script - below k script) (drop (below k script) script))

outside : (k count : ℕ) (script : Script) (f : List ConstraintParts) → below k script ≤ count → count ≤ below (k + 1) script
    → Has f (adverts_after real (at_first k script) (take (count - below k script) (ps (within k script)))) → Has f (adverts_after real [] (take count (ps script)))
outside k count script f from upto h =
    subst (λ z. Has f (adverts_after real [] (take z (ps script)))) (back (below k script) count from)
    (subst (Has f) (sym (at_count k (count - below k script) script (omega (arith, from, upto)))) h)
  where
    back : (b count : ℕ) → b ≤ count → b + (count - b) ≡ count
    back b count from = omega (arith, from)

pub throughout_to : (k : ℕ) (script : Script) (f : List ConstraintParts) → Has f (every_adverts k script)
    → (count : ℕ) → below k script ≤ count → count ≤ below (k + 1) script → Has f (adverts_after real [] (take count (ps script)))
unfolding every_adverts
throughout_to k script f h count from upto =
    let r = filter-Has (λ g. not (unadvertised g (within k script))) f (held_adverts [] (before k script)) h in
    outside k count script f from upto
    (every_from (within k script) (at_first k script) f ((same_held k script f).0 r.0) (not-true (unadvertised f (within k script)) r.1) (count - below k script))

pub throughout_from : (k : ℕ) (script : Script) (f : List ConstraintParts)
    → ((count : ℕ) → below k script ≤ count → count ≤ below (k + 1) script → Has f (adverts_after real [] (take count (ps script))))
    → Has f (every_adverts k script)
unfolding every_adverts
throughout_from k script f h =
    let r = every_to (within k script) (at_first k script) f (λ n l.
    subst (Has f) (at_count k n script (short k n script l))
    (h (below k script + n) (omega arith) (omega (arith, short k n script l, below_rises k script)))) in
    Has-filter (λ g. not (unadvertised g (within k script))) f (held_adverts [] (before k script)) ((same_held k script f).1 r.0) (not_from_false (unadvertised f (within k script)) r.1)
