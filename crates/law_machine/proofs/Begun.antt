-- Phases that have a command, one after the other, where each begins by any change of the network.
use Rattle.std.proofs.Common.{◌≡◌, ℕ, suc, ◌≤◌, ◌<◌, List, [], ◌∷◌, ◌++◌, ◌⊎◌, inl, inr, slice_get, Option, Some, None, refl, sym, ap, subst, ◌∙◌, arith}
use Rattle.law_machine.specs.Machine.{Has, Input, Does, Receives, Machine, Stamped, Entry, unstamped, act_of, act_phase}
use Rattle.law_machine.specs.Journals.{IsPrefix, Cell, IsInPhase, IsReplay, IsPhaseRun, network_of, IsMerge}
use Rattle.law_machine.specs.Network.{NetworkState, IsAvailable, IsStep}
use Rattle.law_machine.specs.Runs.{greatest, IsQuiet, IsThrough, MachineLaws}
use Rattle.law_machine.specs.Begin.{BeginLaws, IsReadyWith, IsRunWith, IsAfterPhase}
use Rattle.law_machine.proofs.Merge.{merged-parts}
use Rattle.law_machine.proofs.Stamps.{greatest-above, greatest-below}
use Rattle.law_machine.proofs.Order.{merge-join}
use Rattle.law_machine.proofs.Phases.{get-end, tells-between, has-own}
use Rattle.base.proofs.Sets.{has-append}

module _ (m : Machine) (laws : MachineLaws m) (begin : ℕ → ℕ → NetworkState m → NetworkState m) (rules : BeginLaws m begin) where
  run-more : (w : NetworkState m) (p : ℕ) (es : List (Entry m)) (v : NetworkState m) (q : ℕ) (fs : List (Entry m)) (x : NetworkState m) (y : ℕ) → IsRunWith m begin w p es v q → IsRunWith m begin v q fs x y → IsRunWith m begin w p (es ++ fs) x y
  run-more w p [] v q fs x y (e, f) r = subst (λ z. IsRunWith m begin z p fs x y) (sym e) (subst (λ z. IsRunWith m begin v z fs x y) (sym f) r)
  run-more w p (e ∷ es) v q fs x y (a, b, c, ready, s, rest) r = (a, b, c, ready, s, run-more b c es v q fs x y rest r)

  part-run : (k : ℕ) (w : NetworkState m) (es : List (Entry m)) (w' : NetworkState m) → IsPhaseRun m k w es w' → IsRunWith m begin w k es w' k
  part-run k w [] w' e = (e, refl)
  part-run k w (e ∷ es) w' (v, o, s, rest) = (w, v, k, ready (act_phase m e.server (w.state e.server) e.act) o, s, part-run k v es w' rest)
    where
      ready : (x : Option ℕ) → IsInPhase m k x → IsReadyWith m begin w k x w k
      ready None o = (refl, refl)
      ready (Some j) o = (o, inl (sym o, refl))

  begins : (k p : ℕ) (w : NetworkState m) → IsQuiet m w → IsThrough m w k → (p < k) ⊎ ((p ≡ k) × (begin p k w ≡ w)) → (e : Entry m) (v : NetworkState m) → IsStep m (begin p k w) e v → IsInPhase m k (act_phase m e.server ((begin p k w).state e.server) e.act) → IsReadyWith m begin w p (act_phase m e.server (w.state e.server) e.act) (begin p k w) k
  begins k p w quiet thr ph e v (d, r, s, q, given, after) o = go d s (ap (λ (z : Entry m). z.act) q) given
    where
      ready : (a : m.Task) (x : Option ℕ) → m.phase e.server ((begin p k w).state e.server) a ≡ x → m.step e.server ((begin p k w).state e.server) (Does a) ≡ Some r → IsInPhase m k x → IsReadyWith m begin w p x (begin p k w) k
      ready a None f s o = absurd (grind (arith, laws.table_update e.server ((begin p k w).state e.server) a r s f, (rules.quiet p k w quiet).calm e.server (laws.among e.server ((begin p k w).state e.server) (Does a) r s)))
      ready a (Some j) f s o = (o, elim ph [ inl l ↦ inr (omega (arith, o, l), subst (IsThrough m w) (sym o) thr, quiet, ap (λ z. begin p z w) o) | inr x ↦ inl (x.0 ∙ sym o, sym x.1) ])

      go : (d : Input m.Task (Stamped m.Message)) → m.step e.server ((begin p k w).state e.server) (unstamped m d) ≡ Some r → e.act ≡ act_of m d → IsAvailable m (begin p k w) e.server d → IsReadyWith m begin w p (act_phase m e.server (w.state e.server) e.act) (begin p k w) k
      go (Receives u x) s a given = absurd (get-end ((begin p k w).put u e.server) x (subst (λ z. slice_get ((begin p k w).put u e.server) z ≡ Some x) ((rules.quiet p k w quiet).empty u e.server) given))
      go (Does a) s b given = subst (λ z. IsReadyWith m begin w p (act_phase m e.server (w.state e.server) z) (begin p k w) k) (sym b)
          (subst (λ z. IsReadyWith m begin w p z (begin p k w) k) (rules.phase p k w e.server a)
          (ready a (m.phase e.server ((begin p k w).state e.server) a) refl s (subst (λ z. IsInPhase m k (act_phase m e.server ((begin p k w).state e.server) z)) b o)))

  goes-on : (k p : ℕ) (w : NetworkState m) → IsQuiet m w → IsThrough m w k → (p < k) ⊎ ((p ≡ k) × (begin p k w ≡ w)) → (es : List (Entry m)) → (es ≡ [] → ⊥) → (w' : NetworkState m) → IsPhaseRun m k (begin p k w) es w' → IsRunWith m begin w p es w' k
  goes-on k p w quiet thr ph [] some w' e = absurd (some refl)
  goes-on k p w quiet thr ph (e ∷ es) some w' (v, o, s, rest) = (begin p k w, v, k, begins k p w quiet thr ph e v s o, s, part-run k v es w' rest)

  -- a phase that has a command, with all its cells in hand
  pub next-begun : (opening w : NetworkState m) (p k : ℕ) (sofar : List (Entry m)) (journals : ℕ → List (Entry m)) → IsAfterPhase m begin opening w p k sofar journals → (p < k) ⊎ ((p ≡ k) × (begin p k w ≡ w))
      → (cells ends : ℕ → Cell m) → begin p k w ≡ network_of m cells → (fresh : ℕ → List (Entry m)) (all : List (Entry m)) → IsMerge m fresh all → (all ≡ [] → ⊥) → ((t : ℕ) → IsReplay m k t (cells t) (fresh t) (ends t))
      → ((u t : ℕ) → IsPrefix ((ends t).took u) ((ends u).put t)) → IsQuiet m (network_of m ends) → IsThrough m (network_of m ends) (suc k)
      → IsAfterPhase m begin opening (network_of m ends) k (suc k) (sofar ++ all) (λ t. journals t ++ fresh t)
  next-begun opening w p k sofar journals rests ph cells ends stand fresh all merge some tells pre quiet thr =
      let part : IsPhaseRun m k (begin p k w) all (network_of m ends) = subst (λ z. IsPhaseRun m k z all (network_of m ends)) (sym stand) (merged-parts m k all merge.order cells ends (λ t. subst (λ z. IsReplay m k t (cells t) z (ends t)) (sym (merge.parts t)) (tells t)) pre) in
      let clock : (t : ℕ) → greatest m w.clock m.servers ≡ (cells t).clock = λ t. sym (rules.clock p k w t) ∙ ap (λ (z : NetworkState m). z.clock t) stand in
      let between : (e : Entry m) → Has e all → ((cells e.server).clock < e.stamp) × (e.stamp ≤ (ends e.server).clock) × Has e.server m.servers =
      λ e h. (tells-between m laws k e.server (cells e.server) (fresh e.server) (ends e.server) (tells e.server)).1 e (has-own m fresh all merge e h) in
      let risen : greatest m w.clock m.servers ≤ greatest m (network_of m ends).clock m.servers =
      greatest-below m (greatest m (network_of m ends).clock m.servers) w.clock m.servers (λ t h. omega (arith, greatest-above m w.clock m.servers t h, clock t, (tells-between m laws k t (cells t) (fresh t) (ends t) (tells t)).0, greatest-above m (network_of m ends).clock m.servers t h)) in
      record {
        run = run-more opening 0 sofar w p all (network_of m ends) k rests.run (goes-on k p w rests.quiet rests.through ph all some (network_of m ends) part);
        merge = merge-join m journals fresh sofar all rests.merge merge (λ e f h g. omega (arith, rests.low e h, clock f.server, (between f g).0));
        low = λ e h. elim (has-append e sofar all h) [ inl x ↦ omega (arith, rests.low e x, risen) | inr x ↦ omega (arith, (between e x).1, greatest-above m (network_of m ends).clock m.servers e.server (between e x).2) ];
        quiet = quiet;
        through = thr;
      }
