-- Proves that the merges of the phases, one after the other, are the merge of the whole run.
use Rattle.std.proofs.Common.{◌≡◌, ℕ, suc, ◌+◌, ◌≤◌, ◌<◌, ◌==◌, Bool, true, false, cond, List, [], ◌∷◌, ◌++◌, ◌⊎◌, inl, inr, length, slice_get, Option, Some, None, refl, sym, ap, subst, ◌∙◌, arith}
use Rattle.law_machine.specs.Machine.{Has, Input, Does, Receives, Machine, Stamped, Entry, unstamped, act_of, next_stamp, act_phase}
use Rattle.law_machine.specs.Journals.{IsPrefix, Cell, cell_after, IsInPhase, IsReplay, IsPhaseRun, network_of, entries_of, IsMerge, entering, IsBetweenPhases}
use Rattle.law_machine.specs.Network.{NetworkState, IsAvailable, IsStep}
use Rattle.law_machine.specs.Runs.{greatest, raised, IsQuiet, IsThrough, IsReady, IsRun, MachineLaws, HasStampsUpTo}
use Rattle.law_machine.proofs.Merge.{of-mine, merged-parts}
use Rattle.law_machine.proofs.Stamps.{greatest-above, greatest-below, run-stamps}
use Rattle.law_machine.proofs.Order.{merge-join}
use Rattle.base.proofs.Sets.{has-append}

pub get-end : {X : Type 0} (xs : List X) (x : X) → slice_get xs (length xs) ≡ Some x → ⊥
get-end [] x e = absurd cc
get-end (y ∷ xs) x e = get-end xs x e

module _ (m : Machine) where
  greatest-flat : (f : ℕ → ℕ) (xs : List ℕ) → greatest m (λ t. greatest m f xs) xs ≡ greatest m f xs
  greatest-flat f [] = refl
  greatest-flat f (y ∷ xs) = omega (arith, greatest-below m (greatest m f (y ∷ xs)) (λ t. greatest m f (y ∷ xs)) xs (λ x h. omega arith))

  pub raised-twice : (w : NetworkState m) → raised m (raised m w) ≡ raised m w
  raised-twice w = λ i. record { state = w.state; clock = λ t. greatest-flat w.clock m.servers i; put = w.put; taken = w.taken }

  pub run-append : (w : NetworkState m) (p : ℕ) (es : List (Entry m)) (v : NetworkState m) (q : ℕ) (fs : List (Entry m)) (x : NetworkState m) (y : ℕ) → IsRun m w p es v q → IsRun m v q fs x y → IsRun m w p (es ++ fs) x y
  run-append w p [] v q fs x y (e, f) r = subst (λ z. IsRun m z p fs x y) (sym e) (subst (λ z. IsRun m v z fs x y) (sym f) r)
  run-append w p (e ∷ es) v q fs x y (a, b, c, ready, s, rest) r = (a, b, c, ready, s, run-append b c es v q fs x y rest r)

  -- within a phase that has begun the rule asks nothing more
  pub part-run : (k : ℕ) (w : NetworkState m) (es : List (Entry m)) (w' : NetworkState m) → IsPhaseRun m k w es w' → IsRun m w k es w' k
  part-run k w [] w' e = (e, refl)
  part-run k w (e ∷ es) w' (v, o, s, rest) = (w, v, k, ready (act_phase m e.server (w.state e.server) e.act) o, s, part-run k v es w' rest)
    where
      ready : (x : Option ℕ) → IsInPhase m k x → IsReady m w k x w k
      ready None o = (refl, refl)
      ready (Some j) o = (o, inl (sym o, refl))

  -- the first entry of a phase that begins at rest is a command
  begins : MachineLaws m → (k p : ℕ) (w : NetworkState m) → IsQuiet m w → IsThrough m w k → (p < k) ⊎ ((p ≡ k) × (raised m w ≡ w)) → (e : Entry m) (v : NetworkState m) → IsStep m (raised m w) e v → IsInPhase m k (act_phase m e.server (w.state e.server) e.act) → IsReady m w p (act_phase m e.server (w.state e.server) e.act) (raised m w) k
  begins laws k p w quiet thr ph e v (d, r, s, q, given, after) o = go d s (ap (λ (z : Entry m). z.act) q) given
    where
      ready : (a : m.Task) (x : Option ℕ) → m.phase e.server (w.state e.server) a ≡ x → m.step e.server (w.state e.server) (Does a) ≡ Some r → IsInPhase m k x → IsReady m w p x (raised m w) k
      ready a None f s o = absurd (grind (arith, laws.table_update e.server (w.state e.server) a r s f, quiet.calm e.server (laws.among e.server (w.state e.server) (Does a) r s)))
      ready a (Some j) f s o = (o, elim ph [ inl l ↦ inr (omega (arith, o, l), subst (IsThrough m w) (sym o) thr, quiet, refl) | inr x ↦ inl (x.0 ∙ sym o, sym x.1) ])

      go : (d : Input m.Task (Stamped m.Message)) → m.step e.server (w.state e.server) (unstamped m d) ≡ Some r → e.act ≡ act_of m d → IsAvailable m (raised m w) e.server d → IsReady m w p (act_phase m e.server (w.state e.server) e.act) (raised m w) k
      go (Receives u x) s a given = absurd (get-end (w.put u e.server) x (subst (λ z. slice_get (w.put u e.server) z ≡ Some x) (quiet.empty u e.server) given))
      go (Does a) s b given = subst (λ z. IsReady m w p (act_phase m e.server (w.state e.server) z) (raised m w) k) (sym b)
          (ready a (m.phase e.server (w.state e.server) a) refl s (subst (λ z. IsInPhase m k (act_phase m e.server (w.state e.server) z)) b o))

  -- the part of a phase goes on from a state at rest
  pub goes-on : MachineLaws m → (k p : ℕ) (w : NetworkState m) → IsQuiet m w → IsThrough m w k → (p < k) ⊎ ((p ≡ k) × (raised m w ≡ w)) → (es : List (Entry m)) (w' : NetworkState m) → IsPhaseRun m k (raised m w) es w'
      → (v : NetworkState m) × (q : ℕ) × IsRun m w p es v q × (raised m v ≡ raised m w') × (q ≤ k)
  goes-on laws k p w quiet thr ph [] w' e = (w, p, (refl, refl), sym (raised-twice w) ∙ ap (raised m) e, elim ph [ inl l ↦ omega (arith, l) | inr x ↦ omega (arith, x.0) ])
  goes-on laws k p w quiet thr ph (e ∷ es) w' (v, o, s, rest) = (w', k, (raised m w, v, k, begins laws k p w quiet thr ph e v s o, s, part-run k v es w' rest), refl, omega arith)

  -- stamps rise from the clock before to the clock after
  pub tells-between : MachineLaws m → (k t : ℕ) (c : Cell m) (es : List (Entry m)) (c' : Cell m) → IsReplay m k t c es c' → (c.clock ≤ c'.clock) × ((e : Entry m) → Has e es → (c.clock < e.stamp) × (e.stamp ≤ c'.clock) × Has t m.servers)
  tells-between laws k t c [] c' e = (omega (arith, ap (λ (z : Cell m). z.clock) e), λ e h. absurd h)
  tells-between laws k t c (e ∷ es) c' (o, d, r, s, q, rest) =
      let ih = tells-between laws k t (cell_after m c d r) es c' rest in
      let up : c.clock < next_stamp m c.clock d = more d in
      let first : e.stamp ≡ next_stamp m c.clock d = ap (λ (z : Entry m). z.stamp) q in
      let there : Has t m.servers = laws.among t c.state (unstamped m d) r s in
      (omega (arith, ih.0, up), λ f h. elim h [ inl g ↦ (omega (arith, ap (λ (z : Entry m). z.stamp) g, first, up), omega (arith, ap (λ (z : Entry m). z.stamp) g, first, ih.0), there) | inr g ↦ (omega (arith, (ih.1 f g).0, up), (ih.1 f g).1, there) ])
    where
      more : (d : Input m.Task (Stamped m.Message)) → c.clock < next_stamp m c.clock d
      more (Does a) = omega arith
      more (Receives u s) = omega arith

  pub has-own : (fresh : ℕ → List (Entry m)) (all : List (Entry m)) → IsMerge m fresh all → (e : Entry m) → Has e all → Has e (fresh e.server)
  has-own fresh all merge e h = subst (Has e) (merge.parts e.server) (mine all h)
    where
      mine : (xs : List (Entry m)) → Has e xs → Has e (entries_of m e.server xs)
      mine [] h = absurd h
      mine (x ∷ xs) (inl q) = subst (λ z. Has e (entries_of m e.server (z ∷ xs))) q (subst (Has e) (sym (of-mine m e xs)) (inl refl))
      mine (x ∷ xs) (inr h) = go (x.server == e.server) (mine xs h)
        where
          go : (b : Bool) → Has e (entries_of m e.server xs) → Has e (cond b (x ∷ entries_of m e.server xs) (entries_of m e.server xs))
          go true h = inr h
          go false h = h

  module _ (laws : MachineLaws m) (opening w : NetworkState m) (p k : ℕ) (sofar : List (Entry m)) (journals : ℕ → List (Entry m)) (cells : ℕ → Cell m) (stands : IsBetweenPhases m opening w p k sofar journals cells)
      (fresh : ℕ → List (Entry m)) (all : List (Entry m)) (ends : ℕ → Cell m) (merge : IsMerge m fresh all) (tells : (t : ℕ) → IsReplay m k t (cells t) (fresh t) (ends t)) where
    clock-at : (t : ℕ) → greatest m w.clock m.servers ≡ (cells t).clock
    clock-at t = ap (λ (z : NetworkState m). z.clock t) stands.stand

    in-fresh : (e : Entry m) → Has e all → Has e (fresh e.server)
    in-fresh = has-own fresh all merge

    between : (e : Entry m) → Has e all → ((cells e.server).clock < e.stamp) × (e.stamp ≤ (ends e.server).clock) × Has e.server m.servers
    between e h = (tells-between laws k e.server (cells e.server) (fresh e.server) (ends e.server) (tells e.server)).1 e (in-fresh e h)

    apart : (e f : Entry m) → Has e sofar → Has f all → e.stamp < f.stamp
    apart e f h g = omega (arith, stands.low e h, clock-at f.server, (between f g).0)

    risen : greatest m w.clock m.servers ≤ greatest m (network_of m ends).clock m.servers
    risen = greatest-below m (greatest m (network_of m ends).clock m.servers) w.clock m.servers (λ t h. omega (arith, greatest-above m w.clock m.servers t h, clock-at t, (tells-between laws k t (cells t) (fresh t) (ends t) (tells t)).0, greatest-above m (network_of m ends).clock m.servers t h))

    -- where all cells are in hand, the journals of the phase are a run that goes on from the run so far
    pub next-phase : ((u t : ℕ) → IsPrefix ((ends t).took u) ((ends u).put t)) → IsQuiet m (network_of m ends) → IsThrough m (network_of m ends) (suc k)
        → (v : NetworkState m) × (q : ℕ) × IsBetweenPhases m opening v q (suc k) (sofar ++ all) (λ t. journals t ++ fresh t) (entering m (greatest m (network_of m ends).clock m.servers) ends)
    next-phase pre quiet thr =
        let part : IsPhaseRun m k (raised m w) all (network_of m ends) = subst (λ z. IsPhaseRun m k z all (network_of m ends)) (sym stands.stand) (merged-parts m k all merge.order cells ends (λ t. subst (λ z. IsReplay m k t (cells t) z (ends t)) (sym (merge.parts t)) (tells t)) pre) in
        let on = goes-on laws k p w stands.quiet stands.through stands.phase all (network_of m ends) part in
        let top : greatest m on.0.clock m.servers ≡ greatest m (network_of m ends).clock m.servers = ap (λ (z : NetworkState m). z.clock 0) on.3 in
        let calm : IsQuiet m (raised m on.0) = subst (IsQuiet m) (sym on.3) (record { empty = quiet.empty; calm = quiet.calm }) in (
          on.0,
          on.1,
          record {
            run = run-append opening 0 sofar w p all on.0 on.1 stands.run on.2;
            merge = merge-join m journals fresh sofar all stands.merge merge apart;
            low = λ e h. elim (has-append e sofar all h) [ inl x ↦ omega (arith, stands.low e x, risen, top) | inr x ↦ omega (arith, (between e x).1, greatest-above m (network_of m ends).clock m.servers e.server (between e x).2, top) ];
            stand = on.3;
            quiet = record { empty = calm.empty; calm = calm.calm };
            through = subst (λ (z : NetworkState m). IsThrough m z (suc k)) (sym on.3) thr;
            phase = inl (omega (arith, on.4));
          },
        )

    -- with all cells in hand, settled, no clock and no message has a stamp above the number of entries
    pub not-worn : HasStampsUpTo m 0 opening → ((u t : ℕ) → IsPrefix ((ends t).took u) ((ends u).put t))
        → ((t : ℕ) → Has t m.servers → (ends t).clock ≤ length (sofar ++ all)) × ((u t : ℕ) (s : Stamped m.Message) → Has s ((ends u).put t) → s.stamp ≤ length (sofar ++ all))
    not-worn low pre =
        let part : IsPhaseRun m k (raised m w) all (network_of m ends) = subst (λ z. IsPhaseRun m k z all (network_of m ends)) (sym stands.stand) (merged-parts m k all merge.order cells ends (λ t. subst (λ z. IsReplay m k t (cells t) z (ends t)) (sym (merge.parts t)) (tells t)) pre) in
        let on = goes-on laws k p w stands.quiet stands.through stands.phase all (network_of m ends) part in
        let b = (run-stamps m 0 opening 0 (sofar ++ all) on.0 on.1 (run-append opening 0 sofar w p all on.0 on.1 stands.run on.2) low).0 in
        let top : greatest m on.0.clock m.servers ≡ greatest m (network_of m ends).clock m.servers = ap (λ (z : NetworkState m). z.clock 0) on.3 in (
          λ t h. omega (arith, greatest-above m (network_of m ends).clock m.servers t h, top, greatest-below m (0 + length (sofar ++ all)) on.0.clock m.servers (λ x i. b.clocks x)),
          λ u t s h. omega (arith, b.puts u t s (subst (λ (z : NetworkState m). Has s (z.put u t)) (sym on.3) h)),
        )
