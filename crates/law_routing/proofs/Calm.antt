-- What is installed now was held at the last calm moment.
use Rattle.std.proofs.Common.{◌≡◌, ℕ, suc, ◌≤◌, Bool, true, false, not, ◌||◌, List, inl, inr, refl, sym, ap, subst, ◌∙◌, arith}
use Rattle.law_machine.proofs.Numbers.{climb, last-where, last-since}
use Rattle.law_machine.specs.Machine.{at}
use Rattle.law_machine.specs.History.{IsHistory}
use Rattle.law_machine.proofs.Lists.{Same, Is, Not, compare}
use Rattle.base.specs.Sets.{same_list}
use Rattle.base.proofs.Sets.{same_list-equal}
use Rattle.law_routing.specs.Theory.{Theory, TheoryLaws}
use Rattle.law_routing.specs.Net.{Net}
use Rattle.law_routing.specs.Server.{ServerState}
use Rattle.law_routing.specs.Step.{Work, SetsFilters, SetsAdverts, Routes, InstallsTable, Nothing, effect}
use Rattle.law_routing.specs.Routing.{routing_machine, Network, NetEntry}
use Rattle.law_routing.specs.Works.{Works}
use Rattle.law_routing.specs.AsOf.{calm}
use Rattle.law_routing.proofs.Working.{state-here, state-other, NextWorks, next-works, all-along}

module _ (th : Theory) (laws : TheoryLaws th) (net : Net th) where
  abbrev Shown : ServerState th → Type 0
  Shown s = s.pending ≡ false → (i : ℕ) → s.installed i ≡ s.subs i

  shown-sets : (s : ServerState th) (i : ℕ) (set : List th.Filter) → Shown s → (b c : Bool) → s.pending ≡ b → same_list th.before (s.subs i) set ≡ c → (b || not c) ≡ false → (j : ℕ) → s.installed j ≡ at s.subs i set j
  shown-sets s i set sh true c e f g j = absurd cc
  shown-sets s i set sh false false e f g j = absurd cc
  shown-sets s i set sh false true e f g j = by (compare j i)
    where
      by : Same j i → s.installed j ≡ at s.subs i set j
      by (Is p v) = rw v (sh e j ∙ ap s.subs p ∙ same_list-equal laws.filters (s.subs i) set f)
      by (Not n v) = rw v (sh e j)

  shown-effect : (t : ℕ) (s : ServerState th) (k : Work th) → Shown s → Shown (effect th net t s k).state
  shown-effect t s (SetsFilters i set) sh = λ e. shown-sets s i set sh s.pending (same_list th.before (s.subs i) set) refl refl e
  shown-effect t s (SetsAdverts i set) sh = sh
  shown-effect t s (Routes i p o n) sh = sh
  shown-effect t s InstallsTable sh = λ e i. refl
  shown-effect t s Nothing sh = sh

  abbrev pub IsShown : Network th net → Type 0
  IsShown w = (t : ℕ) → Shown (w.state t)

  shown-next : (w : Network th net) (e : NetEntry th net) (v : Network th net) → Works th net w e v → IsShown w → IsShown v
  shown-next w e v x sh t = go (compare t e.server)
    where
      go : Same t e.server → Shown (v.state t)
      go (Not n f) = subst Shown (sym (state-other th net w e v x t n)) (sh t)
      go (Is p f) =
          let from : Shown x.from = λ g i. ap (λ z. z i) x.counts.installed ∙ sh e.server (sym x.counts.pending ∙ g) i ∙ ap (λ z. z i) (sym x.counts.subs) in
          subst Shown (sym (state-here th net w e v x t p)) (shown-effect e.server x.from x.work from)

  -- while something stays pending nothing is installed
  stays-effect : (t : ℕ) (s : ServerState th) (k : Work th) → (effect th net t s k).state.pending ≡ true → (effect th net t s k).state.installed ≡ s.installed
  stays-effect t s (SetsFilters i set) e = refl
  stays-effect t s (SetsAdverts i set) e = refl
  stays-effect t s (Routes i p o n) e = refl
  stays-effect t s InstallsTable e = absurd cc
  stays-effect t s Nothing e = refl

  stays-next : (w : Network th net) (e : NetEntry th net) (v : Network th net) → Works th net w e v → (t : ℕ) → (v.state t).pending ≡ true → (v.state t).installed ≡ (w.state t).installed
  stays-next w e v x t g = go (compare t e.server)
    where
      go : Same t e.server → (v.state t).installed ≡ (w.state t).installed
      go (Not n f) = ap (λ z. z.installed) (state-other th net w e v x t n)
      go (Is p f) =
          let here = state-here th net w e v x t p in
          ap (λ z. z.installed) here ∙ (stays-effect e.server x.from x.work (sym (ap (λ z. z.pending) here) ∙ g) ∙ (x.counts.installed ∙ ap (λ z. (w.state z).installed) (sym p)))

  module _ (J : List (NetEntry th net)) (h : ℕ → Network th net) (ph : ℕ → ℕ) (history : IsHistory (routing_machine th net) J h ph) (with_update : IsShown (h 0)) (none_pending : (t : ℕ) → ((h 0).state t).pending ≡ false) where
    shown-all : (n : ℕ) → IsShown (h n)
    shown-all = all-along th net J h ph history (λ n w. IsShown w) with_update (λ n f p. p) (λ n e v f x p. shown-next (h n) e v x p)

    stays : (n t : ℕ) → ((h (suc n)).state t).pending ≡ true → ((h (suc n)).state t).installed ≡ ((h n).state t).installed
    stays n t g = go (next-works th net J h ph history n)
      where
        go : NextWorks th net J h ph history n → ((h (suc n)).state t).installed ≡ ((h n).state t).installed
        go (inl (f, e)) = ap (λ z. (z.state t).installed) e
        go (inr (e, f, x)) = stays-next (h n) e (h (suc n)) x t g

    abbrev at_rest : ℕ → ℕ → Bool
    at_rest t x = not ((h x).state t).pending

    pub calm-low : (t m : ℕ) → calm th net h t m ≤ m
    calm-low t m = (last-where (at_rest t) m (rw (none_pending t) refl)).1

    -- what is installed now was held at the last calm moment
    pub installed-calm : (t m i : ℕ) → ((h m).state t).installed i ≡ ((h (calm th net h t m)).state t).subs i
    installed-calm t m i =
        let l = last-where (at_rest t) m (rw (none_pending t) refl) in
        climb (λ y. y ≤ m → ((h y).state t).installed i ≡ ((h (calm th net h t m)).state t).subs i) (calm th net h t m)
        (λ k. shown-all (calm th net h t m) t (grind (arith, l.0)) i)
        (λ y k ih b. ap (λ z. z i) (stays y t (grind (arith, l.2 (suc y) (omega arith) b))) ∙ ih (omega arith)) m l.1 (omega arith)

    -- a moment at which nothing is pending is not looked behind
    pub calm-since : (t b m : ℕ) → ((h b).state t).pending ≡ false → b ≤ m → b ≤ calm th net h t m
    calm-since t b m e l = last-since (at_rest t) m b (rw (none_pending t) refl) (rw e refl) l
