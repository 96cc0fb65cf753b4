-- Proves that a worked run of flooding is legal and ends drained.
use Rattle.std.proofs.Common.{◌≡◌, ℕ, ◌==◌, ◌<◌, true, false, cond, List, [], ◌∷◌, ◌++◌, inl, inr, length, Some, None, refl, sym, subst, arith}
use Rattle.base.specs.Sets.{Has}
use Rattle.law_machine.specs.Runs.{IsRun, IsQuiet, IsThrough}
use Rattle.law_machine.specs.Walk.{IsRunByTurns, entries_by}
use Rattle.law_machine.proofs.Phases.{run-append}
use Rattle.law_machine.proofs.Tried.{entries-run}
use Rattle.law_phases.specs.Flooding.{flood_machine, flood_opening, FloodRun, EndsFlooded}
use Rattle.law_phases.proofs.Floods.{flood-laws}
use Rattle.law_examples.specs.Ranges.{ranges}
use Rattle.law_examples.specs.SmallNets.{advertised_until}
use Rattle.law_examples.specs.Flooding.{flooded_net, flooded_first, flooded_second, flooded_middle, flooded_after, flooded_journal}
use Rattle.law_examples.proofs.LawfulNets.{advertised_until-lawful}
use Rattle.law_examples.proofs.Phased.{single-laws}
use Rattle.base.proofs.Numbers.{each-of-three}

two-each : (P : ℕ → ℕ → Type 0) → P 1 1 → P 1 2 → ((b : ℕ) → (b == 1) ≡ false → (b == 2) ≡ false → P 1 b) → P 2 1 → P 2 2 → ((b : ℕ) → (b == 1) ≡ false → (b == 2) ≡ false → P 2 b) → ((a b : ℕ) → (a == 1) ≡ false → (a == 2) ≡ false → P a b) → (a b : ℕ) → P a b
two-each P p q r s t u v a b = each-of-three (λ a. P a b) (each-of-three (P 1) p q (r 3 refl refl) (λ b x y z. r b x y) b) (each-of-three (P 2) s t (u 3 refl refl) (λ b x y z. u b x y) b) (v 3 b refl refl) (λ a x y z. v a b x y) a

quiet-middle : IsQuiet (flood_machine ranges flooded_net) flooded_middle.network
quiet-middle = record {
  empty = two-each (λ a b. flooded_middle.network.taken a b ≡ length (flooded_middle.network.put a b)) refl refl (λ b x y. refl) refl refl (λ b x y. refl) (λ a b x y. simp (x, y) refl);
  calm = λ server h. refl;
}

through-middle : IsThrough (flood_machine ranges flooded_net) flooded_middle.network 1
through-middle server (inl e) = subst (λ z. (flood_machine ranges flooded_net).through z (flooded_middle.network.state z) 1 ≡ true) (sym e) refl
through-middle server (inr (inl e)) = subst (λ z. (flood_machine ranges flooded_net).through z (flooded_middle.network.state z) 1 ≡ true) (sym e) refl
through-middle server (inr (inr h)) = absurd h

first : IsRunByTurns (flood_machine ranges flooded_net) 0 flooded_first (record { network = flood_opening ranges flooded_net; phase = 0 })
first = entries-run (flood_machine ranges flooded_net) (flood-laws ranges flooded_net) 0 flooded_first (record { network = flood_opening ranges flooded_net; phase = 0 }) (inl refl)

second : IsRunByTurns (flood_machine ranges flooded_net) 1 flooded_second flooded_middle
second = entries-run (flood_machine ranges flooded_net) (flood-laws ranges flooded_net) 1 flooded_second flooded_middle (inr (omega arith, through-middle, quiet-middle))

pub legal : IsRun (flood_machine ranges flooded_net) (flood_opening ranges flooded_net) 0 flooded_journal flooded_after.network flooded_after.phase
legal =
    run-append (flood_machine ranges flooded_net) (flood_opening ranges flooded_net) 0 (entries_by (flood_machine ranges flooded_net) 0 (record { network = flood_opening ranges flooded_net; phase = 0 }) flooded_first)
    flooded_middle.network flooded_middle.phase (entries_by (flood_machine ranges flooded_net) 1 flooded_middle flooded_second) flooded_after.network flooded_after.phase first.0 second.0

abbrev pub run : FloodRun ranges
run = record { net = flooded_net; laws = single-laws ranges advertised_until advertised_until-lawful; journal = flooded_journal; end = flooded_after.network; last = flooded_after.phase; legal = legal }

quiet-after : IsQuiet (flood_machine ranges flooded_net) flooded_after.network
quiet-after = record {
  empty = two-each (λ a b. flooded_after.network.taken a b ≡ length (flooded_after.network.put a b)) refl refl (λ b x y. simp (x, y) refl) refl refl (λ b x y. simp (x, y) refl) (λ a b x y. simp (x, y) refl);
  calm = λ server h. refl;
}

pub drained : EndsFlooded ranges run
drained = record { quiet = quiet-after; taken = each-of-three (λ t. (c : ℕ) → Has c (flooded_net.clients t) → (flooded_after.network.state t).done c ≡ length (flooded_net.script c)) (alone 1 refl) (alone 2 refl) (λ c h. absurd h) (λ t x y z c h. absurd (rw (x, y) at h)) }
  where
    alone : (d : ℕ) → (flooded_after.network.state d).done d ≡ length (flooded_net.script d) → (c : ℕ) → Has c (d ∷ []) → (flooded_after.network.state d).done c ≡ length (flooded_net.script c)
    alone d e c (inl f) = subst (λ z. (flooded_after.network.state d).done z ≡ length (flooded_net.script z)) (sym f) e
    alone d e c (inr h) = absurd h
