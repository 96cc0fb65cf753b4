-- A run that ends quiet and through with all phases is drained.
use Rattle.std.proofs.Common.{◌≡◌, ℕ, suc, ◌≤◌, ◌<◌, nat_lt, Bool, true, false, cond, List, [], ◌∷◌, length, slice_get, Option, Some, None, refl, ap, subst, arith}
use Rattle.law_machine.specs.Machine.{Has}
use Rattle.law_machine.specs.Runs.{IsQuiet, IsThrough}
use Rattle.law_routing.specs.Theory.{Theory, TheoryLaws}
use Rattle.law_routing.specs.Net.{PhasedCommand}
use Rattle.law_routing.specs.Routing.{not_below, routing_machine, Network}
use Rattle.law_routing.specs.LegalRun.{LegalRun, states, phases}
use Rattle.law_routing.specs.Rest.{IsDrained}
use Rattle.law_routing.specs.Clients.{commands_below}
use Rattle.law_routing.proofs.Started.{history, ends, starts, low}
use Rattle.law_routing.proofs.Idle.{get-none}
use Rattle.law_routing.proofs.Scripts.{through-one}
use Rattle.law_routing.proofs.Begins.{through-client}
use Rattle.law_routing.proofs.Current.{upto}
use Rattle.base.proofs.Sets.{get-has}

module _ (th : Theory) where
  pub below-length : (k : ℕ) (cs : List (PhasedCommand th)) → commands_below th k cs ≤ length cs
  below-length k [] = omega arith
  below-length k (c ∷ cs) = go (nat_lt c.phase k) (below-length k cs)
    where
      go : (b : Bool) → commands_below th k cs ≤ length cs → cond b (suc (commands_below th k cs)) (commands_below th k cs) ≤ suc (length cs)
      go true l = omega (arith, l)
      go false l = omega (arith, l)

module _ (th : Theory) (laws : TheoryLaws th) (run : LegalRun th) where
  pub drained-run : (k : ℕ) → ((c : ℕ) (x : PhasedCommand th) → Has x (run.net.script c) → x.phase < k) → IsQuiet (routing_machine th run.net) run.end → IsThrough (routing_machine th run.net) run.end k → IsDrained th run.net run.end
  drained-run k all quiet through = record { quiet = quiet; taken = taken }
    where
      none : (c : ℕ) (o : Option (PhasedCommand th)) (j : ℕ) → slice_get (run.net.script c) j ≡ o → not_below th run.net k (slice_get (run.net.script c) j) ≡ true → slice_get (run.net.script c) j ≡ None
      none c None j e f = e
      none c (Some x) j e f = absurd (omega (arith, all c x (get-has (run.net.script c) j x e), through-one th run.net k (slice_get (run.net.script c) j) x f e))

      taken : (t c : ℕ) → Has c (run.net.clients t) → (run.end.state t).done c ≡ length (run.net.script c)
      taken t c lives =
          let here : Has t run.net.servers = subst (λ z. Has z run.net.servers) (run.laws.lives t c lives) (run.laws.housed c) in
          let past = through-client th laws run.net run.laws run.journal (states th run) (phases th run) (history th laws run) run.begins.rest (run.end.state t) k c (run.net.clients t) lives (through t here) in
          let most = upto th laws run.net run.laws run.journal (states th run) (phases th run) (history th laws run) run.begins.rest (starts th laws run) run.laws.phased (low th laws run) (length run.journal) t c lives in
          let high = below-length th (suc (phases th run (length run.journal))) (run.net.script c) in
          omega (arith, most, high, ap (λ (z : Network th run.net). (z.state t).done c) (ends th laws run), get-none (run.net.script c) ((run.end.state t).done c) (none c (slice_get (run.net.script c) ((run.end.state t).done c)) ((run.end.state t).done c) refl past))
