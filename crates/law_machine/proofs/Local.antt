-- What each step of a server keeps of its state holds of all servers along a run.
use Rattle.std.proofs.Common.{◌≡◌, ℕ, List, [], ◌∷◌, inl, inr, Option, Some, None, sym, subst}
use Rattle.law_machine.specs.Machine.{Machine, Input, Outcome, Stamped, Entry, unstamped, act_phase}
use Rattle.law_machine.specs.Network.{NetworkState, network_after}
use Rattle.law_machine.specs.Runs.{IsReady, IsRun}
use Rattle.law_machine.proofs.Lists.{Same, Is, Not, compare}

module _ (m : Machine) (P : ℕ → m.State → Type 0) (keeps : (t : ℕ) (s : m.State) (d : Input m.Task m.Message) (r : Outcome m.State m.Message) → m.step t s d ≡ Some r → P t s → P t r.state) where
  after-all : (w : NetworkState m) (t : ℕ) (d : Input m.Task (Stamped m.Message)) (r : Outcome m.State m.Message) → m.step t (w.state t) (unstamped m d) ≡ Some r → ((x : ℕ) → P x (w.state x)) → (x : ℕ) → P x ((network_after m w t d r).state x)
  after-all w t d r made all x = by (compare x t)
    where
      by : Same x t → P x ((network_after m w t d r).state x)
      by (Is e v) = rw v (subst (λ z. P z r.state) (sym e) (keeps t (w.state t) (unstamped m d) r made (all t)))
      by (Not n v) = rw v (all x)

  ready-all : (w : NetworkState m) (p : ℕ) (o : Option ℕ) (x : NetworkState m) (q : ℕ) → IsReady m w p o x q → ((t : ℕ) → P t (w.state t)) → (t : ℕ) → P t (x.state t)
  ready-all w p None x q (e, f) all = subst (λ (z : NetworkState m). (t : ℕ) → P t (z.state t)) e all
  ready-all w p (Some k) x q (e, inl f) all = subst (λ (z : NetworkState m). (t : ℕ) → P t (z.state t)) f.1 all
  ready-all w p (Some k) x q (e, inr f) all = subst (λ (z : NetworkState m). (t : ℕ) → P t (z.state t)) f.3 all

  pub local-run : (w : NetworkState m) (p : ℕ) (es : List (Entry m)) (v : NetworkState m) (q : ℕ) → IsRun m w p es v q → ((t : ℕ) → P t (w.state t)) → (t : ℕ) → P t (v.state t)
  local-run w p [] v q (e, f) all = subst (λ (z : NetworkState m). (t : ℕ) → P t (z.state t)) e all
  local-run w p (e ∷ es) v q (x, y, s, ready, (d, r, made, entry_of, given, after), rest) all =
      local-run y s es v q rest (subst (λ (z : NetworkState m). (t : ℕ) → P t (z.state t)) after (after-all x e.server d r made (ready-all w p (act_phase m e.server (w.state e.server) e.act) x s ready all)))
