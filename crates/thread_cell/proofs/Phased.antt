-- The next command of a client, and its phase.
use Rattle.std.proofs.Common.{◌≡◌, ◌↔◌, ◌<◌, ◌≤◌, nat_le, true, ℕ, length, Some, slice_get, sym, ap, subst, ◌∙◌, arith}
use Rattle.std.proofs.lemmas.Bool.Decides.{nat_tests}
use Rattle.std.proofs.lemmas.Option.{same_Some}
use Rattle.base.specs.Sets.{Has}
use Rattle.filter_text.specs.declared.command.Command.{Command}
use Rattle.server_spec.specs.Session.{SessionParts}
use Rattle.server_core.specs.Core.{CoreParts}
use Rattle.thread_cell.specs.Kept.{IsSomeServer}
use Rattle.thread_cell.specs.Cell.{IsPast}
use Rattle.thread_cell.specs.Turns.{HasCommand}
use Rattle.thread_cell.proofs.Places.{below-found}
use Rattle.thread_cell.proofs.Routes.{one-session, distinct}

module _ (core : CoreParts) (client phase : ℕ) (some : IsSomeServer core) (s : SessionParts) (has : Has s core.clients) (is : s.client ≡ client) where
  -- a client has one session
  same-session : (t : SessionParts) → Has t core.clients → t.client ≡ client → t ≡ s
  same-session t h e = one-session core.clients t s (distinct core some) h has (e ∙ sym is)

  -- the next command is of the phase
  pub of-phase : (c : ℕ × Command) → slice_get s.script s.taken ≡ Some c → (c.0 ≡ phase) ↔ HasCommand core client phase
  of-phase c e = ((λ q. (s, has, is, (c, e, q))), from)
    where
      from : HasCommand core client phase → c.0 ≡ phase
      from (t, h, q, (d, f, own)) =
          let g : slice_get s.script s.taken ≡ Some d = subst (λ (z : SessionParts). slice_get z.script z.taken ≡ Some d) (same-session t h q) f in
          ap (λ (z : ℕ × Command). z.0) (same_Some c d (sym e ∙ g)) ∙ own

  -- there is a next command
  pub left-of : HasCommand core client phase → s.taken < length s.script
  left-of (t, h, q, (d, f, own)) = below-found s.taken s.script d (subst (λ (z : SessionParts). slice_get z.script z.taken ≡ Some d) (same-session t h q) f)

  -- the client is past a phase where its next command is of that one or a later one, or there is none
  pub past-by : (c : ℕ × Command) → slice_get s.script s.taken ≡ Some c → nat_le phase c.0 ≡ true → IsPast phase client core.clients
  past-by c e t z d h q f =
      let g : slice_get s.script s.taken ≡ Some d = subst (λ (z : SessionParts). slice_get z.script z.taken ≡ Some d) (same-session z h q) f in
      subst (λ (w : ℕ × Command). phase ≤ w.0) (same_Some c d (sym e ∙ g)) (grind (arith, nat_tests, t))

  pub past-next : (c : ℕ × Command) → slice_get s.script s.taken ≡ Some c → IsPast phase client core.clients → nat_le phase c.0 ≡ true
  past-next c e past = let le = past s c has is e in grind (arith, nat_tests, le)

  pub past-none : (s.taken < length s.script → ⊥) → IsPast phase client core.clients
  past-none none z d h q f = absurd (none (below-found s.taken s.script d (subst (λ (z : SessionParts). slice_get z.script z.taken ≡ Some d) (same-session z h q) f)))

-- so each session of the client has one left
pub left-all : (core : CoreParts) (client phase : ℕ) → IsSomeServer core → HasCommand core client phase → (s : SessionParts) → Has s core.clients → s.client ≡ client → s.taken < length s.script
left-all core client phase some due s has is = left-of core client phase some s has is due
