-- What a session keeps is kept by its calls.
use Rattle.std.proofs.Common.{◌≡◌, ℕ, zero, suc, ◌≤◌, ◌<◌, Bool, true, false, cond, List, [], ◌∷◌, ◌++◌, length, map, take, slice_get, get_or, Option, Some, None, refl, sym, ap, subst, ◌∙◌, arith}
use Rattle.std.proofs.lemmas.Option.{same_Some, slice_get_within}
use Rattle.filter_text.specs.declared.command.Command.{Command}
use Rattle.filter_text.specs.Deliveries.{Delivery}
use Rattle.law_routing.specs.Theory.{Theory}
use Rattle.law_routing.specs.Net.{PhasedCommand}
use Rattle.law_routing.specs.Clients.{is_publish, ordinal, adverts_after, accepts, add_refused}
use Rattle.net_model.specs.Real.{real, real_laws}
use Rattle.net_model.specs.Meaning.{command_of, phased_command}
use Rattle.net_model.specs.Adding.{own_filters_step, own_adverts_step}
use Rattle.net_model.proofs.Adding.{accepts-same}
use Rattle.server_spec.specs.declared.planned.Planned.{Planned}
use Rattle.filter_text.specs.Messages.{Lists}
use Rattle.server_spec.specs.Inbox.{IsDelivery, AreDeliveries}
use Rattle.server_spec.specs.Session.{SessionParts, session_parts, IsSession, first_commands, filters_at, adverts_at, publishes_at, refused_at, net_under}
use Rattle.server_spec.specs.Plan.{plan_in, next_plan}
use Rattle.server_spec.specs.Own.{own_plan, filters_by, adverts_by, refusals_by, publishes_by}
use Rattle.server_spec.proofs.Planning.{filters-done, adverts-done, refused-done, publishes-done, next-filters, next-adverts, next-publishes, next-refused, plan-own}

-- no part of a list has more publishes
pub ordinal-take : (th : Theory) (cs : List (PhasedCommand th)) (j : ℕ) → ordinal th (take j cs) ≤ ordinal th cs
ordinal-take th [] zero = omega arith
ordinal-take th [] (suc j) = omega arith
ordinal-take th (c ∷ cs) zero = omega arith
ordinal-take th (c ∷ cs) (suc j) = go (is_publish th c.command) (ordinal-take th cs j)
  where
    go : (b : Bool) → ordinal th (take j cs) ≤ ordinal th cs → cond b (suc (ordinal th (take j cs))) (ordinal th (take j cs)) ≤ cond b (suc (ordinal th cs)) (ordinal th cs)
    go true l = omega (arith, l)
    go false l = l

more-deliveries : (inbox : List Delivery) (d : Delivery) → AreDeliveries inbox → IsDelivery d → AreDeliveries (inbox ++ d ∷ [])
more-deliveries [] d all one = (one, tt)
more-deliveries (x ∷ xs) d all one = (all.0, more-deliveries xs d all.1 one)

module _ (s : SessionParts) (fs xs : Lists) (rs : List ℕ) (p : ℕ) (kept : IsSession s fs xs rs p) where
  pub publishes-few : p ≤ 100000
  publishes-few = omega (arith, kept.counted, ordinal-take real (map phased_command s.script) s.taken, kept.few)

  pub delivered : (d : Delivery) (room : ℕ) → IsDelivery d → IsSession (session_parts s.client s.semantics s.script s.taken (s.inbox ++ d ∷ []) room s.planned) fs xs rs p
  delivered d room one = record {
    own_filters = kept.own_filters;
    own_adverts = kept.own_adverts;
    all_refused = kept.all_refused;
    counted = kept.counted;
    few = kept.few;
    within = kept.within;
    texts = more-deliveries s.inbox d kept.texts one;
  }

  module _ (step : ℕ × Command) (at : slice_get s.script s.taken ≡ Some step) where
    by-lists : own_plan s.client s.semantics (filters_at s s.taken) (adverts_at s s.taken) (publishes_at s s.taken) step.1 ≡ own_plan s.client s.semantics fs xs p step.1
    by-lists =
        ap (λ l. own_plan s.client s.semantics l (adverts_at s s.taken) (publishes_at s s.taken) step.1) (sym kept.own_filters)
        ∙ ap (λ l. own_plan s.client s.semantics fs l (publishes_at s s.taken) step.1) (sym kept.own_adverts)
        ∙ ap (λ n. own_plan s.client s.semantics fs xs n step.1) (sym kept.counted)

    pub planned-is : next_plan s ≡ Some (own_plan s.client s.semantics fs xs p step.1)
    planned-is = plan-own s step at ∙ ap (λ plan. Some plan) by-lists

    same-accepted : (n : real.Notice) → accepts real (net_under s.semantics) (adverts_at s s.taken) n ≡ accepts real (net_under s.semantics) (adverts_after real [] (first_commands s s.taken)) n
    same-accepted n = accepts-same real real_laws (net_under s.semantics) (first_commands s s.taken) n

    done : IsSession (session_parts s.client s.semantics s.script (suc s.taken) s.inbox s.room false) (filters_by (own_plan s.client s.semantics fs xs p step.1) fs) (adverts_by (own_plan s.client s.semantics fs xs p step.1) xs) (refusals_by (own_plan s.client s.semantics fs xs p step.1) rs) (publishes_by (own_plan s.client s.semantics fs xs p step.1) p)
    done = record {
      own_filters = filters-done s.client s.semantics fs xs p step.1 ∙ ap (λ l. own_filters_step real l (command_of step.1)) kept.own_filters ∙ sym (next-filters s step at);
      own_adverts = adverts-done s.client s.semantics fs xs p step.1 ∙ ap (λ l. own_adverts_step real l (command_of step.1)) kept.own_adverts ∙ sym (next-adverts s step at);
      all_refused = refusals;
      counted = publishes-done s.client s.semantics fs xs p step.1 ∙ ap (λ n. cond (is_publish real (command_of step.1)) (suc n) n) kept.counted ∙ sym (next-publishes s step at);
      few = kept.few;
      within = slice_get_within s.script s.taken step at;
      texts = kept.texts;
    }
      where
        refusals : refusals_by (own_plan s.client s.semantics fs xs p step.1) rs ≡ refused_at s (suc s.taken)
        refusals =
            ap (λ plan. refusals_by plan rs) (sym by-lists)
            ∙ refused-done s.client s.semantics (filters_at s s.taken) (adverts_at s s.taken) (adverts_after real [] (first_commands s s.taken)) (publishes_at s s.taken) step.1 same-accepted rs
            ∙ ap (λ os. os ++ add_refused real (net_under s.semantics) (adverts_after real [] (first_commands s s.taken)) (publishes_at s s.taken) (command_of step.1) []) kept.all_refused
            ∙ sym (next-refused s step at)

  -- a plan has its command
  command-of-plan : (plan : Planned) → next_plan s ≡ Some plan → (step : ℕ × Command) × (slice_get s.script s.taken ≡ Some step) × (plan ≡ own_plan s.client s.semantics fs xs p step.1)
  command-of-plan plan e = go (slice_get s.script s.taken) refl
    where
      go : (o : Option (ℕ × Command)) → slice_get s.script s.taken ≡ o → (step : ℕ × Command) × (slice_get s.script s.taken ≡ Some step) × (plan ≡ own_plan s.client s.semantics fs xs p step.1)
      go None w = absurd (bad (sym e ∙ ap (plan_in s) w))
        where
          bad : Some plan ≡ None → ⊥
          bad q = cc
      go (Some step) w = (step, w, same_Some _ _ (sym e ∙ planned-is step w))

  pub committed : (plan : Planned) → next_plan s ≡ Some plan → (taken : ℕ) → taken ≡ suc s.taken → IsSession (session_parts s.client s.semantics s.script taken s.inbox s.room false) (filters_by plan fs) (adverts_by plan xs) (refusals_by plan rs) (publishes_by plan p)
  committed plan e taken t =
      let w = command-of-plan plan e in
      let P : ℕ → Planned → Type 0 = λ n q. IsSession (session_parts s.client s.semantics s.script n s.inbox s.room false) (filters_by q fs) (adverts_by q xs) (refusals_by q rs) (publishes_by q p) in
      subst (λ n. P n plan) (sym t) (subst (P (suc s.taken)) (sym w.2) (done w.0 w.1))
