-- A planned change turns the set that a server holds of a client into the next one, and what is refused depends on the semantics alone.
use Rattle.std.proofs.Common.{◌≡◌, ℕ, suc, Bool, true, false, cond, [], slice_get, Option, Some, None, refl, sym, ap, ap₂, ◌∙◌}
use Rattle.std.proofs.lemmas.Option.{same_Some}
use Rattle.filter_types.specs.Before.{list_before}
use Rattle.filter_covering.specs.Laws.{sub_laws, ad_laws}
use Rattle.base.specs.Sets.{union, minus}
use Rattle.filter_text.specs.declared.command.Command.{Command}
use Rattle.filter_text.specs.declared.command.Command.TheVariants as commands
use Rattle.law_routing.specs.Net.{Subscribe, Unsubscribe, Advertise, Unadvertise, Publish}
use Rattle.law_routing.specs.Clients.{accepts, filters_after, adverts_after}
use Rattle.net_model.specs.Real.{real, real_laws}
use Rattle.net_model.proofs.Adding.{filters-sorted, adverts-sorted}
use Rattle.server_spec.specs.declared.planned.Planned.{Planned}
use Rattle.server_spec.specs.declared.planned.Planned.TheVariants as plans
use Rattle.filter_text.specs.Messages.{Lists}
use Rattle.server_spec.specs.Session.{SessionParts, first_commands, filters_at, adverts_at, publishes_at, net_under}
use Rattle.server_spec.specs.Plan.{plan_by, plan_in, next_plan}
use Rattle.server_spec.proofs.Settling.{sets-settled}
use Rattle.base.proofs.Bools.{absurd-false}

-- the parts of a plan of filters, and of one of advertisements
subs_out : Planned → Lists
subs_out (plans.Subs out add) = out
subs_out (plans.Advs out add) = []
subs_out (plans.Publish id n) = []
subs_out (plans.Refused o) = []

subs_add : Planned → Lists
subs_add (plans.Subs out add) = add
subs_add (plans.Advs out add) = []
subs_add (plans.Publish id n) = []
subs_add (plans.Refused o) = []

advs_out : Planned → Lists
advs_out (plans.Subs out add) = []
advs_out (plans.Advs out add) = out
advs_out (plans.Publish id n) = []
advs_out (plans.Refused o) = []

advs_add : Planned → Lists
advs_add (plans.Subs out add) = []
advs_add (plans.Advs out add) = add
advs_add (plans.Publish id n) = []
advs_add (plans.Refused o) = []

-- whether a plan is of filters, of advertisements
is_subs : Planned → Bool
is_subs (plans.Subs out add) = true
is_subs (plans.Advs out add) = false
is_subs (plans.Publish id n) = false
is_subs (plans.Refused o) = false

is_advs : Planned → Bool
is_advs (plans.Subs out add) = false
is_advs (plans.Advs out add) = true
is_advs (plans.Publish id n) = false
is_advs (plans.Refused o) = false

module _ (s : SessionParts) where
  -- a plan of filters is the difference of the client's lists
  subs-by : (command : Command) (out add : Lists) → plan_by s command ≡ plans.Subs out add → (out ≡ minus list_before (filters_at s s.taken) (filters_at s (suc s.taken))) × (add ≡ minus list_before (filters_at s (suc s.taken)) (filters_at s s.taken))
  unfolding subs_out subs_add is_subs
  subs-by (commands.Subscribe f) out add e = (sym (ap subs_out e), sym (ap subs_add e))
  subs-by (commands.Unsubscribe f) out add e = (sym (ap subs_out e), sym (ap subs_add e))
  subs-by (commands.Advertise a) out add e = absurd-false (ap is_subs e)
  subs-by (commands.Unadvertise a) out add e = absurd-false (ap is_subs e)
  subs-by (commands.Publish n) out add e = absurd-false (sym (never (accepts real (net_under s.semantics) (adverts_at s s.taken) n)) ∙ ap is_subs e)
    where
      never : (b : Bool) → is_subs (cond b (plans.Publish (record { publisher = s.client; ordinal = publishes_at s (suc s.taken) }) n) (plans.Refused (publishes_at s (suc s.taken)))) ≡ false
      never true = refl
      never false = refl

  advs-by : (command : Command) (out add : Lists) → plan_by s command ≡ plans.Advs out add → (out ≡ minus list_before (adverts_at s s.taken) (adverts_at s (suc s.taken))) × (add ≡ minus list_before (adverts_at s (suc s.taken)) (adverts_at s s.taken))
  unfolding advs_out advs_add is_advs
  advs-by (commands.Subscribe f) out add e = absurd-false (ap is_advs e)
  advs-by (commands.Unsubscribe f) out add e = absurd-false (ap is_advs e)
  advs-by (commands.Advertise a) out add e = (sym (ap advs_out e), sym (ap advs_add e))
  advs-by (commands.Unadvertise a) out add e = (sym (ap advs_out e), sym (ap advs_add e))
  advs-by (commands.Publish n) out add e = absurd-false (sym (never (accepts real (net_under s.semantics) (adverts_at s s.taken) n)) ∙ ap is_advs e)
    where
      never : (b : Bool) → is_advs (cond b (plans.Publish (record { publisher = s.client; ordinal = publishes_at s (suc s.taken) }) n) (plans.Refused (publishes_at s (suc s.taken)))) ≡ false
      never true = refl
      never false = refl

  subs-in : (o : Option (ℕ × Command)) (out add : Lists) → plan_in s o ≡ Some (plans.Subs out add) → (out ≡ minus list_before (filters_at s s.taken) (filters_at s (suc s.taken))) × (add ≡ minus list_before (filters_at s (suc s.taken)) (filters_at s s.taken))
  subs-in None out add e = absurd cc
  subs-in (Some step) out add e = subs-by step.1 out add (same_Some _ _ e)

  advs-in : (o : Option (ℕ × Command)) (out add : Lists) → plan_in s o ≡ Some (plans.Advs out add) → (out ≡ minus list_before (adverts_at s s.taken) (adverts_at s (suc s.taken))) × (add ≡ minus list_before (adverts_at s (suc s.taken)) (adverts_at s s.taken))
  advs-in None out add e = absurd cc
  advs-in (Some step) out add e = advs-by step.1 out add (same_Some _ _ e)

  pub filters-turn : (out add : Lists) → next_plan s ≡ Some (plans.Subs out add) → union list_before add (minus list_before (filters_after real [] (first_commands s s.taken)) out) ≡ filters_after real [] (first_commands s (suc s.taken))
  filters-turn out add e =
      let w = subs-in (slice_get s.script s.taken) out add e in
      let now = filters-sorted real real_laws (first_commands s s.taken) in
      ap₂ (λ (x y : Lists). union list_before y (minus list_before (filters_after real [] (first_commands s s.taken)) x)) w.0 w.1
      ∙ ap (λ (held : Lists). union list_before (minus list_before (filters_at s (suc s.taken)) (filters_at s s.taken)) (minus list_before held (minus list_before (filters_at s s.taken) (filters_at s (suc s.taken))))) (sym now)
      ∙ sets-settled sub_laws (filters_at s s.taken) (filters_at s (suc s.taken))
      ∙ filters-sorted real real_laws (first_commands s (suc s.taken))

  pub adverts-turn : (out add : Lists) → next_plan s ≡ Some (plans.Advs out add) → union list_before add (minus list_before (adverts_after real [] (first_commands s s.taken)) out) ≡ adverts_after real [] (first_commands s (suc s.taken))
  adverts-turn out add e =
      let w = advs-in (slice_get s.script s.taken) out add e in
      let now = adverts-sorted real real_laws (first_commands s s.taken) in
      ap₂ (λ (x y : Lists). union list_before y (minus list_before (adverts_after real [] (first_commands s s.taken)) x)) w.0 w.1
      ∙ ap (λ (held : Lists). union list_before (minus list_before (adverts_at s (suc s.taken)) (adverts_at s s.taken)) (minus list_before held (minus list_before (adverts_at s s.taken) (adverts_at s (suc s.taken))))) (sym now)
      ∙ sets-settled ad_laws (adverts_at s s.taken) (adverts_at s (suc s.taken))
      ∙ adverts-sorted real real_laws (first_commands s (suc s.taken))
