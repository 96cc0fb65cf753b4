-- What is planned is the difference of a client's lists, and doing it gives the next ones.
use Rattle.std.proofs.Common.{◌≡◌, ℕ, suc, Bool, true, false, cond, not, List, [], ◌∷◌, ◌++◌, filter, map, slice_get, Some, refl, sym, ap, subst, ◌∙◌, inl, inr, append-nil, zero-add}
use Rattle.filter_covering.specs.Laws.{sub_laws, ad_laws}
use Rattle.base.specs.Laws.{CoverLaws}
use Rattle.base.specs.Sets.{Has, member, minus}
use Rattle.base.proofs.Sets.{has-member}
use Rattle.filter_text.specs.declared.command.Command.{Command}
use Rattle.filter_text.specs.declared.command.Command.TheVariants as commands
use Rattle.filter_text.specs.declared.semantics.Semantics.{Semantics}
use Rattle.law_routing.specs.Clients.{is_publish, accepts, add_refused, adverts_after}
use Rattle.net_model.specs.Real.{real}
use Rattle.net_model.specs.Meaning.{command_of, phased_command}
use Rattle.net_model.specs.Adding.{own_filters_step, own_adverts_step}
use Rattle.server_spec.specs.declared.planned.Planned.TheVariants as plans
use Rattle.filter_text.specs.Messages.{Lists}
use Rattle.server_spec.specs.Session.{SessionParts, first_commands, filters_at, adverts_at, publishes_at, refused_at, net_under}
use Rattle.server_spec.specs.Plan.{filters_plan, adverts_plan, publish_plan, plan_by, next_plan}
use Rattle.server_spec.specs.Own.{own_plan, filters_by, adverts_by, refusals_by, publishes_by}
use Rattle.server_spec.proofs.Settling.{settled}
use Rattle.server_spec.proofs.Listing.{filters-next, adverts-next, ordinal-next, refused-next}
use Rattle.base.proofs.Lists.{filter-all, get-map}

-- an adding, and a withdrawal
abbrev pub with_new : {T : Type 0} → (T → T → Bool) → T → List T → List T
with_new before f now = cond (member before f now) now (now ++ f ∷ [])

abbrev pub new_of : {T : Type 0} → (T → T → Bool) → T → List T → List T
new_of before f now = cond (member before f now) [] (f ∷ [])

abbrev pub without : {T : Type 0} → (T → T → Bool) → T → List T → List T
without covers f now = filter (λ g. not (covers f g)) now

module _ {T : Type 0} {covers before : T → T → Bool} (laws : CoverLaws covers before) (f : T) (now : List T) where
  all : T → Bool
  all x = true

  split : with_new before f now ≡ filter all now ++ new_of before f now
  unfolding all
  split = go (member before f now) ∙ ap (λ xs. xs ++ new_of before f now) (sym (filter-all (λ x. true) now (λ x h. refl)))
    where
      go : (b : Bool) → cond b now (now ++ f ∷ []) ≡ now ++ cond b [] (f ∷ [])
      go true = sym (append-nil now)
      go false = refl

  fresh : (x : T) → Has x (new_of before f now) → Has x now → ⊥
  fresh x = go (member before f now) refl
    where
      go : (b : Bool) → member before f now ≡ b → Has x (cond b [] (f ∷ [])) → Has x now → ⊥
      go true e h k = h
      go false e (inr h) k = h
      go false e (inl q) k = bad (sym e ∙ has-member laws f now (subst (λ z. Has z now) q k))
        where
          bad : false ≡ true → ⊥
          bad w = cc

  pub adding-settled : minus before now (minus before now (with_new before f now)) ++ minus before (with_new before f now) now ≡ with_new before f now
  unfolding all
  adding-settled = ap (λ next. minus before now (minus before now next) ++ minus before next now) split ∙ settled laws (λ x. true) now (new_of before f now) fresh ∙ sym split

  nothing : (x : T) → Has x [] → Has x now → ⊥
  nothing x h k = h

  whole : without covers f now ≡ without covers f now ++ []
  whole = sym (append-nil (without covers f now))

  pub withdrawing-settled : minus before now (minus before now (without covers f now)) ++ minus before (without covers f now) now ≡ without covers f now
  withdrawing-settled = ap (λ next. minus before now (minus before now next) ++ minus before next now) whole ∙ settled laws (λ g. not (covers f g)) now [] nothing ∙ sym whole

-- doing what is planned gives the next lists
pub filters-done : (client : ℕ) (semantics : Semantics) (filters adverts : Lists) (publishes : ℕ) (command : Command) → filters_by (own_plan client semantics filters adverts publishes command) filters ≡ own_filters_step real filters (command_of command)
filters-done client semantics filters adverts publishes (commands.Subscribe f) = adding-settled sub_laws f filters
filters-done client semantics filters adverts publishes (commands.Unsubscribe f) = withdrawing-settled sub_laws f filters
filters-done client semantics filters adverts publishes (commands.Advertise a) = refl
filters-done client semantics filters adverts publishes (commands.Unadvertise a) = refl
filters-done client semantics filters adverts publishes (commands.Publish n) = go (accepts real (net_under semantics) adverts n)
  where
    go : (b : Bool) → filters_by (cond b (plans.Publish (record { publisher = client; ordinal = suc publishes }) n) (plans.Refused (suc publishes))) filters ≡ filters
    go true = refl
    go false = refl

pub adverts-done : (client : ℕ) (semantics : Semantics) (filters adverts : Lists) (publishes : ℕ) (command : Command) → adverts_by (own_plan client semantics filters adverts publishes command) adverts ≡ own_adverts_step real adverts (command_of command)
adverts-done client semantics filters adverts publishes (commands.Subscribe f) = refl
adverts-done client semantics filters adverts publishes (commands.Unsubscribe f) = refl
adverts-done client semantics filters adverts publishes (commands.Advertise a) = adding-settled ad_laws a adverts
adverts-done client semantics filters adverts publishes (commands.Unadvertise a) = withdrawing-settled ad_laws a adverts
adverts-done client semantics filters adverts publishes (commands.Publish n) = go (accepts real (net_under semantics) adverts n)
  where
    go : (b : Bool) → adverts_by (cond b (plans.Publish (record { publisher = client; ordinal = suc publishes }) n) (plans.Refused (suc publishes))) adverts ≡ adverts
    go true = refl
    go false = refl

-- a publish is refused by any list of advertisements that accepts the same
pub refused-done : (client : ℕ) (semantics : Semantics) (filters adverts rising : Lists) (publishes : ℕ) (command : Command) → ((n : real.Notice) → accepts real (net_under semantics) adverts n ≡ accepts real (net_under semantics) rising n) → (refused : List ℕ) → refusals_by (own_plan client semantics filters adverts publishes command) refused ≡ refused ++ add_refused real (net_under semantics) rising publishes (command_of command) []
refused-done client semantics filters adverts rising publishes (commands.Subscribe f) same refused = sym (append-nil refused)
refused-done client semantics filters adverts rising publishes (commands.Unsubscribe f) same refused = sym (append-nil refused)
refused-done client semantics filters adverts rising publishes (commands.Advertise a) same refused = sym (append-nil refused)
refused-done client semantics filters adverts rising publishes (commands.Unadvertise a) same refused = sym (append-nil refused)
refused-done client semantics filters adverts rising publishes (commands.Publish n) same refused = go (accepts real (net_under semantics) adverts n) ∙ ap (λ b. refused ++ cond b [] (suc publishes ∷ [])) (same n)
  where
    go : (b : Bool) → refusals_by (cond b (plans.Publish (record { publisher = client; ordinal = suc publishes }) n) (plans.Refused (suc publishes))) refused ≡ refused ++ cond b [] (suc publishes ∷ [])
    go true = sym (append-nil refused)
    go false = refl

pub publishes-done : (client : ℕ) (semantics : Semantics) (filters adverts : Lists) (publishes : ℕ) (command : Command) → publishes_by (own_plan client semantics filters adverts publishes command) publishes ≡ cond (is_publish real (command_of command)) (suc publishes) publishes
publishes-done client semantics filters adverts publishes (commands.Subscribe f) = refl
publishes-done client semantics filters adverts publishes (commands.Unsubscribe f) = refl
publishes-done client semantics filters adverts publishes (commands.Advertise a) = refl
publishes-done client semantics filters adverts publishes (commands.Unadvertise a) = refl
publishes-done client semantics filters adverts publishes (commands.Publish n) = go (accepts real (net_under semantics) adverts n)
  where
    go : (b : Bool) → publishes_by (cond b (plans.Publish (record { publisher = client; ordinal = suc publishes }) n) (plans.Refused (suc publishes))) publishes ≡ suc publishes
    go true = refl
    go false = refl

module _ (session : SessionParts) (step : ℕ × Command) (at : slice_get session.script session.taken ≡ Some step) where
  command-at : slice_get (map phased_command session.script) session.taken ≡ Some (phased_command step)
  command-at = get-map phased_command session.script session.taken step at

  pub next-filters : filters_at session (suc session.taken) ≡ own_filters_step real (filters_at session session.taken) (command_of step.1)
  next-filters = filters-next real (map phased_command session.script) [] session.taken (phased_command step) command-at

  pub next-adverts : adverts_at session (suc session.taken) ≡ own_adverts_step real (adverts_at session session.taken) (command_of step.1)
  next-adverts = adverts-next real (map phased_command session.script) [] session.taken (phased_command step) command-at

  pub next-publishes : publishes_at session (suc session.taken) ≡ cond (is_publish real (command_of step.1)) (suc (publishes_at session session.taken)) (publishes_at session session.taken)
  next-publishes = ordinal-next real (map phased_command session.script) session.taken (phased_command step) command-at

  pub next-refused : refused_at session (suc session.taken) ≡ refused_at session session.taken ++ add_refused real (net_under session.semantics) (adverts_after real [] (first_commands session session.taken)) (publishes_at session session.taken) (command_of step.1) []
  next-refused =
      refused-next real (net_under session.semantics) (map phased_command session.script) [] 0 session.taken (phased_command step) command-at
      ∙ ap (λ n. refused_at session session.taken ++ add_refused real (net_under session.semantics) (adverts_after real [] (first_commands session session.taken)) n (command_of step.1) []) (zero-add (publishes_at session session.taken))

-- the plan of a command by the lists now
pub plan-own : (session : SessionParts) (step : ℕ × Command) → slice_get session.script session.taken ≡ Some step → next_plan session ≡ Some (own_plan session.client session.semantics (filters_at session session.taken) (adverts_at session session.taken) (publishes_at session session.taken) step.1)
plan-own session step at = rw at (ap (λ p. Some p) (go step.1 (next-filters session step at) (next-adverts session step at) (next-publishes session step at)))
  where
    go : (command : Command) → filters_at session (suc session.taken) ≡ own_filters_step real (filters_at session session.taken) (command_of command) → adverts_at session (suc session.taken) ≡ own_adverts_step real (adverts_at session session.taken) (command_of command) → publishes_at session (suc session.taken) ≡ cond (is_publish real (command_of command)) (suc (publishes_at session session.taken)) (publishes_at session session.taken) → plan_by session command ≡ own_plan session.client session.semantics (filters_at session session.taken) (adverts_at session session.taken) (publishes_at session session.taken) command
    go (commands.Subscribe f) fs xs ps = ap (λ next. filters_plan (filters_at session session.taken) next) fs
    go (commands.Unsubscribe f) fs xs ps = ap (λ next. filters_plan (filters_at session session.taken) next) fs
    go (commands.Advertise a) fs xs ps = ap (λ next. adverts_plan (adverts_at session session.taken) next) xs
    go (commands.Unadvertise a) fs xs ps = ap (λ next. adverts_plan (adverts_at session session.taken) next) xs
    go (commands.Publish n) fs xs ps = ap (λ o. publish_plan session.client session.semantics (adverts_at session session.taken) o n) ps
