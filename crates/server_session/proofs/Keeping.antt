-- What a session by numbers keeps is kept by its calls, and what it plans is what its next command does.
use Rattle.std.proofs.Common.{◌≡◌, ℕ, zero, suc, ◌+◌, ◌<◌, nat_lt, Bool, true, false, cond, not, List, [], ◌∷◌, length, filter, map, take, get_or, slice_get, Option, Some, None, refl, sym, ap, subst, ◌∙◌, arith, zero-add}
use Rattle.std.specs.Int.{IsInRange}
use Rattle.std.specs.List.{flat_map}
use Rattle.std.proofs.lemmas.Option.{same_Some}
use Rattle.filter_constraints.specs.Constraint.{ConstraintParts}
use Rattle.filter_types.specs.Notice.{Attribute}
use Rattle.filter_types.specs.Before.{list_before}
use Rattle.filter_types.specs.Cover.{filter_covers, advert_covers}
use Rattle.filter_covering.specs.Laws.{sub_laws, ad_laws}
use Rattle.base.specs.Sets.{IsRising, union, minus}
use Rattle.base.proofs.Sets.{rising-set_of}
use Rattle.base_bits.specs.Rows.{Numbers}
use Rattle.base_order.specs.Order.{picked}
use Rattle.server_stock.proofs.Turns.{get-some, get-within}
use Rattle.filter_text.specs.declared.id.Id.{Id}
use Rattle.filter_text.specs.Deliveries.{Delivery}
use Rattle.filter_text.specs.declared.command.Command.{Command}
use Rattle.filter_text.specs.declared.command.Command.TheVariants as commands
use Rattle.filter_text.specs.Messages.{Lists}
use Rattle.filter_text.specs.declared.semantics.Semantics.{Semantics}
use Rattle.law_routing.specs.Net.{PhasedCommand}
use Rattle.law_routing.specs.Clients.{is_publish, filters_step, filters_after, adverts_step, adverts_after, accepts}
use Rattle.net_model.specs.Real.{real, real_laws}
use Rattle.net_model.specs.Parts.{NetParts}
use Rattle.net_model.specs.Meaning.{phased_command, command_of}
use Rattle.net_model.proofs.Adding.{accepts-same}
use Rattle.server_spec.specs.declared.planned.Planned.{Planned as PlannedCommand}
use Rattle.server_spec.specs.declared.planned.Planned.TheVariants as plans
use Rattle.server_spec.specs.Session.{SessionParts, session_parts, IsSession as KeepsSession, first_commands, filters_at, adverts_at, publishes_at, net_under}
use Rattle.server_spec.specs.Plan.{publish_plan, plan_by, plan_in, next_plan}
use Rattle.server_spec.specs.Turn.{filter_set_at, advert_set_at}
use Rattle.server_spec.proofs.Planning.{next-publishes}
use Rattle.server_spec.proofs.Sessions.{ordinal-take, committed}
use Rattle.net_tables.specs.Known.{PublicationParts, publication, script_filters, script_adverts, known_filters, known_adverts, known_publications}
use Rattle.net_tables.specs.declared.numbered.NumberedCommand.{NumberedCommand}
use Rattle.net_tables.specs.declared.numbered.NumberedCommand.TheVariants as numbers
use Rattle.net_tables.specs.Numbered.{catalogued, RepresentsCommand}
use Rattle.server_session.specs.declared.planned.Moved.{Moved}
use Rattle.server_session.specs.declared.planned.Moved.TheVariants.{Nothing}
use Rattle.server_session.specs.declared.planned.Planned.{Planned}
use Rattle.server_session.specs.declared.planned.Planned.TheVariants.{Filters, Adverts, Publish, Refused}
use Rattle.server_session.specs.Moved.{IsMoved, gone, come}
use Rattle.server_session.specs.Session.{NetSession, net_session, PlansNext, IsNumbered, IsNextCommand}
use Rattle.server_session.specs.Own.{IsWithin, filters_moved, adverts_moved, moved_row, refusals_by, publishes_by}
use Rattle.server_session.proofs.Moving.{shifted, still-row}
use Rattle.server_session.proofs.Steps.{numbered-long, step-represents}
use Rattle.base.proofs.Lists.{get-map, get-get_or}

-- a client's sets after one more command
pub filters-after : (cs : List (PhasedCommand real)) (fs : List real.Filter) (j : ℕ) (x : PhasedCommand real) → slice_get cs j ≡ Some x → filters_after real fs (take (suc j) cs) ≡ filters_step real (filters_after real fs (take j cs)) x.command
filters-after [] fs j x e = absurd cc
filters-after (y ∷ ys) fs zero x e = ap (λ z. filters_step real fs z.command) (same_Some _ _ e)
filters-after (y ∷ ys) fs (suc j) x e = filters-after ys (filters_step real fs y.command) j x e

pub adverts-after : (cs : List (PhasedCommand real)) (fs : List real.Advert) (j : ℕ) (x : PhasedCommand real) → slice_get cs j ≡ Some x → adverts_after real fs (take (suc j) cs) ≡ adverts_step real (adverts_after real fs (take j cs)) x.command
adverts-after [] fs j x e = absurd cc
adverts-after (y ∷ ys) fs zero x e = ap (λ z. adverts_step real fs z.command) (same_Some _ _ e)
adverts-after (y ∷ ys) fs (suc j) x e = adverts-after ys (adverts_step real fs y.command) j x e

module _ (s : SessionParts) (step : ℕ × Command) (at : slice_get s.script s.taken ≡ Some step) where
  pub set-next : filter_set_at s (suc s.taken) ≡ filters_step real (filter_set_at s s.taken) (command_of step.1)
  set-next = filters-after (map phased_command s.script) [] s.taken (phased_command step) (get-map phased_command s.script s.taken step at)

  pub advert-set-next : advert_set_at s (suc s.taken) ≡ adverts_step real (advert_set_at s s.taken) (command_of step.1)
  advert-set-next = adverts-after (map phased_command s.script) [] s.taken (phased_command step) (get-map phased_command s.script s.taken step at)

  pub plan-next : next_plan s ≡ Some (plan_by s step.1)
  plan-next = ap (plan_in s) at

-- a publish
module _ (net : NetParts) (s : SessionParts) where
  abbrev pub next_id : Id
  next_id = record { publisher = s.client; ordinal = publishes_at s (suc s.taken) }

  pub publish-next : (i : ℕ) (n : IsNextCommand net s (numbers.Publish i)) → next_plan s ≡ Some (publish_plan s.client s.semantics (adverts_at s s.taken) (publishes_at s (suc s.taken)) n.represents.0)
  publish-next i n = plan-next s n.step n.at ∙ ap (λ z. Some (plan_by s z)) n.represents.2

  pub count-next : (i : ℕ) (n : IsNextCommand net s (numbers.Publish i)) → publishes_at s (suc s.taken) ≡ suc (publishes_at s s.taken)
  count-next i n = next-publishes s n.step n.at ∙ ap (λ z. cond (is_publish real (command_of z)) (suc (publishes_at s s.taken)) (publishes_at s s.taken)) n.represents.2

  pub publishes-plan : (i : ℕ) (q : PublicationParts) (n : IsNextCommand net s (numbers.Publish i)) → slice_get (known_publications 1 net.clients) i ≡ Some q
      → accepts real (net_under s.semantics) (adverts_at s s.taken) q.notice ≡ true → next_plan s ≡ Some (plans.Publish q.id q.notice)
  publishes-plan i q n e a =
      let same : publication s.client (suc (publishes_at s s.taken)) n.step.0 n.represents.0 ≡ q = same_Some _ _ (sym n.represents.1 ∙ e) in
      let note : n.represents.0 ≡ q.notice = ap (λ (z : PublicationParts). z.notice) same in
      let id : next_id ≡ q.id = ap (λ (o : ℕ). record { publisher = s.client; ordinal = o }) (count-next i n) ∙ ap (λ (z : PublicationParts). z.id) same in
      publish-next i n
      ∙ (ap (λ (z : List Attribute). Some (publish_plan s.client s.semantics (adverts_at s s.taken) (publishes_at s (suc s.taken)) z)) note
      ∙ (ap (λ (b : Bool). Some (cond b (plans.Publish next_id q.notice) (plans.Refused (publishes_at s (suc s.taken))))) a
      ∙ ap (λ (z : Id). Some (plans.Publish z q.notice)) id))

  pub plans-publish : (i : ℕ) (q : PublicationParts) (n : IsNextCommand net s (numbers.Publish i)) → slice_get (known_publications 1 net.clients) i ≡ Some q
      → accepts real (net_under s.semantics) (adverts_at s s.taken) q.notice ≡ true → PlansNext net s (Publish q.id i)
  plans-publish i q n e a = (q, e, refl, publishes-plan i q n e a)

  pub refuses-plan : (i : ℕ) (q : PublicationParts) (n : IsNextCommand net s (numbers.Publish i)) → slice_get (known_publications 1 net.clients) i ≡ Some q
      → accepts real (net_under s.semantics) (adverts_at s s.taken) q.notice ≡ false → next_plan s ≡ Some (plans.Refused (publishes_at s (suc s.taken)))
  refuses-plan i q n e a =
      let same : publication s.client (suc (publishes_at s s.taken)) n.step.0 n.represents.0 ≡ q = same_Some _ _ (sym n.represents.1 ∙ e) in
      let note : n.represents.0 ≡ q.notice = ap (λ (z : PublicationParts). z.notice) same in
      publish-next i n
      ∙ (ap (λ (z : List Attribute). Some (publish_plan s.client s.semantics (adverts_at s s.taken) (publishes_at s (suc s.taken)) z)) note
      ∙ ap (λ (b : Bool). Some (cond b (plans.Publish next_id q.notice) (plans.Refused (publishes_at s (suc s.taken))))) a)

module _ (net : NetParts) (s : SessionParts) (steps : List (ℕ × NumberedCommand)) (fr ar : Numbers) (rs : List ℕ) (p : ℕ) (kept : IsNumbered net s steps fr ar rs p) where
  pub next-is : (n : ℕ × NumberedCommand) → slice_get steps s.taken ≡ Some n → IsNextCommand net s n.1
  next-is n e =
      let long = numbered-long (catalogued net.clients) s.client 0 steps s.script kept.steps_mean in
      let within = get-within steps s.taken n e in
      let x = get-some s.script s.taken (omega (arith, long, within)) in
      record {
        step = x.0;
        at = x.1;
        represents = subst (λ (z : ℕ). RepresentsCommand (catalogued net.clients) s.client z x.0.0 n.1 x.0.1) (zero-add (publishes_at s s.taken))
            (step-represents (catalogued net.clients) s.client 0 steps s.script kept.steps_mean s.taken n x.0 e x.1);
      }

  pub step-there : s.taken < length s.script → s.taken < length steps
  step-there l = let long = numbered-long (catalogued net.clients) s.client 0 steps s.script kept.steps_mean in omega (arith, long, l)

  filters-moved : (moved : Moved) (next : Lists) → filter_set_at s (suc s.taken) ≡ next → IsMoved list_before (known_filters net.clients) (picked (known_filters net.clients) fr.members) next moved
      → IsMoved list_before (known_filters net.clients) (filter_set_at s s.taken) (filter_set_at s (suc s.taken)) moved
  filters-moved moved next e m =
      subst (λ (z : Lists). IsMoved list_before (known_filters net.clients) z (filter_set_at s (suc s.taken)) moved) kept.filters_are
      (subst (λ (z : Lists). IsMoved list_before (known_filters net.clients) (picked (known_filters net.clients) fr.members) z moved) (sym e) m)

  adverts-moved : (moved : Moved) (next : Lists) → advert_set_at s (suc s.taken) ≡ next → IsMoved list_before (known_adverts net.clients) (picked (known_adverts net.clients) ar.members) next moved
      → IsMoved list_before (known_adverts net.clients) (advert_set_at s s.taken) (advert_set_at s (suc s.taken)) moved
  adverts-moved moved next e m =
      subst (λ (z : Lists). IsMoved list_before (known_adverts net.clients) z (advert_set_at s (suc s.taken)) moved) kept.adverts_are
      (subst (λ (z : Lists). IsMoved list_before (known_adverts net.clients) (picked (known_adverts net.clients) ar.members) z moved) (sym e) m)

  pub plans-subscribe : (i : ℕ) (moved : Moved) → IsNextCommand net s (numbers.Subscribe i)
      → ((x : List ConstraintParts) → slice_get (known_filters net.clients) i ≡ Some x → IsMoved list_before (known_filters net.clients) (picked (known_filters net.clients) fr.members)
      (union list_before (x ∷ []) (picked (known_filters net.clients) fr.members)) moved) → PlansNext net s (Filters moved)
  plans-subscribe i moved n m =
      let f = n.represents.0 in
      let e : filter_set_at s (suc s.taken) ≡ union list_before (f ∷ []) (picked (known_filters net.clients) fr.members) =
      set-next s n.step n.at ∙ (ap (λ z. filters_step real (filter_set_at s s.taken) (command_of z)) n.represents.2 ∙ ap (λ (z : Lists). union list_before (f ∷ []) z) (sym kept.filters_are)) in
      ((_, _, plan-next s n.step n.at ∙ ap (λ z. Some (plan_by s z)) n.represents.2), filters-moved moved _ e (m f n.represents.1))

  pub plans-unsubscribe : (i : ℕ) (moved : Moved) → IsNextCommand net s (numbers.Unsubscribe i)
      → ((x : List ConstraintParts) → slice_get (known_filters net.clients) i ≡ Some x → IsMoved list_before (known_filters net.clients) (picked (known_filters net.clients) fr.members)
      (filter (λ y. not (filter_covers x y)) (picked (known_filters net.clients) fr.members)) moved) → PlansNext net s (Filters moved)
  plans-unsubscribe i moved n m =
      let f = n.represents.0 in
      let e : filter_set_at s (suc s.taken) ≡ filter (λ y. not (filter_covers f y)) (picked (known_filters net.clients) fr.members) =
      set-next s n.step n.at ∙ (ap (λ z. filters_step real (filter_set_at s s.taken) (command_of z)) n.represents.2 ∙ ap (λ (z : Lists). filter (λ y. not (filter_covers f y)) z) (sym kept.filters_are)) in
      ((_, _, plan-next s n.step n.at ∙ ap (λ z. Some (plan_by s z)) n.represents.2), filters-moved moved _ e (m f n.represents.1))

  pub plans-advertise : (i : ℕ) (moved : Moved) → IsNextCommand net s (numbers.Advertise i)
      → ((x : List ConstraintParts) → slice_get (known_adverts net.clients) i ≡ Some x → IsMoved list_before (known_adverts net.clients) (picked (known_adverts net.clients) ar.members)
      (union list_before (x ∷ []) (picked (known_adverts net.clients) ar.members)) moved) → PlansNext net s (Adverts moved)
  plans-advertise i moved n m =
      let f = n.represents.0 in
      let e : advert_set_at s (suc s.taken) ≡ union list_before (f ∷ []) (picked (known_adverts net.clients) ar.members) =
      advert-set-next s n.step n.at ∙ (ap (λ z. adverts_step real (advert_set_at s s.taken) (command_of z)) n.represents.2 ∙ ap (λ (z : Lists). union list_before (f ∷ []) z) (sym kept.adverts_are)) in
      ((_, _, plan-next s n.step n.at ∙ ap (λ z. Some (plan_by s z)) n.represents.2), adverts-moved moved _ e (m f n.represents.1))

  pub plans-unadvertise : (i : ℕ) (moved : Moved) → IsNextCommand net s (numbers.Unadvertise i)
      → ((x : List ConstraintParts) → slice_get (known_adverts net.clients) i ≡ Some x → IsMoved list_before (known_adverts net.clients) (picked (known_adverts net.clients) ar.members)
      (filter (λ y. not (advert_covers x y)) (picked (known_adverts net.clients) ar.members)) moved) → PlansNext net s (Adverts moved)
  plans-unadvertise i moved n m =
      let f = n.represents.0 in
      let e : advert_set_at s (suc s.taken) ≡ filter (λ y. not (advert_covers f y)) (picked (known_adverts net.clients) ar.members) =
      advert-set-next s n.step n.at ∙ (ap (λ z. adverts_step real (advert_set_at s s.taken) (command_of z)) n.represents.2 ∙ ap (λ (z : Lists). filter (λ y. not (advert_covers f y)) z) (sym kept.adverts_are)) in
      ((_, _, plan-next s n.step n.at ∙ ap (λ z. Some (plan_by s z)) n.represents.2), adverts-moved moved _ e (m f n.represents.1))

  -- whether a publish is accepted, by the row of advertisements
  pub accepts-by-row : (n : List Attribute) → accepts real (net_under s.semantics) (picked (known_adverts net.clients) ar.members) n ≡ accepts real (net_under s.semantics) (adverts_at s s.taken) n
  accepts-by-row n =
      ap (λ (z : Lists). accepts real (net_under s.semantics) z n) kept.adverts_are ∙ sym (accepts-same real real_laws (net_under s.semantics) (first_commands s s.taken) n)

  pub plans-refused : (i o : ℕ) (q : PublicationParts) (n : IsNextCommand net s (numbers.Publish i)) → slice_get (known_publications 1 net.clients) i ≡ Some q → o ≡ p + 1
      → accepts real (net_under s.semantics) (adverts_at s s.taken) q.notice ≡ false → PlansNext net s (Refused o)
  plans-refused i o q n e c a =
      let counted : publishes_at s (suc s.taken) ≡ o = omega (arith, count-next net s i n, kept.kept.counted, c) in
      refuses-plan net s i q n e a ∙ ap (λ (z : ℕ). Some (plans.Refused z)) counted

  pub counted-publication : (i : ℕ) (n : IsNextCommand net s (numbers.Publish i)) → IsInRange 1 100000 (suc (publishes_at s s.taken))
  counted-publication i n = (omega arith, omega (arith, count-next net s i n, ordinal-take real (map phased_command s.script) (suc s.taken), kept.kept.few))

-- what holds of a session holds of it as contracts see it
module _ (net : NetParts) (s : SessionParts) (v : NetSession) (is : net_session net s ≡ v) where
  pub next-inside : (n : NumberedCommand) → IsNextCommand v.net v.session n → IsNextCommand net s n
  next-inside n h = subst (λ (z : NetSession). IsNextCommand z.net z.session n) (sym is) h

  pub next-outside : (n : NumberedCommand) → IsNextCommand net s n → IsNextCommand v.net v.session n
  next-outside n h = subst (λ (z : NetSession). IsNextCommand z.net z.session n) is h

  pub plan-outside : (q : Planned) → PlansNext net s q → PlansNext v.net v.session q
  plan-outside q h = subst (λ (z : NetSession). PlansNext z.net z.session q) is h

  pub plan-inside : (q : Planned) → PlansNext v.net v.session q → PlansNext net s q
  plan-inside q h = subst (λ (z : NetSession). PlansNext z.net z.session q) (sym is) h

-- a publication that is read at its number
pub known-read : (all known : List PublicationParts) (k : ℕ) (r q : PublicationParts) → all ≡ known → k < length known → r ≡ get_or all k r → slice_get known k ≡ Some q → r ≡ q
known-read all known k r q e l f g = same_Some _ _ (sym (get-get_or known k r l (f ∙ ap (λ (z : List PublicationParts). get_or z k r) e)) ∙ g)

-- the publication of a next command
pub known-publication : (net : NetParts) (s : SessionParts) (i : ℕ) → IsNextCommand net s (numbers.Publish i)
    → (q : PublicationParts) × (slice_get (known_publications 1 net.clients) i ≡ Some q) × (i < length (known_publications 1 net.clients))
    × (q.id ≡ record { publisher = s.client; ordinal = suc (publishes_at s s.taken) })
known-publication net s i n =
    let q = publication s.client (suc (publishes_at s s.taken)) n.step.0 n.represents.0 in
    (q, n.represents.1, get-within (known_publications 1 net.clients) i q n.represents.1, refl)

module _ (net : NetParts) (s : SessionParts) (v : NetSession) (is : net_session net s ≡ v) where
  pub inside-left : v.session.taken < length v.session.script → s.taken < length s.script
  inside-left h = subst (λ (z : NetSession). z.session.taken < length z.session.script) (sym is) h

  pub accepted-inside : (q : PublicationParts) (b : Bool) → b ≡ accepts real (net_under v.session.semantics) (adverts_at v.session v.session.taken) q.notice
      → accepts real (net_under s.semantics) (adverts_at s s.taken) q.notice ≡ b
  accepted-inside q b h = sym (subst (λ (z : NetSession). b ≡ accepts real (net_under z.session.semantics) (adverts_at z.session z.session.taken) q.notice) (sym is) h)

-- a session whose inbox, room or plan changed
pub numbered-with : (net : NetParts) (client : ℕ) (semantics : Semantics) (script : List (ℕ × Command)) (taken : ℕ) (inbox now : List Delivery) (room left : ℕ) (planned then : Bool)
    (steps : List (ℕ × NumberedCommand)) (fr ar : Numbers) (rs : List ℕ) (p : ℕ)
    → IsNumbered net (session_parts client semantics script taken inbox room planned) steps fr ar rs p
    → KeepsSession (session_parts client semantics script taken now left then) (filters_at (session_parts client semantics script taken inbox room planned) taken) (adverts_at (session_parts client semantics script taken inbox room planned) taken) rs p
    → IsNumbered net (session_parts client semantics script taken now left then) steps fr ar rs p
numbered-with net client semantics script taken inbox now room left planned then steps fr ar rs p kept keeps = record {
  semantics = kept.semantics;
  steps_mean = kept.steps_mean;
  filters_width = kept.filters_width;
  filters_are = kept.filters_are;
  adverts_width = kept.adverts_width;
  adverts_are = kept.adverts_are;
  kept = keeps;
}

-- what a plan says of the client's sets after its command
abbrev pub filters_then : SessionParts → PlannedCommand → Lists
filters_then s (plans.Subs out add) = filter_set_at s (suc s.taken)
filters_then s (plans.Advs out add) = filter_set_at s s.taken
filters_then s (plans.Publish id n) = filter_set_at s s.taken
filters_then s (plans.Refused o) = filter_set_at s s.taken

abbrev pub adverts_then : SessionParts → PlannedCommand → Lists
adverts_then s (plans.Subs out add) = advert_set_at s s.taken
adverts_then s (plans.Advs out add) = advert_set_at s (suc s.taken)
adverts_then s (plans.Publish id n) = advert_set_at s s.taken
adverts_then s (plans.Refused o) = advert_set_at s s.taken

module _ (s : SessionParts) where
  chosen-filters : (b : Bool) (id : Id) (n : List Attribute) (o : ℕ) → filter_set_at s s.taken ≡ filters_then s (cond b (plans.Publish id n) (plans.Refused o))
  chosen-filters true id n o = refl
  chosen-filters false id n o = refl

  chosen-adverts : (b : Bool) (id : Id) (n : List Attribute) (o : ℕ) → advert_set_at s s.taken ≡ adverts_then s (cond b (plans.Publish id n) (plans.Refused o))
  chosen-adverts true id n o = refl
  chosen-adverts false id n o = refl

  abbrev id_then : Id
  id_then = record { publisher = s.client; ordinal = publishes_at s (suc s.taken) }

  filters-by : (phase : ℕ) (command : Command) → slice_get s.script s.taken ≡ Some (phase, command) → filter_set_at s (suc s.taken) ≡ filters_then s (plan_by s command)
  filters-by phase (commands.Subscribe f) e = refl
  filters-by phase (commands.Unsubscribe f) e = refl
  filters-by phase (commands.Advertise a) e = set-next s (phase, commands.Advertise a) e
  filters-by phase (commands.Unadvertise a) e = set-next s (phase, commands.Unadvertise a) e
  filters-by phase (commands.Publish n) e = set-next s (phase, commands.Publish n) e ∙ chosen-filters (accepts real (net_under s.semantics) (adverts_at s s.taken) n) id_then n (publishes_at s (suc s.taken))

  adverts-by : (phase : ℕ) (command : Command) → slice_get s.script s.taken ≡ Some (phase, command) → advert_set_at s (suc s.taken) ≡ adverts_then s (plan_by s command)
  adverts-by phase (commands.Subscribe f) e = advert-set-next s (phase, commands.Subscribe f) e
  adverts-by phase (commands.Unsubscribe f) e = advert-set-next s (phase, commands.Unsubscribe f) e
  adverts-by phase (commands.Advertise a) e = refl
  adverts-by phase (commands.Unadvertise a) e = refl
  adverts-by phase (commands.Publish n) e = advert-set-next s (phase, commands.Publish n) e ∙ chosen-adverts (accepts real (net_under s.semantics) (adverts_at s s.taken) n) id_then n (publishes_at s (suc s.taken))

  planned-step : (q : PlannedCommand) → next_plan s ≡ Some q → (step : ℕ × Command) × (slice_get s.script s.taken ≡ Some step) × (plan_by s step.1 ≡ q)
  planned-step q e = go (slice_get s.script s.taken) refl
    where
      go : (o : Option (ℕ × Command)) → slice_get s.script s.taken ≡ o → (step : ℕ × Command) × (slice_get s.script s.taken ≡ Some step) × (plan_by s step.1 ≡ q)
      go None w = absurd (bad (sym e ∙ ap (plan_in s) w))
        where
          bad : Some q ≡ None → ⊥
          bad x = cc
      go (Some step) w = (step, w, same_Some _ _ (sym (ap (plan_in s) w) ∙ e))

  pub filters-planned : (q : PlannedCommand) → next_plan s ≡ Some q → filter_set_at s (suc s.taken) ≡ filters_then s q
  filters-planned q e = let w = planned-step q e in filters-by w.0.0 w.0.1 w.1 ∙ ap (filters_then s) w.2

  pub adverts-planned : (q : PlannedCommand) → next_plan s ≡ Some q → advert_set_at s (suc s.taken) ≡ adverts_then s q
  adverts-planned q e = let w = planned-step q e in adverts-by w.0.0 w.0.1 w.1 ∙ ap (adverts_then s) w.2

pub filters-rise : (net : NetParts) → IsRising list_before (known_filters net.clients)
unfolding known_filters
filters-rise net = rising-set_of sub_laws (flat_map (λ client. script_filters client.script) net.clients)

pub adverts-rise : (net : NetParts) → IsRising list_before (known_adverts net.clients)
unfolding known_adverts
adverts-rise net = rising-set_of ad_laws (flat_map (λ client. script_adverts client.script) net.clients)

module _ (net : NetParts) (s : SessionParts) (steps : List (ℕ × NumberedCommand)) (fr ar : Numbers) (rs : List ℕ) (p : ℕ) (kept : IsNumbered net s steps fr ar rs p) where
  pub filters-within : (q : Planned) → PlansNext net s q → IsWithin fr.width (filters_moved q)
  filters-within (Filters moved) h = let w = kept.filters_width in record { gone_within = λ i m. omega (arith, h.1.gone_known i m, w); come_within = λ i m. omega (arith, h.1.come_known i m, w) }
  filters-within (Adverts moved) h = record { gone_within = λ i m. absurd m; come_within = λ i m. absurd m }
  filters-within (Publish id k) h = record { gone_within = λ i m. absurd m; come_within = λ i m. absurd m }
  filters-within (Refused o) h = record { gone_within = λ i m. absurd m; come_within = λ i m. absurd m }

  pub adverts-within : (q : Planned) → PlansNext net s q → IsWithin ar.width (adverts_moved q)
  adverts-within (Adverts moved) h = let w = kept.adverts_width in record { gone_within = λ i m. omega (arith, h.1.gone_known i m, w); come_within = λ i m. omega (arith, h.1.come_known i m, w) }
  adverts-within (Filters moved) h = record { gone_within = λ i m. absurd m; come_within = λ i m. absurd m }
  adverts-within (Publish id k) h = record { gone_within = λ i m. absurd m; come_within = λ i m. absurd m }
  adverts-within (Refused o) h = record { gone_within = λ i m. absurd m; come_within = λ i m. absurd m }

  module _ (fr-rises : IsRising nat_lt fr.members) (ar-rises : IsRising nat_lt ar.members) where
    filters-turned : (moved : Moved) → IsMoved list_before (known_filters net.clients) (filter_set_at s s.taken) (filter_set_at s (suc s.taken)) moved
        → picked (known_filters net.clients) (moved_row moved fr).members ≡ filter_set_at s (suc s.taken)
    filters-turned moved m =
        shifted sub_laws (known_filters net.clients) (filters-rise net) fr.members (gone moved) (come moved) fr-rises
        ∙ (ap (λ (z : Lists). union list_before (picked (known_filters net.clients) (come moved)) (minus list_before z (picked (known_filters net.clients) (gone moved)))) kept.filters_are
        ∙ m.turned)

    adverts-turned : (moved : Moved) → IsMoved list_before (known_adverts net.clients) (advert_set_at s s.taken) (advert_set_at s (suc s.taken)) moved
        → picked (known_adverts net.clients) (moved_row moved ar).members ≡ advert_set_at s (suc s.taken)
    adverts-turned moved m =
        shifted ad_laws (known_adverts net.clients) (adverts-rise net) ar.members (gone moved) (come moved) ar-rises
        ∙ (ap (λ (z : Lists). union list_before (picked (known_adverts net.clients) (come moved)) (minus list_before z (picked (known_adverts net.clients) (gone moved)))) kept.adverts_are
        ∙ m.turned)

    filters-still : (q : PlannedCommand) → next_plan s ≡ Some q → filters_then s q ≡ filter_set_at s s.taken → picked (known_filters net.clients) (moved_row Nothing fr).members ≡ filter_set_at s (suc s.taken)
    filters-still q e t = ap (λ (z : Numbers). picked (known_filters net.clients) z.members) (still-row fr) ∙ (kept.filters_are ∙ sym (filters-planned s q e ∙ t))

    adverts-still : (q : PlannedCommand) → next_plan s ≡ Some q → adverts_then s q ≡ advert_set_at s s.taken → picked (known_adverts net.clients) (moved_row Nothing ar).members ≡ advert_set_at s (suc s.taken)
    adverts-still q e t = ap (λ (z : Numbers). picked (known_adverts net.clients) z.members) (still-row ar) ∙ (kept.adverts_are ∙ sym (adverts-planned s q e ∙ t))

    next-filters-are : (q : Planned) → PlansNext net s q → picked (known_filters net.clients) (moved_row (filters_moved q) fr).members ≡ filter_set_at s (suc s.taken)
    next-filters-are (Filters moved) h = filters-turned moved h.1
    next-filters-are (Adverts moved) h = filters-still _ h.0.2 refl
    next-filters-are (Publish id k) h = filters-still _ h.3 refl
    next-filters-are (Refused o) h = filters-still _ h refl

    next-adverts-are : (q : Planned) → PlansNext net s q → picked (known_adverts net.clients) (moved_row (adverts_moved q) ar).members ≡ advert_set_at s (suc s.taken)
    next-adverts-are (Filters moved) h = adverts-still _ h.0.2 refl
    next-adverts-are (Adverts moved) h = adverts-turned moved h.1
    next-adverts-are (Publish id k) h = adverts-still _ h.3 refl
    next-adverts-are (Refused o) h = adverts-still _ h refl

    abbrev then : SessionParts
    then = session_parts s.client s.semantics s.script (suc s.taken) s.inbox s.room false

    by-lists : (fs xs : Lists) (os : List ℕ) (n : ℕ) → KeepsSession then fs xs os n → KeepsSession then (filters_at then then.taken) (adverts_at then then.taken) os n
    by-lists fs xs os n k = subst (λ (z : Lists). KeepsSession then z (adverts_at then then.taken) os n) k.own_filters (subst (λ (z : Lists). KeepsSession then fs z os n) k.own_adverts k)

    next-kept : (q : Planned) → PlansNext net s q → KeepsSession then (filters_at then then.taken) (adverts_at then then.taken) (refusals_by q rs) (publishes_by q p)
    next-kept (Filters moved) h = by-lists _ _ _ _ (committed s (filters_at s s.taken) (adverts_at s s.taken) rs p kept.kept _ h.0.2 (suc s.taken) refl)
    next-kept (Adverts moved) h = by-lists _ _ _ _ (committed s (filters_at s s.taken) (adverts_at s s.taken) rs p kept.kept _ h.0.2 (suc s.taken) refl)
    next-kept (Publish id k) h = by-lists _ _ _ _ (committed s (filters_at s s.taken) (adverts_at s s.taken) rs p kept.kept _ h.3 (suc s.taken) refl)
    next-kept (Refused o) h = by-lists _ _ _ _ (committed s (filters_at s s.taken) (adverts_at s s.taken) rs p kept.kept _ h (suc s.taken) refl)

    pub committed-by : (q : Planned) → PlansNext net s q → IsNumbered net then steps (moved_row (filters_moved q) fr) (moved_row (adverts_moved q) ar) (refusals_by q rs) (publishes_by q p)
    committed-by q h = record {
      semantics = kept.semantics;
      steps_mean = kept.steps_mean;
      filters_width = kept.filters_width;
      filters_are = next-filters-are q h;
      adverts_width = kept.adverts_width;
      adverts_are = next-adverts-are q h;
      kept = next-kept q h;
    }

pub refused-publish : (s : SessionParts) (o : ℕ) (id : Id) (n : List Attribute) → next_plan s ≡ Some (plans.Refused o) → next_plan s ≡ Some (plans.Publish id n) → ⊥
refused-publish s o id n e f = bad (same_Some _ _ (sym e ∙ f))
  where
    bad : plans.Refused o ≡ plans.Publish id n → ⊥
    bad q = cc
