-- A client's filters and advertisements through its script, by what each command does to one of them.
use Rattle.std.proofs.Common.{◌≡◌, ◌↔◌, inl, inr, ℕ, suc, ◌+◌, Bool, true, false, cond, List, [], ◌∷◌, map, take, refl, subst, arith}
use Rattle.std.specs.Ordering.{eq_by_cmp}
use Rattle.base.specs.Sets.{Has}
use Rattle.filter_constraints.specs.Constraint.{ConstraintParts}
use Rattle.filter_constraints.specs.Order.{list_cmp}
use Rattle.filter_types.specs.Cover.{filter_covers, advert_covers}
use Rattle.filter_types.proofs.BeforeLaws.{equal_alike, alike_equal}
use Rattle.filter_text.specs.declared.command.Command.{Command}
use Rattle.filter_text.specs.declared.command.Command.TheVariants as commands
use Rattle.filter_text.specs.Messages.{Lists}
use Rattle.law_routing.specs.Clients.{filters_step, adverts_step, filters_after, adverts_after}
use Rattle.law_routing.proofs.Owning.{added, kept}
use Rattle.net_model.specs.Real.{real, real_laws}
use Rattle.net_model.specs.Meaning.{command_of, phased_command}
use Rattle.output_flood.specs.Held.{Script}
use Rattle.output_explain.specs.declared.stay.Effect.{Effect}
use Rattle.output_explain.specs.declared.stay.Effect.TheVariants as effects
use Rattle.output_explain.specs.Stays.{filter_effect, advert_effect}
use Rattle.output_explain.proofs.Staying.{After, Follows}

not_both : (b : Bool) → b ≡ true → b ≡ false → ⊥
not_both true p q = absurd cc
not_both false p q = absurd cc

filter_step : (f : List ConstraintParts) (c : Command) (ys : Lists) → After (filter_effect f c) (Has f ys) (Has f (filters_step real ys (command_of c)))
filter_step f (commands.Subscribe g) ys = go (eq_by_cmp list_cmp f g) refl
  where
    go : (b : Bool) → eq_by_cmp list_cmp f g ≡ b
        → After (cond b effects.Adds effects.Leaves) (Has f ys) (Has f (filters_step real ys (command_of (commands.Subscribe g))))
    go true e = (added real_laws.filters ys g f).1 (inl (equal_alike f g e))
    go false e = (
      (λ h. (added real_laws.filters ys g f).1 (inr h)),
      (λ h. elim ((added real_laws.filters ys g f).0 h) [ inl q ↦ absurd (not_both (eq_by_cmp list_cmp f g) (alike_equal f g q) e) | inr r ↦ r ]),
    )
filter_step f (commands.Unsubscribe g) ys = go (filter_covers g f) refl
  where
    go : (b : Bool) → filter_covers g f ≡ b
        → After (cond b effects.Withdraws effects.Leaves) (Has f ys) (Has f (filters_step real ys (command_of (commands.Unsubscribe g))))
    go true e = λ h. not_both (filter_covers g f) e ((kept filter_covers ys g f).0 h).1
    go false e = ((λ h. (kept filter_covers ys g f).1 (h, e)), (λ h. ((kept filter_covers ys g f).0 h).0))
filter_step f (commands.Advertise a) ys = ((λ h. h), (λ h. h))
filter_step f (commands.Unadvertise a) ys = ((λ h. h), (λ h. h))
filter_step f (commands.Publish n) ys = ((λ h. h), (λ h. h))

advert_step : (a : List ConstraintParts) (c : Command) (ys : Lists) → After (advert_effect a c) (Has a ys) (Has a (adverts_step real ys (command_of c)))
advert_step a (commands.Subscribe f) ys = ((λ h. h), (λ h. h))
advert_step a (commands.Unsubscribe f) ys = ((λ h. h), (λ h. h))
advert_step a (commands.Advertise b) ys = go (eq_by_cmp list_cmp a b) refl
  where
    go : (t : Bool) → eq_by_cmp list_cmp a b ≡ t
        → After (cond t effects.Adds effects.Leaves) (Has a ys) (Has a (adverts_step real ys (command_of (commands.Advertise b))))
    go true e = (added real_laws.adverts ys b a).1 (inl (equal_alike a b e))
    go false e = (
      (λ h. (added real_laws.adverts ys b a).1 (inr h)),
      (λ h. elim ((added real_laws.adverts ys b a).0 h) [ inl q ↦ absurd (not_both (eq_by_cmp list_cmp a b) (alike_equal a b q) e) | inr r ↦ r ]),
    )
advert_step a (commands.Unadvertise b) ys = go (advert_covers b a) refl
  where
    go : (t : Bool) → advert_covers b a ≡ t
        → After (cond t effects.Withdraws effects.Leaves) (Has a ys) (Has a (adverts_step real ys (command_of (commands.Unadvertise b))))
    go true e = λ h. not_both (advert_covers b a) e ((kept advert_covers ys b a).0 h).1
    go false e = ((λ h. (kept advert_covers ys b a).1 (h, e)), (λ h. ((kept advert_covers ys b a).0 h).0))
advert_step a (commands.Publish n) ys = ((λ h. h), (λ h. h))

-- the same of what is there exactly where these are
alike : (done : Effect) (A B C D : Type 0) → A ↔ C → B ↔ D → After done C D → After done A B
alike effects.Adds A B C D p q now = q.1 now
alike effects.Withdraws A B C D p q never = λ h. never (q.0 h)
alike effects.Leaves A B C D p q same = ((λ h. q.1 (same.0 (p.0 h))), (λ h. p.1 (same.1 (q.0 h))))

pub none_taken : {A : Type 0} (xs : List A) → take 0 xs ≡ []
none_taken [] = refl
none_taken (x ∷ xs) = refl

plus_one : (count : ℕ) → count + 1 ≡ suc count
plus_one count = omega arith

plus_next : (count n : ℕ) → count + suc n ≡ suc count + n
plus_next count n = omega arith

abbrev filters_by : Lists → ℕ → Script → Lists
filters_by ys n script = filters_after real ys (take n (map phased_command script))

abbrev adverts_by : Lists → ℕ → Script → Lists
adverts_by ys n script = adverts_after real ys (take n (map phased_command script))

pub filter_follows : (f : List ConstraintParts) (script : Script) (ys : Lists) (count : ℕ) (Holds : ℕ → Type 0)
    → ((n : ℕ) → Holds (count + n) ↔ Has f (filters_by ys n script)) → Follows (filter_effect f) Holds count script
filter_follows f [] ys count Holds e = tt
filter_follows f (step ∷ steps) ys count Holds e = (
  alike (filter_effect f step.1) (Holds count) (Holds (suc count)) (Has f ys) (Has f (filters_step real ys (command_of step.1)))
      (let none : count + 0 ≡ count = omega arith in subst (λ z. Holds z ↔ Has f ys) none (e 0))
      (subst (λ z. Holds z ↔ Has f (filters_step real ys (command_of step.1))) (plus_one count)
      (subst (λ z. Holds (count + 1) ↔ Has f (filters_after real (filters_step real ys (command_of step.1)) z)) (none_taken (map phased_command steps)) (e 1)))
      (filter_step f step.1 ys),
  filter_follows f steps (filters_step real ys (command_of step.1)) (suc count) Holds
      (λ n. subst (λ z. Holds z ↔ Has f (filters_by (filters_step real ys (command_of step.1)) n steps)) (plus_next count n) (e (suc n))),
)

pub advert_follows : (a : List ConstraintParts) (script : Script) (ys : Lists) (count : ℕ) (Holds : ℕ → Type 0)
    → ((n : ℕ) → Holds (count + n) ↔ Has a (adverts_by ys n script)) → Follows (advert_effect a) Holds count script
advert_follows a [] ys count Holds e = tt
advert_follows a (step ∷ steps) ys count Holds e = (
  alike (advert_effect a step.1) (Holds count) (Holds (suc count)) (Has a ys) (Has a (adverts_step real ys (command_of step.1)))
      (let none : count + 0 ≡ count = omega arith in subst (λ z. Holds z ↔ Has a ys) none (e 0))
      (subst (λ z. Holds z ↔ Has a (adverts_step real ys (command_of step.1))) (plus_one count)
      (subst (λ z. Holds (count + 1) ↔ Has a (adverts_after real (adverts_step real ys (command_of step.1)) z)) (none_taken (map phased_command steps)) (e 1)))
      (advert_step a step.1 ys),
  advert_follows a steps (adverts_step real ys (command_of step.1)) (suc count) Holds
      (λ n. subst (λ z. Holds z ↔ Has a (adverts_by (adverts_step real ys (command_of step.1)) n steps)) (plus_next count n) (e (suc n))),
)
