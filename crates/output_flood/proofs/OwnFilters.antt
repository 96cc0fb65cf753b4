-- A client's filters through its script are those of the runs.
use Rattle.std.proofs.Common.{◌≡◌, ℕ, zero, suc, ◌≤◌, Bool, true, false, ◌||◌, ◌⊎◌, inl, inr, List, [], ◌∷◌, ◌++◌, take, length, refl, zero-le, suc-le-suc}
use Rattle.base.specs.Sets.{Has}
use Rattle.filter_constraints.specs.Constraint.{ConstraintParts}
use Rattle.filter_types.specs.Cover.{filter_covers}
use Rattle.law_routing.specs.Clients.{filters_step, filters_after}
use Rattle.law_routing.proofs.Owning.{added, kept}
use Rattle.net_model.specs.Real.{real, real_laws}
use Rattle.filter_text.specs.declared.command.Command.{Command}
use Rattle.filter_text.specs.declared.command.Command.TheVariants as commands
use Rattle.net_model.specs.Meaning.{command_of}
use Rattle.filter_text.specs.Messages.{Lists}
use Rattle.output_flood.specs.Held.{Script, filter_step, filters_held, with_filter, subscribed, withdraws, withdrawn}
use Rattle.output_flood.proofs.Moments.{Same, ps}
use Rattle.base.proofs.Sets.{has-append-left, has-append-right, has-append}

step_same : (c : Command) (xs ys : Lists) → Same xs ys → Same (filter_step xs c) (filters_step real ys (command_of c))
step_same (commands.Subscribe f) xs ys same = λ x. (to x, from x)
  where
    to : (x : List ConstraintParts) → Has x (xs ++ f ∷ []) → Has x (filters_step real ys (command_of (commands.Subscribe f)))
    to x h = elim (has-append x xs (f ∷ []) h) [
      | inl a ↦ (added real_laws.filters ys f x).1 (inr ((same x).0 a))
      | inr b ↦ elim b [ inl e ↦ (added real_laws.filters ys f x).1 (inl e) | inr z ↦ absurd z ]
    ]

    from : (x : List ConstraintParts) → Has x (filters_step real ys (command_of (commands.Subscribe f))) → Has x (xs ++ f ∷ [])
    from x h = elim ((added real_laws.filters ys f x).0 h) [
      | inl e ↦ has-append-right x xs (f ∷ []) (inl e)
      | inr b ↦ has-append-left x xs (f ∷ []) ((same x).1 b)
    ]
step_same (commands.Unsubscribe f) xs ys same = λ x. (
  (λ h. let r = (kept filter_covers xs f x).0 h in (kept filter_covers ys f x).1 ((same x).0 r.0, r.1)),
  (λ h. let r = (kept filter_covers ys f x).0 h in (kept filter_covers xs f x).1 ((same x).1 r.0, r.1)),
)
step_same (commands.Advertise a) xs ys same = same
step_same (commands.Unadvertise a) xs ys same = same
step_same (commands.Publish n) xs ys same = same

pub held_same : (cs : Script) (xs ys : Lists) → Same xs ys → Same (filters_held xs cs) (filters_after real ys (ps cs))
held_same [] xs ys same = same
held_same (s ∷ cs) xs ys same = held_same cs (filter_step xs s.1) (filters_step real ys (command_of s.1)) (step_same s.1 xs ys same)

pub after_append : (one more : Script) (ys : Lists) → filters_after real ys (ps one ++ ps more) ≡ filters_after real (filters_after real ys (ps one)) (ps more)
after_append [] more ys = refl
after_append (s ∷ one) more ys = after_append one more (filters_step real ys (command_of s.1))

-- what is in the list at every moment is in it at first and is not withdrawn
stays : (c : Command) (ys : Lists) (f : List ConstraintParts) → Has f ys → withdraws c f ≡ false → Has f (filters_step real ys (command_of c))
stays (commands.Subscribe g) ys f h e = (added real_laws.filters ys g f).1 (inr h)
stays (commands.Unsubscribe g) ys f h e = (kept filter_covers ys g f).1 (h, e)
stays (commands.Advertise a) ys f h e = h
stays (commands.Unadvertise a) ys f h e = h
stays (commands.Publish n) ys f h e = h

stayed : (c : Command) (ys : Lists) (f : List ConstraintParts) → Has f (filters_step real ys (command_of c)) → withdraws c f ≡ false
stayed (commands.Subscribe g) ys f h = refl
stayed (commands.Unsubscribe g) ys f h = ((kept filter_covers ys g f).0 h).1
stayed (commands.Advertise a) ys f h = refl
stayed (commands.Unadvertise a) ys f h = refl
stayed (commands.Publish n) ys f h = refl

neither : (a b : Bool) → a ≡ false → b ≡ false → a || b ≡ false
neither a b p q = rw p q

left_false : (a b : Bool) → a || b ≡ false → a ≡ false
left_false true b e = e
left_false false b e = refl

right_false : (a b : Bool) → a || b ≡ false → b ≡ false
right_false true b e = absurd cc
right_false false b e = e

pub every_to : (cs : Script) (ys : Lists) (f : List ConstraintParts)
    → ((n : ℕ) → n ≤ length cs → Has f (filters_after real ys (take n (ps cs)))) → Has f ys × (withdrawn f cs ≡ false)
every_to [] ys f h = (h zero zero-le, refl)
every_to (s ∷ cs) ys f h =
    let ih = every_to cs (filters_step real ys (command_of s.1)) f (λ n l. h (suc n) (suc-le-suc l)) in
    (h zero zero-le, neither (withdraws s.1 f) (withdrawn f cs) (stayed s.1 ys f ih.0) ih.1)

pub every_from : (cs : Script) (ys : Lists) (f : List ConstraintParts) → Has f ys → withdrawn f cs ≡ false
    → (n : ℕ) → Has f (filters_after real ys (take n (ps cs)))
every_from [] ys f h e zero = h
every_from [] ys f h e (suc n) = h
every_from (s ∷ cs) ys f h e zero = h
every_from (s ∷ cs) ys f h e (suc n) =
    every_from cs (filters_step real ys (command_of s.1)) f (stays s.1 ys f h (left_false (withdraws s.1 f) (withdrawn f cs) e))
    (right_false (withdraws s.1 f) (withdrawn f cs) e) n

-- what is in the list at some moment is in it at first or is added
added_then : (c : Command) (ys : Lists) (f : List ConstraintParts) (rest : Lists)
    → Has f (filters_step real ys (command_of c)) ⊎ Has f rest → Has f ys ⊎ Has f (with_filter c rest)
added_then (commands.Subscribe g) ys f rest (inl h) = elim ((added real_laws.filters ys g f).0 h) [ inl e ↦ inr (inl e) | inr b ↦ inl b ]
added_then (commands.Subscribe g) ys f rest (inr r) = inr (inr r)
added_then (commands.Unsubscribe g) ys f rest (inl h) = inl ((kept filter_covers ys g f).0 h).0
added_then (commands.Unsubscribe g) ys f rest (inr r) = inr r
added_then (commands.Advertise a) ys f rest h = h
added_then (commands.Unadvertise a) ys f rest h = h
added_then (commands.Publish n) ys f rest h = h

pub some_to : (cs : Script) (ys : Lists) (n : ℕ) (f : List ConstraintParts) → Has f (filters_after real ys (take n (ps cs))) → Has f ys ⊎ Has f (subscribed cs)
some_to [] ys zero f h = inl h
some_to [] ys (suc n) f h = inl h
some_to (s ∷ cs) ys zero f h = inl h
some_to (s ∷ cs) ys (suc n) f h = added_then s.1 ys f (subscribed cs) (some_to cs (filters_step real ys (command_of s.1)) n f h)

then_added : (c : Command) (ys : Lists) (f : List ConstraintParts) (rest : Lists)
    → Has f (with_filter c rest) → Has f (filters_step real ys (command_of c)) ⊎ Has f rest
then_added (commands.Subscribe g) ys f rest (inl e) = inl ((added real_laws.filters ys g f).1 (inl e))
then_added (commands.Subscribe g) ys f rest (inr r) = inr r
then_added (commands.Unsubscribe g) ys f rest h = inr h
then_added (commands.Advertise a) ys f rest h = inr h
then_added (commands.Unadvertise a) ys f rest h = inr h
then_added (commands.Publish n) ys f rest h = inr h

pub some_from : (cs : Script) (ys : Lists) (f : List ConstraintParts) → Has f ys ⊎ Has f (subscribed cs)
    → (n : ℕ) × (n ≤ length cs) × Has f (filters_after real ys (take n (ps cs)))
some_from cs ys f (inl h) = (zero, zero-le, h)
some_from [] ys f (inr h) = absurd h
some_from (s ∷ cs) ys f (inr h) =
    let r = some_from cs (filters_step real ys (command_of s.1)) f (then_added s.1 ys f (subscribed cs) h) in
    (suc r.0, suc-le-suc r.1, r.2)
