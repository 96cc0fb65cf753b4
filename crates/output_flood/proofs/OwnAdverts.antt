-- A client's advertisements through its script are those of the runs.
use Rattle.std.proofs.Common.{◌≡◌, ℕ, zero, suc, ◌≤◌, Bool, true, false, ◌||◌, inl, inr, List, [], ◌∷◌, ◌++◌, take, length, refl, zero-le, suc-le-suc}
use Rattle.base.specs.Sets.{Has}
use Rattle.filter_constraints.specs.Constraint.{ConstraintParts}
use Rattle.filter_types.specs.Cover.{advert_covers}
use Rattle.law_routing.specs.Clients.{adverts_step, adverts_after}
use Rattle.law_routing.proofs.Owning.{added, kept}
use Rattle.net_model.specs.Real.{real, real_laws}
use Rattle.filter_text.specs.declared.command.Command.{Command}
use Rattle.filter_text.specs.declared.command.Command.TheVariants as commands
use Rattle.net_model.specs.Meaning.{command_of}
use Rattle.filter_text.specs.Messages.{Lists}
use Rattle.output_flood.specs.Held.{Script, advert_step, held_adverts, unadvertises, unadvertised}
use Rattle.output_flood.proofs.Moments.{Same, ps}
use Rattle.base.proofs.Sets.{has-append-left, has-append-right, has-append}

pub step_same : (c : Command) (xs ys : Lists) → Same xs ys → Same (advert_step xs c) (adverts_step real ys (command_of c))
step_same (commands.Advertise f) xs ys same = λ x. (to x, from x)
  where
    to : (x : List ConstraintParts) → Has x (xs ++ f ∷ []) → Has x (adverts_step real ys (command_of (commands.Advertise f)))
    to x h = elim (has-append x xs (f ∷ []) h) [
      | inl a ↦ (added real_laws.adverts ys f x).1 (inr ((same x).0 a))
      | inr b ↦ elim b [ inl e ↦ (added real_laws.adverts ys f x).1 (inl e) | inr z ↦ absurd z ]
    ]

    from : (x : List ConstraintParts) → Has x (adverts_step real ys (command_of (commands.Advertise f))) → Has x (xs ++ f ∷ [])
    from x h = elim ((added real_laws.adverts ys f x).0 h) [
      | inl e ↦ has-append-right x xs (f ∷ []) (inl e)
      | inr b ↦ has-append-left x xs (f ∷ []) ((same x).1 b)
    ]
step_same (commands.Unadvertise f) xs ys same = λ x. (
  (λ h. let r = (kept advert_covers xs f x).0 h in (kept advert_covers ys f x).1 ((same x).0 r.0, r.1)),
  (λ h. let r = (kept advert_covers ys f x).0 h in (kept advert_covers xs f x).1 ((same x).1 r.0, r.1)),
)
step_same (commands.Subscribe a) xs ys same = same
step_same (commands.Unsubscribe a) xs ys same = same
step_same (commands.Publish n) xs ys same = same

pub held_adverts_same : (cs : Script) (xs ys : Lists) → Same xs ys → Same (held_adverts xs cs) (adverts_after real ys (ps cs))
held_adverts_same [] xs ys same = same
held_adverts_same (s ∷ cs) xs ys same = held_adverts_same cs (advert_step xs s.1) (adverts_step real ys (command_of s.1)) (step_same s.1 xs ys same)

pub after_append : (one more : Script) (ys : Lists) → adverts_after real ys (ps one ++ ps more) ≡ adverts_after real (adverts_after real ys (ps one)) (ps more)
after_append [] more ys = refl
after_append (s ∷ one) more ys = after_append one more (adverts_step real ys (command_of s.1))

-- what is in the list at every moment is in it at first and is not unadvertised
stays : (c : Command) (ys : Lists) (f : List ConstraintParts) → Has f ys → unadvertises c f ≡ false → Has f (adverts_step real ys (command_of c))
stays (commands.Advertise g) ys f h e = (added real_laws.adverts ys g f).1 (inr h)
stays (commands.Unadvertise g) ys f h e = (kept advert_covers ys g f).1 (h, e)
stays (commands.Subscribe a) ys f h e = h
stays (commands.Unsubscribe a) ys f h e = h
stays (commands.Publish n) ys f h e = h

stayed : (c : Command) (ys : Lists) (f : List ConstraintParts) → Has f (adverts_step real ys (command_of c)) → unadvertises c f ≡ false
stayed (commands.Advertise g) ys f h = refl
stayed (commands.Unadvertise g) ys f h = ((kept advert_covers ys g f).0 h).1
stayed (commands.Subscribe a) ys f h = refl
stayed (commands.Unsubscribe a) ys f h = refl
stayed (commands.Publish n) ys f h = refl

neither : (a b : Bool) → a ≡ false → b ≡ false → a || b ≡ false
neither a b p q = rw p q

left_false : (a b : Bool) → a || b ≡ false → a ≡ false
left_false true b e = e
left_false false b e = refl

right_false : (a b : Bool) → a || b ≡ false → b ≡ false
right_false true b e = absurd cc
right_false false b e = e

pub every_to : (cs : Script) (ys : Lists) (f : List ConstraintParts)
    → ((n : ℕ) → n ≤ length cs → Has f (adverts_after real ys (take n (ps cs)))) → Has f ys × (unadvertised f cs ≡ false)
every_to [] ys f h = (h zero zero-le, refl)
every_to (s ∷ cs) ys f h =
    let ih = every_to cs (adverts_step real ys (command_of s.1)) f (λ n l. h (suc n) (suc-le-suc l)) in
    (h zero zero-le, neither (unadvertises s.1 f) (unadvertised f cs) (stayed s.1 ys f ih.0) ih.1)

pub every_from : (cs : Script) (ys : Lists) (f : List ConstraintParts) → Has f ys → unadvertised f cs ≡ false
    → (n : ℕ) → Has f (adverts_after real ys (take n (ps cs)))
every_from [] ys f h e zero = h
every_from [] ys f h e (suc n) = h
every_from (s ∷ cs) ys f h e zero = h
every_from (s ∷ cs) ys f h e (suc n) =
    every_from cs (adverts_step real ys (command_of s.1)) f (stays s.1 ys f h (left_false (unadvertises s.1 f) (unadvertised f cs) e))
    (right_false (unadvertises s.1 f) (unadvertised f cs) e) n
