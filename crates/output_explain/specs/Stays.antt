-- When a filter or an advertisement is in force within a phase, and how the code finds it out.
use Rattle.std.specs.Prelude.{ℕ, suc, ◌-◌, ◌≤◌, ◌<◌, ◌&&◌, Bool, true, false, cond, List, [], ◌∷◌, drop, length, Option, Some, None}
use Rattle.std.specs.Ordering.{eq_by_cmp}
use Rattle.filter_constraints.specs.Constraint.{ConstraintParts}
use Rattle.filter_constraints.specs.Order.{list_cmp}
use Rattle.filter_types.specs.Cover.{filter_covers, advert_covers}
use Rattle.filter_text.specs.declared.command.Command.{Command}
use Rattle.filter_text.specs.declared.command.Command.TheVariants as commands
use Rattle.output_flood.specs.Held.{Script}
use Rattle.output_explain.specs.declared.stay.Effect.{Effect}
use Rattle.output_explain.specs.declared.stay.Effect.TheVariants as effects
use Rattle.output_explain.specs.declared.stay.Stay.{Stay}

-- the moment of a command, or else another one
abbrev pub moment_or : Option ℕ → ℕ → ℕ
moment_or None other = other
moment_or (Some moment) other = moment

-- of the moments from one to another, what holds for the first time holds at the first of them, or first at this one
abbrev pub HoldsSince : (ℕ → Type 0) → ℕ → ℕ → Option ℕ → Type 0
HoldsSince Holds from upto None = Holds from
HoldsSince Holds from upto (Some moment) =
    (from < moment) × (moment ≤ upto) × Holds moment × ((count : ℕ) → from ≤ count → count < moment → Holds count → ⊥)

-- from a moment on it holds to the end, or up to this moment, at which it doesn't for the first time
abbrev pub HoldsUntil : (ℕ → Type 0) → ℕ → ℕ → Option ℕ → Type 0
HoldsUntil Holds start upto None = (count : ℕ) → start ≤ count → count ≤ upto → Holds count
HoldsUntil Holds start upto (Some moment) =
    (start < moment) × (moment ≤ upto) × (Holds moment → ⊥) × ((count : ℕ) → start ≤ count → count < moment → Holds count)

-- THE FIRST TIME of what holds at some of the moments from one to another: since when, and until when
pub record IsFirstStay (Holds : ℕ → Type 0) (from upto : ℕ) (stay : Stay) : Type 0 where
  pub since : HoldsSince Holds from upto stay.since
  pub until : HoldsUntil Holds (moment_or stay.since from) upto stay.until

-- there is none
abbrev pub is_none : Option ℕ → Bool
is_none None = true
is_none (Some moment) = false

-- it is all the time
abbrev pub is_throughout : Stay → Bool
is_throughout stay = is_none stay.since && is_none stay.until

-- what a command does to a filter in the client's list
abbrev pub filter_effect : List ConstraintParts → Command → Effect
filter_effect f (commands.Subscribe g) = cond (eq_by_cmp list_cmp f g) effects.Adds effects.Leaves
filter_effect f (commands.Unsubscribe g) = cond (filter_covers g f) effects.Withdraws effects.Leaves
filter_effect f (commands.Advertise a) = effects.Leaves
filter_effect f (commands.Unadvertise a) = effects.Leaves
filter_effect f (commands.Publish n) = effects.Leaves

-- and to an advertisement
abbrev pub advert_effect : List ConstraintParts → Command → Effect
advert_effect a (commands.Subscribe f) = effects.Leaves
advert_effect a (commands.Unsubscribe f) = effects.Leaves
advert_effect a (commands.Advertise b) = cond (eq_by_cmp list_cmp a b) effects.Adds effects.Leaves
advert_effect a (commands.Unadvertise b) = cond (advert_covers b a) effects.Withdraws effects.Leaves
advert_effect a (commands.Publish n) = effects.Leaves

-- whether it is there after an effect
abbrev pub there_after : Bool → Effect → Bool
there_after there effects.Adds = true
there_after there effects.Withdraws = false
there_after there effects.Leaves = there

-- and after commands
abbrev pub is_there : (Command → Effect) → Bool → Script → Bool
is_there effect there [] = there
is_there effect there (step ∷ steps) = is_there effect (there_after there (effect step.1)) steps

-- the same effect
abbrev pub same_effect : Effect → Effect → Bool
same_effect effects.Adds effects.Adds = true
same_effect effects.Withdraws effects.Withdraws = true
same_effect effects.Leaves effects.Leaves = true
same_effect one other = false

-- of commands behind so many others the first with this effect: how many are taken with it
abbrev pub moment_of : (Command → Effect) → Effect → ℕ → Script → Option ℕ
moment_of effect wanted count [] = None
moment_of effect wanted count (step ∷ steps) = cond (same_effect (effect step.1) wanted) (Some (suc count)) (moment_of effect wanted (suc count) steps)

-- the stay of what isn't there at first, by when it comes
abbrev pub stay_since : (Command → Effect) → ℕ → Script → Option ℕ → Option Stay
stay_since effect count steps None = None
stay_since effect count steps (Some moment) =
    Some (record { since = Some moment; until = moment_of effect effects.Withdraws moment (drop (moment - count) steps) })

-- the first stay among commands behind others
abbrev pub stay_of : (Command → Effect) → Script → Script → Option Stay
stay_of effect before within =
    cond (is_there effect false before)
    (Some (record { since = None; until = moment_of effect effects.Withdraws (length before) within }))
    (stay_since effect (length before) within (moment_of effect effects.Adds (length before) within))
