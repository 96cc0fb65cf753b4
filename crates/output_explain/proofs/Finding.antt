-- Finding a publish by its number.
use Rattle.std.proofs.Common.{◌≡◌, ◌==◌, ℕ, zero, suc, ◌+◌, Bool, true, false, cond, List, [], ◌∷◌, map, take, slice_get, Some, None, refl, sym, ap, subst, ◌∙◌, arith, eqb-true, eq-eqb}
use Rattle.std.proofs.lemmas.Option.{same_Some}
use Rattle.filter_types.specs.Notice.{Attribute}
use Rattle.filter_text.specs.declared.command.Command.{Command}
use Rattle.filter_text.specs.declared.command.Command.TheVariants as commands
use Rattle.law_routing.specs.Net.{PhasedCommand}
use Rattle.law_routing.specs.Clients.{is_publish, ordinal}
use Rattle.net_model.specs.Real.{real}
use Rattle.net_model.specs.Meaning.{command_of, phased_command}
use Rattle.output_flood.specs.Held.{Script}
use Rattle.output_explain.specs.declared.find.Found.{Found}
use Rattle.output_explain.specs.Asked.{publishes_after, found_by, found_from}
use Rattle.output_explain.proofs.Listing.{none_taken}

-- the publish that is found in a script behind so many commands and publishes
pub record IsFound (number index count : ℕ) (script : Script) (found : Found) : Type 0 where
  pub place : ℕ
  pub at_index : found.index ≡ index + place
  pub at : slice_get script place ≡ Some (found.phase, commands.Publish found.notice)
  pub ordinal : count + ordinal real (take (suc place) (map phased_command script)) ≡ number

later : (number index count phase : ℕ) (c : Command) (steps : Script) (found : Found) → is_publish real (command_of c) ≡ false
    → IsFound number (suc index) count steps found → IsFound number index count ((phase, c) ∷ steps) found
later number index count phase c steps found plain is = record {
  place = suc is.place;
  at_index = omega (arith, is.at_index);
  at = is.at;
  ordinal = ap (λ b. count + cond b (suc behind) behind) plain ∙ is.ordinal;
}
  where
    behind : ℕ
    behind = ordinal real (take (suc is.place) (map phased_command steps))

found_step : (number index count phase : ℕ) (c : Command) (steps : Script) (found : Found)
    → (found_from number (suc index) (publishes_after count c) steps ≡ Some found → IsFound number (suc index) (publishes_after count c) steps found)
    → found_by number index count phase c (found_from number (suc index) (publishes_after count c) steps) ≡ Some found
    → IsFound number index count ((phase, c) ∷ steps) found
found_step number index count phase (commands.Subscribe f) steps found ih e = later number index count phase (commands.Subscribe f) steps found refl (ih e)
found_step number index count phase (commands.Unsubscribe f) steps found ih e = later number index count phase (commands.Unsubscribe f) steps found refl (ih e)
found_step number index count phase (commands.Advertise a) steps found ih e = later number index count phase (commands.Advertise a) steps found refl (ih e)
found_step number index count phase (commands.Unadvertise a) steps found ih e = later number index count phase (commands.Unadvertise a) steps found refl (ih e)
found_step number index count phase (commands.Publish n) steps found ih e = go (suc count == number) refl e
  where
    here : suc count ≡ number → IsFound number index count ((phase, commands.Publish n) ∷ steps) (record { index = index; phase = phase; notice = n })
    here q = record {
      place = 0;
      at_index = omega arith;
      at = refl;
      ordinal = ap (λ (cs : List (PhasedCommand real)). count + suc (ordinal real cs)) (none_taken (map phased_command steps)) ∙ one count ∙ q;
    }
      where
        one : (count : ℕ) → count + 1 ≡ suc count
        one count = omega arith

    go : (b : Bool) → (suc count == number) ≡ b
        → cond b (Some (record { index = index; phase = phase; notice = n })) (found_from number (suc index) (suc count) steps) ≡ Some found
        → IsFound number index count ((phase, commands.Publish n) ∷ steps) found
    go true q f = subst (IsFound number index count ((phase, commands.Publish n) ∷ steps)) (same_Some _ _ f) (here (eqb-true (suc count) number q))
    go false q f =
        let is = ih f in record {
          place = suc is.place;
          at_index = omega (arith, is.at_index);
          at = is.at;
          ordinal = omega (arith, is.ordinal);
        }

pub found_is : (number index count : ℕ) (script : Script) (found : Found) → found_from number index count script ≡ Some found → IsFound number index count script found
found_is number index count [] found e = absurd cc
found_is number index count (step ∷ steps) found e =
    found_step number index count step.0 step.1 steps found (found_is number (suc index) (publishes_after count step.1) steps found) e

abbrev step_of : ℕ → Command → ℕ × Command
step_of phase c = (phase, c)

-- a command that is no publish is none
not_publish : (phase of_phase : ℕ) (c : Command) (n : List Attribute) → is_publish real (command_of c) ≡ false
    → Some (step_of phase c) ≡ Some (step_of of_phase (commands.Publish n)) → ⊥
not_publish phase of_phase c n plain e = clash (sym plain ∙ ap (λ (z : ℕ × Command). is_publish real (command_of z.1)) (same_Some _ _ e))
  where
    clash : false ≡ true → ⊥
    clash q = absurd cc

-- and where none is found there is none
unfound_step : (number index count phase : ℕ) (c : Command) (steps : Script) (place of_phase : ℕ) (n : List Attribute)
    → (found_from number (suc index) (publishes_after count c) steps ≡ None → (place : ℕ) → slice_get steps place ≡ Some (of_phase, commands.Publish n)
    → publishes_after count c + ordinal real (take (suc place) (map phased_command steps)) ≡ number → ⊥)
    → found_by number index count phase c (found_from number (suc index) (publishes_after count c) steps) ≡ None
    → slice_get ((phase, c) ∷ steps) place ≡ Some (of_phase, commands.Publish n)
    → count + ordinal real (take (suc place) (map phased_command ((phase, c) ∷ steps))) ≡ number → ⊥
unfound_step number index count phase (commands.Subscribe f) steps zero of_phase n ih e at o = not_publish phase of_phase (commands.Subscribe f) n refl at
unfound_step number index count phase (commands.Unsubscribe f) steps zero of_phase n ih e at o = not_publish phase of_phase (commands.Unsubscribe f) n refl at
unfound_step number index count phase (commands.Advertise a) steps zero of_phase n ih e at o = not_publish phase of_phase (commands.Advertise a) n refl at
unfound_step number index count phase (commands.Unadvertise a) steps zero of_phase n ih e at o = not_publish phase of_phase (commands.Unadvertise a) n refl at
unfound_step number index count phase (commands.Subscribe f) steps (suc place) of_phase n ih e at o = ih e place at o
unfound_step number index count phase (commands.Unsubscribe f) steps (suc place) of_phase n ih e at o = ih e place at o
unfound_step number index count phase (commands.Advertise a) steps (suc place) of_phase n ih e at o = ih e place at o
unfound_step number index count phase (commands.Unadvertise a) steps (suc place) of_phase n ih e at o = ih e place at o
unfound_step number index count phase (commands.Publish m) steps zero of_phase n ih e at o = go (suc count == number) refl e
  where
    one : (count : ℕ) → suc count ≡ count + 1
    one count = omega arith

    counted : suc count ≡ number
    counted = one count ∙ sym (ap (λ (cs : List (PhasedCommand real)). count + suc (ordinal real cs)) (none_taken (map phased_command steps))) ∙ o

    go : (b : Bool) → (suc count == number) ≡ b
        → cond b (Some (record { index = index; phase = phase; notice = m })) (found_from number (suc index) (suc count) steps) ≡ None → ⊥
    go true q f = absurd cc
    go false q f = not_false (sym (eq-eqb (suc count) number counted) ∙ q)
      where
        not_false : true ≡ false → ⊥
        not_false e = absurd cc
unfound_step number index count phase (commands.Publish m) steps (suc place) of_phase n ih e at o = go (suc count == number) refl e
  where
    go : (b : Bool) → (suc count == number) ≡ b
        → cond b (Some (record { index = index; phase = phase; notice = m })) (found_from number (suc index) (suc count) steps) ≡ None → ⊥
    go true q f = absurd cc
    go false q f = ih f place at (omega (arith, o))

pub unfound : (number index count : ℕ) (script : Script) → found_from number index count script ≡ None
    → (place phase : ℕ) (n : List Attribute) → slice_get script place ≡ Some (phase, commands.Publish n)
    → count + ordinal real (take (suc place) (map phased_command script)) ≡ number → ⊥
unfound number index count [] e place phase n at o = absurd cc
unfound number index count (step ∷ steps) e place phase n at o =
    unfound_step number index count step.0 step.1 steps place phase n
    (λ f p a q. unfound number (suc index) (publishes_after count step.1) steps f p phase n a q) e at o
