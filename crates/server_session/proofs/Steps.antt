-- Lemmas on a script by numbers, step by step.
use Rattle.std.proofs.Common.{◌≡◌, ℕ, zero, suc, ◌+◌, Bool, true, false, cond, List, [], ◌∷◌, length, map, take, slice_get, Some, refl, ap, subst, ◌∙◌, arith}
use Rattle.std.proofs.lemmas.Option.{same_Some}
use Rattle.filter_text.specs.declared.command.Command.{Command}
use Rattle.filter_text.specs.declared.command.Command.TheVariants as commands
use Rattle.law_routing.specs.Clients.{is_publish, ordinal}
use Rattle.net_model.specs.Real.{real}
use Rattle.net_model.specs.Parts.{ClientParts}
use Rattle.net_model.specs.Meaning.{phased_command, command_of}
use Rattle.net_tables.specs.declared.numbered.NumberedCommand.{NumberedCommand}
use Rattle.net_tables.specs.Known.{publishes_after}
use Rattle.net_tables.specs.Numbered.{Catalogued, RepresentsCommand, AreNumbered, AllNumbered}

-- so many steps as commands
pub numbered-long : (known : Catalogued) (client count : ℕ) (steps : List (ℕ × NumberedCommand)) (script : List (ℕ × Command)) → AreNumbered known client count steps script → length steps ≡ length script
numbered-long known client count [] [] n = refl
numbered-long known client count [] (s ∷ ss) n = absurd n
numbered-long known client count (n ∷ ns) [] h = absurd h
numbered-long known client count (n ∷ ns) (s ∷ ss) h = ap suc (numbered-long known client (publishes_after count s.1) ns ss h.2)

after-is : (count : ℕ) (command : Command) → publishes_after count command ≡ cond (is_publish real (command_of command)) (suc count) count
after-is count (commands.Subscribe f) = refl
after-is count (commands.Unsubscribe f) = refl
after-is count (commands.Advertise a) = refl
after-is count (commands.Unadvertise a) = refl
after-is count (commands.Publish n) = refl

-- a step represents its command, with as many publishes before it as the script has
pub step-represents : (known : Catalogued) (client count : ℕ) (steps : List (ℕ × NumberedCommand)) (script : List (ℕ × Command)) → AreNumbered known client count steps script
    → (j : ℕ) (n : ℕ × NumberedCommand) (s : ℕ × Command) → slice_get steps j ≡ Some n → slice_get script j ≡ Some s
    → RepresentsCommand known client (count + ordinal real (take j (map phased_command script))) s.0 n.1 s.1
step-represents known client count [] [] h j n s e f = absurd cc
step-represents known client count [] (x ∷ xs) h j n s e f = absurd h
step-represents known client count (m ∷ ms) [] h j n s e f = absurd h
step-represents known client count (m ∷ ms) (x ∷ xs) h zero n s e f =
    let a : m ≡ n = same_Some m n e in
    let b : x ≡ s = same_Some x s f in
    let none : count ≡ count + 0 = omega arith in
    subst (λ (z : ℕ). RepresentsCommand known client z s.0 n.1 s.1) none (subst (λ (z : ℕ × NumberedCommand). RepresentsCommand known client count s.0 z.1 s.1) a (subst (λ (z : ℕ × Command). RepresentsCommand known client count z.0 m.1 z.1) b h.1))
step-represents known client count (m ∷ ms) (x ∷ xs) h (suc j) n s e f =
    let ih = step-represents known client (publishes_after count x.1) ms xs h.2 j n s e f in
    let b = is_publish real (command_of x.1) in
    subst (λ (z : ℕ). RepresentsCommand known client z s.0 n.1 s.1) (ap (λ z. z + ordinal real (take j (map phased_command xs))) (after-is count x.1) ∙ counted b) ih
  where
    counted : (b : Bool) → cond b (suc count) count + ordinal real (take j (map phased_command xs)) ≡ count + cond b (suc (ordinal real (take j (map phased_command xs)))) (ordinal real (take j (map phased_command xs)))
    counted true = omega arith
    counted false = refl

-- the steps of one client
pub client-steps : (known : Catalogued) (number : ℕ) (all : List (List (ℕ × NumberedCommand))) (clients : List ClientParts) → AllNumbered known number all clients
    → (j : ℕ) (steps : List (ℕ × NumberedCommand)) (c : ClientParts) → slice_get all j ≡ Some steps → slice_get clients j ≡ Some c → AreNumbered known (number + j) 0 steps c.script
client-steps known number [] [] h j steps c e f = absurd cc
client-steps known number [] (x ∷ xs) h j steps c e f = absurd h
client-steps known number (n ∷ ns) [] h j steps c e f = absurd h
client-steps known number (n ∷ ns) (x ∷ xs) h zero steps c e f =
    let a : n ≡ steps = same_Some n steps e in
    let b : x ≡ c = same_Some x c f in
    let none : number ≡ number + 0 = omega arith in
    subst (λ (z : ℕ). AreNumbered known z 0 steps c.script) none (subst (λ (z : List (ℕ × NumberedCommand)). AreNumbered known number 0 z c.script) a (subst (λ (z : ClientParts). AreNumbered known number 0 n z.script) b h.0))
client-steps known number (n ∷ ns) (x ∷ xs) h (suc j) steps c e f =
    let ih = client-steps known (suc number) ns xs h.1 j steps c e f in
    let next : suc number + j ≡ number + suc j = omega arith in
    subst (λ (z : ℕ). AreNumbered known z 0 steps c.script) next ih

-- as many of them as clients
pub all-long : (known : Catalogued) (number : ℕ) (all : List (List (ℕ × NumberedCommand))) (clients : List ClientParts) → AllNumbered known number all clients → length all ≡ length clients
all-long known number [] [] n = refl
all-long known number [] (s ∷ ss) n = absurd n
all-long known number (n ∷ ns) [] h = absurd h
all-long known number (n ∷ ns) (s ∷ ss) h = ap suc (all-long known (suc number) ns ss h.1)
