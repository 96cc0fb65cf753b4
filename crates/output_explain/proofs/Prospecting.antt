-- What the code lists of the publications of all clients.
use Rattle.std.proofs.Common.{◌≡◌, inl, inr, ℕ, zero, suc, ◌+◌, ◌<◌, ◌≤◌, true, cond, List, [], ◌∷◌, map, take, slice_get, Option, Some, None, refl, sym, ap, subst, ◌∙◌, arith}
use Rattle.std.proofs.lemmas.Option.{same_Some}
use Rattle.std.proofs.lemmas.Bool.Decides.{nat_tests}
use Rattle.base.specs.Sets.{Has, IsRising}
use Rattle.base.proofs.Sets.{has-append, has-append-left, has-append-right, rising-append}
use Rattle.filter_types.specs.Notice.{Attribute}
use Rattle.filter_text.specs.declared.id.Id.{Id}
use Rattle.filter_text.specs.declared.command.Command.{Command}
use Rattle.filter_text.specs.declared.command.Command.TheVariants as commands
use Rattle.law_routing.specs.Clients.{is_publish, ordinal}
use Rattle.law_routing.specs.Net.{PhasedCommand}
use Rattle.net_model.specs.Real.{real}
use Rattle.net_model.specs.Meaning.{command_of, phased_command}
use Rattle.net_model.specs.Parts.{ClientParts}
use Rattle.output_flood.specs.Flooding.{id_before}
use Rattle.output_flood.specs.Held.{Script}
use Rattle.output_explain.specs.declared.prospect.Chance.{Chance}
use Rattle.output_explain.specs.declared.prospect.Prospect.{Prospect}
use Rattle.output_explain.specs.Asked.{publishes_after}
use Rattle.output_explain.specs.Prospects.{prospect_before}
use Rattle.output_explain.specs.Sought.{prospect_by, prospect_of, prospects_from, prospects_of}
use Rattle.output_explain.proofs.Listing.{none_taken}

abbrev pub id_of : ℕ → ℕ → Id
id_of publisher number = record { publisher = publisher; ordinal = number }

-- publishes are counted as in the runs
counted : (count : ℕ) (c : Command) (o : ℕ) → publishes_after count c + o ≡ count + cond (is_publish real (command_of c)) (suc o) o
counted count (commands.Subscribe f) o = refl
counted count (commands.Unsubscribe f) o = refl
counted count (commands.Advertise a) o = refl
counted count (commands.Unadvertise a) o = refl
counted count (commands.Publish n) o = omega arith

grows : (count : ℕ) (c : Command) → count ≤ publishes_after count c
grows count (commands.Subscribe f) = omega arith
grows count (commands.Unsubscribe f) = omega arith
grows count (commands.Advertise a) = omega arith
grows count (commands.Unadvertise a) = omega arith
grows count (commands.Publish n) = omega arith

first_one : (count : ℕ) (script : Script) → count + suc (ordinal real (take 0 (map phased_command script))) ≡ suc count
first_one count script = ap (λ (cs : List (PhasedCommand real)). count + suc (ordinal real cs)) (none_taken (map phased_command script)) ∙ one count
  where
    one : (count : ℕ) → count + 1 ≡ suc count
    one count = omega arith

module _ (chance : Id → List Attribute → Option Chance) where
  -- a publish of a script with a chance, behind so many publishes
  pub record InScript (publisher count : ℕ) (script : Script) (p : Prospect) : Type 0 where
    pub place : ℕ
    pub phase : ℕ
    pub at : slice_get script place ≡ Some (phase, commands.Publish p.notice)
    pub of_publisher : p.id.publisher ≡ publisher
    pub number : count + ordinal real (take (suc place) (map phased_command script)) ≡ p.id.ordinal
    pub has : chance p.id p.notice ≡ Some p.chance

  -- what is listed of one publish
  listed_to : (id : Id) (n : List Attribute) (o : Option Chance) → chance id n ≡ o → (p : Prospect) → Has p (prospect_by id n o)
      → (p.id ≡ id) × (p.notice ≡ n) × (chance p.id p.notice ≡ Some p.chance)
  listed_to id n None e p h = absurd h
  listed_to id n (Some c) e p (inl q) = (
    ap (λ (z : Prospect). z.id) q,
    ap (λ (z : Prospect). z.notice) q,
    ap (λ (z : Prospect). chance z.id z.notice) q ∙ e ∙ ap (λ (z : Prospect). Some z.chance) (sym q),
  )
  listed_to id n (Some c) e p (inr h) = absurd h

  listed_from : (p : Prospect) (o : Option Chance) → o ≡ Some p.chance → Has p (prospect_by p.id p.notice o)
  listed_from p None e = absurd cc
  listed_from p (Some c) e = inl (ap (λ z. made z) (sym (same_Some _ _ e)))
    where
      made : Chance → Prospect
      made c = record { id = p.id; notice = p.notice; chance = c }

  first_to : (publisher count phase : ℕ) (c : Command) (steps : Script) (p : Prospect) → Has p (prospect_of chance publisher count c)
      → InScript publisher count ((phase, c) ∷ steps) p
  first_to publisher count phase (commands.Subscribe f) steps p h = absurd h
  first_to publisher count phase (commands.Unsubscribe f) steps p h = absurd h
  first_to publisher count phase (commands.Advertise a) steps p h = absurd h
  first_to publisher count phase (commands.Unadvertise a) steps p h = absurd h
  first_to publisher count phase (commands.Publish n) steps p h =
      let t = listed_to (id_of publisher (suc count)) n (chance (id_of publisher (suc count)) n) refl p h in record {
        place = zero;
        phase = phase;
        at = ap (λ m. Some (step phase (commands.Publish m))) (sym t.1);
        of_publisher = ap (λ (z : Id). z.publisher) t.0;
        number = first_one count steps ∙ sym (ap (λ (z : Id). z.ordinal) t.0);
        has = t.2;
      }
    where
      step : ℕ → Command → ℕ × Command
      step k c = (k, c)

  pub script_to : (publisher count : ℕ) (script : Script) (p : Prospect) → Has p (prospects_from chance publisher count script)
      → InScript publisher count script p
  script_to publisher count [] p h = absurd h
  script_to publisher count (s ∷ steps) p h =
      elim (has-append p (prospect_of chance publisher count s.1) (prospects_from chance publisher (publishes_after count s.1) steps) h) [
        | inl a ↦ first_to publisher count s.0 s.1 steps p a
        | inr b ↦ later (script_to publisher (publishes_after count s.1) steps p b)
      ]
    where
      later : InScript publisher (publishes_after count s.1) steps p → InScript publisher count (s ∷ steps) p
      later w = record {
        place = suc w.place;
        phase = w.phase;
        at = w.at;
        of_publisher = w.of_publisher;
        number = sym (counted count s.1 (ordinal real (take (suc w.place) (map phased_command steps)))) ∙ w.number;
        has = w.has;
      }

  first_from : (publisher count phase : ℕ) (c : Command) (steps : Script) (p : Prospect) → c ≡ commands.Publish p.notice
      → p.id.publisher ≡ publisher → count + cond (is_publish real (command_of c)) (suc (ordinal real (take 0 (map phased_command steps)))) (ordinal real (take 0 (map phased_command steps))) ≡ p.id.ordinal
      → chance p.id p.notice ≡ Some p.chance → Has p (prospect_of chance publisher count c)
  first_from publisher count phase c steps p e whose number has =
      subst (λ z. Has p (prospect_of chance publisher count z)) (sym e)
      (subst (λ i. Has p (prospect_by i p.notice (chance i p.notice))) named (listed_from p (chance p.id p.notice) has))
    where
      sum : count + suc (ordinal real (take 0 (map phased_command steps))) ≡ p.id.ordinal
      sum =
          ap (λ z. count + cond (is_publish real (command_of z)) (suc (ordinal real (take 0 (map phased_command steps)))) (ordinal real (take 0 (map phased_command steps)))) (sym e)
          ∙ number

      named : p.id ≡ id_of publisher (suc count)
      named = ap (λ z. id_of z p.id.ordinal) whose ∙ ap (id_of publisher) (sym sum ∙ first_one count steps)

  pub script_from : (publisher count : ℕ) (script : Script) (p : Prospect) (place phase : ℕ)
      → slice_get script place ≡ Some (phase, commands.Publish p.notice) → p.id.publisher ≡ publisher
      → count + ordinal real (take (suc place) (map phased_command script)) ≡ p.id.ordinal → chance p.id p.notice ≡ Some p.chance
      → Has p (prospects_from chance publisher count script)
  script_from publisher count [] p place phase at whose number has = absurd cc
  script_from publisher count (s ∷ steps) p zero phase at whose number has =
      has-append-left p (prospect_of chance publisher count s.1) (prospects_from chance publisher (publishes_after count s.1) steps)
      (first_from publisher count s.0 s.1 steps p (ap (λ (z : ℕ × Command). z.1) (same_Some _ _ at)) whose number has)
  script_from publisher count (s ∷ steps) p (suc place) phase at whose number has =
      has-append-right p (prospect_of chance publisher count s.1) (prospects_from chance publisher (publishes_after count s.1) steps)
      (script_from publisher (publishes_after count s.1) steps p place phase at whose
      (counted count s.1 (ordinal real (take (suc place) (map phased_command steps))) ∙ number) has)

  -- ids rise
  first_id : (publisher count : ℕ) (c : Command) (p : Prospect) → Has p (prospect_of chance publisher count c)
      → (p.id.publisher ≡ publisher) × (count < p.id.ordinal) × (p.id.ordinal ≤ publishes_after count c)
  first_id publisher count (commands.Subscribe f) p h = absurd h
  first_id publisher count (commands.Unsubscribe f) p h = absurd h
  first_id publisher count (commands.Advertise a) p h = absurd h
  first_id publisher count (commands.Unadvertise a) p h = absurd h
  first_id publisher count (commands.Publish n) p h =
      let t = listed_to (id_of publisher (suc count)) n (chance (id_of publisher (suc count)) n) refl p h in
      let o : p.id.ordinal ≡ suc count = ap (λ (z : Id). z.ordinal) t.0 in (ap (λ (z : Id). z.publisher) t.0, omega (arith, o), omega (arith, o))

  script_id : (publisher count : ℕ) (script : Script) (p : Prospect) → Has p (prospects_from chance publisher count script)
      → (p.id.publisher ≡ publisher) × (count < p.id.ordinal)
  script_id publisher count [] p h = absurd h
  script_id publisher count (s ∷ steps) p h =
      elim (has-append p (prospect_of chance publisher count s.1) (prospects_from chance publisher (publishes_after count s.1) steps) h) [
        | inl a ↦ (let t = first_id publisher count s.1 p a in (t.0, t.1))
        | inr b ↦ (let t = script_id publisher (publishes_after count s.1) steps p b in (t.0, omega (arith, t.1, grows count s.1)))
      ]

  by_ordinal : (a b : Id) → a.publisher ≡ b.publisher → a.ordinal < b.ordinal → id_before a b ≡ true
  by_ordinal a b e l = grind (arith, nat_tests, e, l)

  by_publisher : (a b : Id) → a.publisher < b.publisher → id_before a b ≡ true
  by_publisher a b l = grind (arith, nat_tests, l)

  one_rises : (id : Id) (n : List Attribute) (o : Option Chance) → IsRising prospect_before (prospect_by id n o)
  one_rises id n None = tt
  one_rises id n (Some c) = ((λ y h. absurd h), tt)

  first_rises : (publisher count : ℕ) (c : Command) → IsRising prospect_before (prospect_of chance publisher count c)
  first_rises publisher count (commands.Subscribe f) = tt
  first_rises publisher count (commands.Unsubscribe f) = tt
  first_rises publisher count (commands.Advertise a) = tt
  first_rises publisher count (commands.Unadvertise a) = tt
  first_rises publisher count (commands.Publish n) = one_rises (id_of publisher (suc count)) n (chance (id_of publisher (suc count)) n)

  script_rises : (publisher count : ℕ) (script : Script) → IsRising prospect_before (prospects_from chance publisher count script)
  script_rises publisher count [] = tt
  script_rises publisher count (s ∷ steps) =
      rising-append prospect_before (prospect_of chance publisher count s.1) (prospects_from chance publisher (publishes_after count s.1) steps)
      (first_rises publisher count s.1) (script_rises publisher (publishes_after count s.1) steps)
      (λ x y h k.
      (let a = first_id publisher count s.1 x h in
      let b = script_id publisher (publishes_after count s.1) steps y k in
      by_ordinal x.id y.id (a.0 ∙ sym b.0) (omega (arith, a.2, b.1))))

  -- all clients
  pub record InClients (place : ℕ) (clients : List ClientParts) (p : Prospect) : Type 0 where
    pub at_place : ℕ
    pub client : ClientParts
    pub at : slice_get clients at_place ≡ Some client
    pub here : InScript (suc (place + at_place)) 0 client.script p

  none_more : (place : ℕ) → place ≡ place + 0
  none_more place = omega arith

  one_more : (place i : ℕ) → suc (suc place + i) ≡ suc (place + suc i)
  one_more place i = omega arith

  pub clients_to : (place : ℕ) (clients : List ClientParts) (p : Prospect) → Has p (prospects_of chance place clients) → InClients place clients p
  clients_to place [] p h = absurd h
  clients_to place (c ∷ cs) p h = elim (has-append p (prospects_from chance (suc place) 0 c.script) (prospects_of chance (suc place) cs) h) [
    | inl a ↦ record {
      at_place = zero;
      client = c;
      at = refl;
      here = script_to (suc (place + 0)) 0 c.script p (subst (λ z. Has p (prospects_from chance (suc z) 0 c.script)) (none_more place) a);
    }
    | inr b ↦ later (clients_to (suc place) cs p b)
  ]
    where
      later : InClients (suc place) cs p → InClients place (c ∷ cs) p
      later w = record { at_place = suc w.at_place; client = w.client; at = w.at; here = subst (λ z. InScript z 0 w.client.script p) (one_more place w.at_place) w.here }

  pub clients_from : (place : ℕ) (clients : List ClientParts) (p : Prospect) (i : ℕ) (client : ClientParts) → slice_get clients i ≡ Some client
      → Has p (prospects_from chance (suc (place + i)) 0 client.script) → Has p (prospects_of chance place clients)
  clients_from place [] p i client at h = absurd cc
  clients_from place (c ∷ cs) p zero client at h =
      has-append-left p (prospects_from chance (suc place) 0 c.script) (prospects_of chance (suc place) cs)
      (subst (λ z. Has p (prospects_from chance (suc z) 0 c.script)) (sym (none_more place))
      (subst (λ (z : ClientParts). Has p (prospects_from chance (suc (place + 0)) 0 z.script)) (sym (same_Some _ _ at)) h))
  clients_from place (c ∷ cs) p (suc i) client at h =
      has-append-right p (prospects_from chance (suc place) 0 c.script) (prospects_of chance (suc place) cs)
      (clients_from (suc place) cs p i client at (subst (λ z. Has p (prospects_from chance z 0 client.script)) (sym (one_more place i)) h))

  clients_id : (place : ℕ) (clients : List ClientParts) (p : Prospect) → Has p (prospects_of chance place clients) → place < p.id.publisher
  clients_id place clients p h = let w = clients_to place clients p h in let q = w.here.of_publisher in omega (arith, q)

  pub clients_rise : (place : ℕ) (clients : List ClientParts) → IsRising prospect_before (prospects_of chance place clients)
  clients_rise place [] = tt
  clients_rise place (c ∷ cs) =
      rising-append prospect_before (prospects_from chance (suc place) 0 c.script) (prospects_of chance (suc place) cs)
      (script_rises (suc place) 0 c.script) (clients_rise (suc place) cs)
      (λ x y h k.
      (let a = (script_id (suc place) 0 c.script x h).0 in
      let b = clients_id (suc place) cs y k in
      by_publisher x.id y.id (omega (arith, a, b))))
