-- What the code lists of a client's chances are exactly its prospects.
use Rattle.std.proofs.Common.{◌≡◌, inl, inr, ℕ, suc, ◌+◌, ◌-◌, ◌≤◌, Bool, true, false, List, [], map, take, length, slice_get, Option, Some, None, Result, Ok, Err, refl, sym, ap, subst, ◌∙◌, arith}
use Rattle.std.specs.Prelude.{IfOk, Vec}
use Rattle.std.specs.declared.alloc.Global.{Global}
use Rattle.std.proofs.lemmas.Option.{same_Some}
use Rattle.base.specs.Sets.{Has}
use Rattle.base.proofs.Lists.{get-map, map-get}
use Rattle.base.proofs.Numbers.{zero-add}
use Rattle.filter_types.specs.Notice.{Attribute}
use Rattle.filter_text.specs.Messages.{Lists}
use Rattle.filter_text.specs.declared.id.Id.{Id}
use Rattle.filter_text.specs.declared.command.Command.{Command}
use Rattle.filter_text.specs.declared.command.Command.TheVariants as commands
use Rattle.law_routing.specs.Clients.{filters_after, ordinal}
use Rattle.law_routing.specs.Net.{PhasedCommand, Publish}
use Rattle.law_routing.specs.Owed.{IsOwed}
use Rattle.law_routing.proofs.Listing.{pass-by, by-pass}
use Rattle.net_model.specs.Real.{real}
use Rattle.net_model.specs.Meaning.{phased_command}
use Rattle.net_model.specs.Parts.{NetParts}
use Rattle.net_model.specs.Nets.{script_in, script_of}
use Rattle.net_model.specs.Sound.{IsAmong}
use Rattle.output_flood.specs.declared.owed.OwedRow.{OwedRow}
use Rattle.output_flood.specs.Flooding.{net_in, row_of, AreRows, IsFlooding}
use Rattle.output_flood.specs.Held.{subscribed}
use Rattle.output_flood.specs.Publications.{is_met}
use Rattle.output_flood.proofs.Flooded.{Publisher, publisher_is}
use Rattle.output_flood.proofs.OwnFilters.{some_to, some_from}
use Rattle.output_flood.proofs.Publishing.{publish_back}
use Rattle.output_explain.specs.declared.prospect.Chance.{Chance}
use Rattle.output_explain.specs.declared.prospect.Chance.TheVariants as chances
use Rattle.output_explain.specs.declared.prospect.Prospect.{Prospect}
use Rattle.output_explain.specs.Asked.{IsPublish, commands_of}
use Rattle.output_explain.specs.Prospects.{IsMatchedSometime, IsGiven, HasChance, IsProspect, AreProspects}
use Rattle.output_explain.specs.Sought.{chance_by, chance_of, prospects_of, told_of}
use Rattle.output_explain.specs.Verdicts.{IsAccepted}
use Rattle.output_explain.proofs.Flooded.{row_tells}
use Rattle.output_explain.proofs.Judging.{owed_allowed}
use Rattle.output_explain.proofs.Looking.{same_self, told_has, told_row}
use Rattle.output_explain.proofs.Prospecting.{InClients, InScript, clients_to, clients_from, clients_rise, script_from}
use Rattle.output_explain.proofs.Telling.{script_is}

-- a filter that matches is in the client's list sometime exactly where it subscribes to one

met_to : (net : NetParts) (client : ℕ) (n : List Attribute) → is_met (subscribed (commands_of net client)) n ≡ true → IsMatchedSometime net client n
met_to net client n e =
    let w = by-pass (λ f. real.matches n f) (subscribed (commands_of net client)) e in
    let r = some_from (commands_of net client) [] w.0 (inr w.1) in record {
      count = r.0;
      filter = w.0;
      listed = subst (λ s. Has w.0 (filters_after real [] (take r.0 s))) (sym (script_is net client)) r.2;
      matches = w.2;
    }

met_from : (net : NetParts) (client : ℕ) (n : List Attribute) → IsMatchedSometime net client n → is_met (subscribed (commands_of net client)) n ≡ true
met_from net client n m =
    elim (some_to (commands_of net client) [] m.count m.filter (subst (λ s. Has m.filter (filters_after real [] (take m.count s))) (script_is net client) m.listed)) [
      | inl z ↦ absurd z
      | inr h ↦ pass-by (λ f. real.matches n f) m.filter (subscribed (commands_of net client)) h m.matches
    ]

module _ (net : NetParts) (client : ℕ) (id : Id) (index phase : ℕ) (notice : List Attribute) where
  abbrev Owed : Type 0
  Owed = IsOwed real (net_in net phase) id.publisher phase notice client

  -- what flooding tells of a publish
  abbrev pub Tells : Option Bool → Type 0
  Tells None = IsGiven net client id phase notice → ⊥
  Tells (Some true) = IsAccepted net id phase notice × Owed
  Tells (Some false) = IsGiven net client id phase notice × (Owed → ⊥)

  tells : IsPublish net id index phase notice → (rows : List OwedRow) → AreRows net client rows → (o : Option Bool) → told_of rows id ≡ o → Tells o
  tells publish rows are None e = λ given.
      let row = are.whole id.publisher id.ordinal phase notice given.0 given.1 in
      some_none row.0 (sym (told_has rows id (row_of id.publisher id.ordinal row.0) are.rising row.1 (same_self id)) ∙ e)
    where
      some_none : (b : Bool) → Some b ≡ None → ⊥
      some_none b q = absurd cc
  tells publish rows are (Some true) e =
      let t = row_tells net client id index phase notice publish rows are true (told_row rows id true e) in (t.0.0, t.1.0 refl)
  tells publish rows are (Some false) e =
      let t = row_tells net client id index phase notice publish rows are false (told_row rows id false e) in (t.0, (λ o. clash (t.1.1 o)))
    where
      clash : false ≡ true → ⊥
      clash q = absurd cc

  given_of : IsAccepted net id phase notice × Owed → IsGiven net client id phase notice
  given_of o = owed_allowed net client id phase notice o

  chance_to : (o : Option Bool) (m : Bool) (c : Chance) → Tells o → (m ≡ true → IsMatchedSometime net client notice) → chance_by o m ≡ Some c
      → HasChance net client id phase notice c
  chance_to (Some true) m c t k e = subst (HasChance net client id phase notice) (same_Some _ _ e) t
  chance_to (Some false) m c t k e = subst (HasChance net client id phase notice) (same_Some _ _ e) t
  chance_to None true c t k e = subst (HasChance net client id phase notice) (same_Some _ _ e) (k refl, t)
  chance_to None false c t k e = absurd cc

  chance_from : (o : Option Bool) (m : Bool) (c : Chance) → Tells o → (IsMatchedSometime net client notice → m ≡ true)
      → HasChance net client id phase notice c → chance_by o m ≡ Some c
  chance_from (Some true) m chances.Owed t k h = refl
  chance_from (Some true) m chances.May t k h = absurd (h.1 t.1)
  chance_from (Some true) m chances.Near t k h = absurd (h.1 (given_of t))
  chance_from (Some false) m chances.Owed t k h = absurd (t.1 h.1)
  chance_from (Some false) m chances.May t k h = refl
  chance_from (Some false) m chances.Near t k h = absurd (h.1 t.0)
  chance_from None m chances.Owed t k h = absurd (t (given_of h))
  chance_from None m chances.May t k h = absurd (t h.0)
  chance_from None true chances.Near t k h = refl
  chance_from None false chances.Near t k h = absurd (clash (k h.0))
    where
      clash : false ≡ true → ⊥
      clash q = absurd cc

module _ (net : NetParts) (client : ℕ) (rows : List OwedRow) (are : AreRows net client rows) where
  abbrev chance : Id → List Attribute → Option Chance
  chance = chance_of rows (subscribed (commands_of net client))

  prospect_to : (p : Prospect) → InClients chance 0 net.clients p → IsProspect net client p
  prospect_to p w = record {
    index = here.place;
    phase = here.phase;
    publish = publish;
    chance = chance_to net client p.id here.place here.phase p.notice (told_of rows p.id) (is_met (subscribed (commands_of net client)) p.notice) p.chance
        (tells net client p.id here.place here.phase p.notice publish rows are (told_of rows p.id) refl) (met_to net client p.notice) here.has;
  }
    where
      here : InScript chance (suc (0 + w.at_place)) 0 w.client.script p
      here = w.here

      script : script_of net p.id.publisher ≡ map phased_command w.client.script
      script = ap (script_of net) (here.of_publisher ∙ ap suc (zero-add w.at_place)) ∙ ap script_in w.at

      publish : IsPublish net p.id here.place here.phase p.notice
      publish = record {
        at =
            ap (λ s. slice_get s here.place) script
            ∙ get-map phased_command w.client.script here.place (here.phase, commands.Publish p.notice) here.at;
        ordinal =
            ap (λ s. ordinal real (take (suc here.place) s)) script
            ∙ sym (zero-add (ordinal real (take (suc here.place) (map phased_command w.client.script)))) ∙ here.number;
      }

  prospect_from : (p : Prospect) → IsProspect net client p → Has p (prospects_of chance 0 net.clients)
  prospect_from p x = go (map-get phased_command w.client.script x.index (record { phase = x.phase; command = Publish p.notice })
      (ap (λ s. slice_get s x.index) (sym script) ∙ x.publish.at))
    where
      w : Publisher net p.id.publisher
      w = publisher_is net p.id.publisher x.index (record { phase = x.phase; command = Publish p.notice }) x.publish.at

      step : ℕ → Command → ℕ × Command
      step k c = (k, c)

      script : script_of net p.id.publisher ≡ map phased_command w.client.script
      script = ap (script_of net) w.number ∙ ap script_in w.at

      has : chance p.id p.notice ≡ Some p.chance
      has = chance_from net client p.id x.index x.phase p.notice (told_of rows p.id) (is_met (subscribed (commands_of net client)) p.notice) p.chance
          (tells net client p.id x.index x.phase p.notice x.publish rows are (told_of rows p.id) refl) (met_from net client p.notice) x.chance

      go : ((y : ℕ × Command) × (slice_get w.client.script x.index ≡ Some y) × (phased_command y ≡ record { phase = x.phase; command = Publish p.notice }))
          → Has p (prospects_of chance 0 net.clients)
      go (y, at, same) =
          clients_from chance 0 net.clients p w.whose w.client w.at
          (script_from chance (suc (0 + w.whose)) 0 w.client.script p x.index x.phase
          (at ∙ ap (λ k. Some (step k y.1)) (ap (λ (z : PhasedCommand real). z.phase) same)
          ∙ ap (λ c. Some (step x.phase c)) (publish_back y.1 p.notice (ap (λ (z : PhasedCommand real). z.command) same)))
          (w.number ∙ ap suc (sym (zero-add w.whose)))
          (zero-add (ordinal real (take (suc x.index) (map phased_command w.client.script)))
          ∙ ap (λ s. ordinal real (take (suc x.index) s)) (sym script) ∙ x.publish.ordinal)
          has)

  pub are_prospects : AreProspects net client (prospects_of chance 0 net.clients)
  are_prospects = record {
    exactly = λ p. ((λ h. prospect_to p (clients_to chance 0 net.clients p h)), prospect_from p);
    rising = clients_rise chance 0 net.clients;
  }

-- the answer by what flooding gives, and by the filters to which the client subscribes
pub prospects_ok : {E : Type 0} (net : NetParts) (all : List (List OwedRow)) (refused : List (List ℕ)) (client : ℕ) (rows : List OwedRow) (filters : Lists)
    → IsFlooding net all refused → IsAmong (length net.clients) client → slice_get all (client - 1) ≡ Some rows → filters ≡ subscribed (commands_of net client)
    → (r : Result (Vec Prospect Global) E) → IfOk r (λ list. list.items ≡ prospects_of (chance_of rows filters) 0 net.clients)
    → IfOk r (λ list. AreProspects net client list.items)
prospects_ok net all refused client rows filters flooding among at named (Err e) is = tt
prospects_ok net all refused client rows filters flooding among at named (Ok list) is =
    subst (AreProspects net client) (sym (is ∙ ap (λ f. prospects_of (chance_of rows f) 0 net.clients) named)) (are_prospects net client rows are)
  where
    counted : (n : ℕ) → 1 ≤ n → suc (n - 1) ≡ n
    counted n l = omega (arith, l)

    are : AreRows net client rows
    are = subst (λ k. AreRows net k rows) (counted client among.0) (flooding.of_client (client - 1) rows at)
