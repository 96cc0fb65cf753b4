-- What is listed of a client agrees with what flooding tells and with each explanation.
use Rattle.std.proofs.Common.{◌≡◌, ℕ, Bool, true, false, List, slice_get, Some, refl, sym, ap, subst, ◌∙◌}
use Rattle.std.proofs.lemmas.Option.{same_Some}
use Rattle.base.specs.Sets.{Has}
use Rattle.filter_types.specs.Notice.{Attribute}
use Rattle.filter_text.specs.declared.id.Id.{Id}
use Rattle.law_routing.specs.Net.{Command, PhasedCommand, Publish}
use Rattle.law_routing.proofs.Scripts.{one-index}
use Rattle.net_model.specs.Real.{real}
use Rattle.net_model.specs.Parts.{NetParts}
use Rattle.net_model.specs.Nets.{script_of}
use Rattle.output_flood.specs.declared.owed.OwedRow.{OwedRow}
use Rattle.output_flood.specs.Flooding.{row_of, AreRows, HasRow, IsOwedRow}
use Rattle.output_explain.specs.declared.answer.Explanation.{Explanation}
use Rattle.output_explain.specs.declared.prospect.Chance.{Chance}
use Rattle.output_explain.specs.declared.prospect.Chance.TheVariants as chances
use Rattle.output_explain.specs.declared.prospect.Prospect.{Prospect}
use Rattle.output_explain.specs.declared.verdict.Verdict.TheVariants as verdicts
use Rattle.output_explain.specs.Asked.{IsPublish}
use Rattle.output_explain.specs.Explained.{IsExplanation}
use Rattle.output_explain.specs.Prospects.{HasChance, IsGiven, IsProspect, AreProspects, IsListed}
use Rattle.output_explain.specs.Verdicts.{IsAccepted, is_given, is_may}
use Rattle.output_explain.proofs.Flooded.{row_tells, may_given, may_not_owed, given_may}
use Rattle.output_explain.proofs.Judging.{owed_allowed}
use Rattle.output_explain.proofs.Promised.{notice_in}
use Rattle.output_explain.proofs.Prospecting.{id_of}

abbrev prospect_is : ℕ → ℕ → List Attribute → Chance → Prospect
prospect_is publisher ordinal notice chance = record { id = id_of publisher ordinal; notice = notice; chance = chance }

abbrev at_phase : ℕ → List Attribute → PhasedCommand real
at_phase phase notice = record { phase = phase; command = Publish notice }

as_publish : (c : PhasedCommand real) (phase : ℕ) (notice : List Attribute) → c.phase ≡ phase → c.command ≡ Publish notice → c ≡ at_phase phase notice
as_publish c phase notice p q = ap (λ z. phased z c.command) p ∙ ap (phased phase) q
  where
    phased : ℕ → Command real → PhasedCommand real
    phased k command = record { phase = k; command = command }

-- flooding

module _ (net : NetParts) (client : ℕ) (list : List OwedRow) (rows : AreRows net client list) (prospects : List Prospect) (are : AreProspects net client prospects)
    (publisher ordinal : ℕ) where
  -- a publication by its publish
  published : (phase : ℕ) (notice : List Attribute) → (a : IsAccepted net (id_of publisher ordinal) phase notice)
      → IsPublish net (id_of publisher ordinal) a.index phase notice
  published phase notice a = record { at = a.at ∙ ap Some (as_publish a.command phase notice a.phase a.publishes); ordinal = a.ordinal }

  listed : (chance : Chance) (phase : ℕ) (notice : List Attribute) → (a : IsAccepted net (id_of publisher ordinal) phase notice)
      → HasChance net client (id_of publisher ordinal) phase notice chance → IsListed publisher ordinal chance prospects
  listed chance phase notice a h =
      (notice, (are.exactly (prospect_is publisher ordinal notice chance)).1 (record { index = a.index; phase = phase; publish = published phase notice a; chance = h }))

  pub owed_row : IsListed publisher ordinal chances.Owed prospects → Has (row_of publisher ordinal true) list
  owed_row l = subst (λ must. Has (row_of publisher ordinal must) list) ((row_tells net client (id_of publisher ordinal) x.index x.phase l.0 x.publish list rows row.0 row.1).1.1 x.chance.1) row.1
    where
      x : IsProspect net client (prospect_is publisher ordinal l.0 chances.Owed)
      x = (are.exactly (prospect_is publisher ordinal l.0 chances.Owed)).0 l.1

      given : IsGiven net client (id_of publisher ordinal) x.phase l.0
      given = owed_allowed net client (id_of publisher ordinal) x.phase l.0 x.chance

      row : HasRow publisher ordinal list
      row = rows.whole publisher ordinal x.phase l.0 given.0 given.1

  pub row_owed : Has (row_of publisher ordinal true) list → IsListed publisher ordinal chances.Owed prospects
  row_owed h = listed chances.Owed row.phase row.notice row.published (row.published, row.must.0 refl)
    where
      row : IsOwedRow net client (row_of publisher ordinal true)
      row = rows.each (row_of publisher ordinal true) h

  pub may_row : IsListed publisher ordinal chances.May prospects → Has (row_of publisher ordinal false) list
  may_row l = go row.0 row.1
    where
      x : IsProspect net client (prospect_is publisher ordinal l.0 chances.May)
      x = (are.exactly (prospect_is publisher ordinal l.0 chances.May)).0 l.1

      row : HasRow publisher ordinal list
      row = rows.whole publisher ordinal x.phase l.0 x.chance.0.0 x.chance.0.1

      go : (must : Bool) → Has (row_of publisher ordinal must) list → Has (row_of publisher ordinal false) list
      go true h = absurd (x.chance.1 ((row_tells net client (id_of publisher ordinal) x.index x.phase l.0 x.publish list rows true h).1.0 refl))
      go false h = h

  pub row_may : Has (row_of publisher ordinal false) list → IsListed publisher ordinal chances.May prospects
  row_may h = listed chances.May row.phase row.notice row.published ((row.published, row.allowed), (λ o. clash (row.must.1 o)))
    where
      row : IsOwedRow net client (row_of publisher ordinal false)
      row = rows.each (row_of publisher ordinal false) h

      clash : false ≡ true → ⊥
      clash q = absurd cc

-- explanations

-- a publish of this number is one
one_publish : (net : NetParts) (id : Id) (i j k l : ℕ) (n m : List Attribute) → IsPublish net id i k n → IsPublish net id j l m → (k ≡ l) × (n ≡ m)
one_publish net id i j k l n m p q = (
  ap (λ (z : PhasedCommand real). z.phase) command,
  ap notice_in (ap (λ (z : PhasedCommand real). z.command) command),
)
  where
    place : i ≡ j
    place = one-index real (script_of net id.publisher) i j (at_phase k n) (at_phase l m) p.at q.at refl refl
        (p.ordinal ∙ sym q.ordinal)

    command : at_phase k n ≡ at_phase l m
    command = same_Some _ _ (sym p.at ∙ ap (slice_get (script_of net id.publisher)) place ∙ q.at)

module _ (net : NetParts) (e : Explanation) (x : IsExplanation net e) (prospects : List Prospect) (are : AreProspects net e.client prospects) where
  abbrev Listed : Chance → Type 0
  Listed chance = IsListed e.id.publisher e.id.ordinal chance prospects

  -- what is listed of the publication tells of its phase and of its notification
  told : (chance : Chance) → Listed chance → HasChance net e.client e.id e.phase e.notice chance
  told chance l =
      subst (λ k. HasChance net e.client e.id k e.notice chance) same.0
      (subst (λ n. HasChance net e.client e.id p.phase n chance) same.1 p.chance)
    where
      p : IsProspect net e.client (prospect_is e.id.publisher e.id.ordinal l.0 chance)
      p = (are.exactly (prospect_is e.id.publisher e.id.ordinal l.0 chance)).0 l.1

      same : (p.phase ≡ e.phase) × (l.0 ≡ e.notice)
      same = one_publish net e.id p.index x.index p.phase e.phase l.0 e.notice p.publish x.publish

  listing : (chance : Chance) → HasChance net e.client e.id e.phase e.notice chance → Listed chance
  listing chance h =
      (e.notice, (are.exactly (prospect_is e.id.publisher e.id.ordinal e.notice chance)).1 (record { index = x.index; phase = e.phase; publish = x.publish; chance = h }))

  pub owed_verdict : Listed chances.Owed → e.verdict ≡ verdicts.Owed
  owed_verdict l = x.owed.1 (told chances.Owed l)

  pub verdict_owed : e.verdict ≡ verdicts.Owed → Listed chances.Owed
  verdict_owed q = listing chances.Owed (x.owed.0 q)

  pub may_verdict : Listed chances.May → is_may e.verdict ≡ true
  may_verdict l = let h = told chances.May l in given_may e.verdict (x.allowed.1 h.0) (λ o. h.1 (x.owed.0 o).1)

  pub verdict_may : is_may e.verdict ≡ true → Listed chances.May
  verdict_may q =
      let given = x.allowed.0 (may_given e.verdict q) in
      listing chances.May (given, (λ o. may_not_owed e.verdict q (x.owed.1 (given.0, o))))

  pub near_verdict : Listed chances.Near → is_given e.verdict ≡ false
  near_verdict l = let h = told chances.Near l in go (is_given e.verdict) refl h.1
    where
      go : (b : Bool) → is_given e.verdict ≡ b → (IsGiven net e.client e.id e.phase e.notice → ⊥) → b ≡ false
      go true q never = absurd (never (x.allowed.0 q))
      go false q never = refl
