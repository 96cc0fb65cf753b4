-- What the facts of filters and advertisements tell, by the lists that clients have at the moments of a phase.
use Rattle.std.specs.Prelude.{◌≡◌, ◌↔◌, ℕ, suc, true, List, [], map, take}
use Rattle.base.specs.Sets.{Has, IsRising}
use Rattle.filter_constraints.specs.Constraint.{ConstraintParts}
use Rattle.filter_types.specs.Before.{list_before}
use Rattle.filter_types.specs.Notice.{Attribute}
use Rattle.filter_text.specs.Messages.{Lists}
use Rattle.law_routing.specs.Clients.{filters_after, adverts_after, commands_below}
use Rattle.law_routing.specs.Owed.{IsMomentOfPhase}
use Rattle.net_model.specs.Real.{real}
use Rattle.net_model.specs.Parts.{NetParts}
use Rattle.net_model.specs.Nets.{script_of}
use Rattle.output_flood.specs.Flooding.{net_in}
use Rattle.output_explain.specs.declared.stay.Stay.{Stay}
use Rattle.output_explain.specs.declared.facts.FilterFact.{FilterFact}
use Rattle.output_explain.specs.declared.facts.AdvertFact.{AdvertFact}
use Rattle.output_explain.specs.Stays.{IsFirstStay}
use Rattle.output_explain.specs.Facts.{first_miss, first_denied}

-- a client's filters after so many of its commands
abbrev pub filters_then : NetParts → ℕ → ℕ → Lists
filters_then net client count = filters_after real [] (take count (script_of net client))

-- its advertisements
abbrev pub adverts_then : NetParts → ℕ → ℕ → Lists
adverts_then net client count = adverts_after real [] (take count (script_of net client))

-- the first time within a phase of what holds at moments of a client
abbrev pub IsStayOfPhase : NetParts → ℕ → ℕ → (ℕ → Type 0) → Stay → Type 0
IsStayOfPhase net client phase Holds stay =
    IsFirstStay Holds (commands_below real phase (script_of net client)) (commands_below real (suc phase) (script_of net client)) stay

-- what the fact of a filter tells
pub record IsFilterFact (net : NetParts) (client phase : ℕ) (notice : List Attribute) (fact : FilterFact) : Type 0 where
  pub miss : fact.miss ≡ first_miss notice fact.filter
  pub stay : IsStayOfPhase net client phase (λ count. Has fact.filter (filters_then net client count)) fact.stay

-- what the fact of an advertisement tells; at the publish so many commands are taken before it
pub record IsAdvertFact (net : NetParts) (client phase index : ℕ) (notice : List Attribute) (fact : AdvertFact) : Type 0 where
  pub denied : fact.denied ≡ first_denied fact.advert notice
  pub stay : IsStayOfPhase net client phase (λ count. Has fact.advert (adverts_then net client count)) fact.stay
  pub here : (fact.here ≡ true) ↔ Has fact.advert (adverts_then net client index)

abbrev pub fact_filters : List FilterFact → Lists
fact_filters facts = map (λ (fact : FilterFact). fact.filter) facts

abbrev pub fact_adverts : List AdvertFact → Lists
fact_adverts facts = map (λ (fact : AdvertFact). fact.advert) facts

-- THE FACTS OF A CLIENT'S FILTERS: of exactly those that are in its list at some moment of a phase, in canonical order
pub record AreFilterFacts (net : NetParts) (client phase : ℕ) (notice : List Attribute) (facts : List FilterFact) : Type 0 where
  pub each : (fact : FilterFact) → Has fact facts → IsFilterFact net client phase notice fact
  pub whole : (f : List ConstraintParts) (count : ℕ) → IsMomentOfPhase real (net_in net phase) phase client count
      → Has f (filters_then net client count) → Has f (fact_filters facts)
  pub rising : IsRising list_before (fact_filters facts)

-- THE FACTS OF A PUBLISHER'S ADVERTISEMENTS, likewise
pub record AreAdvertFacts (net : NetParts) (client phase index : ℕ) (notice : List Attribute) (facts : List AdvertFact) : Type 0 where
  pub each : (fact : AdvertFact) → Has fact facts → IsAdvertFact net client phase index notice fact
  pub whole : (a : List ConstraintParts) (count : ℕ) → IsMomentOfPhase real (net_in net phase) phase client count
      → Has a (adverts_then net client count) → Has a (fact_adverts facts)
  pub rising : IsRising list_before (fact_adverts facts)
