-- What a client gets of a publication: by the promise, and by the facts of filters and advertisements.
use Rattle.std.specs.Prelude.{◌≡◌, ℕ, Bool, true, false, cond, not, ◌||◌, ◌&&◌, List, Option, Some, None}
use Rattle.std.specs.List.{list_any}
use Rattle.base.specs.Sets.{Has}
use Rattle.filter_constraints.specs.Constraint.{ConstraintParts}
use Rattle.filter_types.specs.Notice.{Attribute}
use Rattle.law_routing.specs.Owed.{IsMomentOfPhase, IsPublication, IsAdvertisedThroughout, IsOwed, IsAllowed}
use Rattle.filter_text.specs.declared.id.Id.{Id}
use Rattle.filter_text.specs.declared.semantics.Semantics.{Semantics}
use Rattle.net_model.specs.Real.{real}
use Rattle.net_model.specs.Parts.{NetParts}
use Rattle.net_model.specs.Nets.{with_adverts}
use Rattle.output_flood.specs.Flooding.{net_in}
use Rattle.output_explain.specs.declared.facts.FilterFact.{FilterFact}
use Rattle.output_explain.specs.declared.facts.AdvertFact.{AdvertFact}
use Rattle.output_explain.specs.declared.verdict.Verdict.{Verdict}
use Rattle.output_explain.specs.declared.verdict.Verdict.TheVariants as verdicts
use Rattle.output_explain.specs.declared.verdict.Missing.TheVariants as missings
use Rattle.output_explain.specs.declared.verdict.Reason.TheVariants as reasons
use Rattle.output_explain.specs.Stays.{is_throughout}
use Rattle.output_explain.specs.Telling.{filters_then}

-- the publish is accepted
abbrev pub IsAccepted : NetParts → Id → ℕ → List Attribute → Type 0
IsAccepted net id phase notice = IsPublication real (net_in net phase) id.publisher id.ordinal phase notice

-- a filter that matches is in the client's list all through the phase
pub record IsMatchedThroughout (net : NetParts) (client phase : ℕ) (notice : List Attribute) : Type 0 where
  pub filter : List ConstraintParts
  pub always : (count : ℕ) → IsMomentOfPhase real (net_in net phase) phase client count → Has filter (filters_then net client count)
  pub matches : real.matches notice filter ≡ true

-- under advertisement semantics an advertisement that allows it is in the publisher's list all through the phase
abbrev pub IsAdvertised : NetParts → ℕ → ℕ → List Attribute → Type 0
IsAdvertised net publisher phase notice = with_adverts net.semantics ≡ true → IsAdvertisedThroughout real (net_in net phase) publisher phase notice

-- what each verdict says
abbrev pub Says : NetParts → ℕ → Id → ℕ → List Attribute → Verdict → Type 0
Says net client id phase notice verdicts.Owed =
    IsAccepted net id phase notice × IsOwed real (net_in net phase) id.publisher phase notice client
Says net client id phase notice (verdicts.May missings.Filter) =
    IsAccepted net id phase notice × IsAllowed real (net_in net phase) phase notice client
    × (IsMatchedThroughout net client phase notice → ⊥) × IsAdvertised net id.publisher phase notice
Says net client id phase notice (verdicts.May missings.Advert) =
    IsAccepted net id phase notice × IsAllowed real (net_in net phase) phase notice client
    × IsMatchedThroughout net client phase notice × (IsAdvertised net id.publisher phase notice → ⊥)
Says net client id phase notice (verdicts.May missings.Both) =
    IsAccepted net id phase notice × IsAllowed real (net_in net phase) phase notice client
    × (IsMatchedThroughout net client phase notice → ⊥) × (IsAdvertised net id.publisher phase notice → ⊥)
Says net client id phase notice (verdicts.Never reasons.Refused) = IsAccepted net id phase notice → ⊥
Says net client id phase notice (verdicts.Never reasons.Unmatched) =
    IsAccepted net id phase notice × (IsAllowed real (net_in net phase) phase notice client → ⊥)

-- the verdict is that the client gets the publication once, or may get it
abbrev pub is_given : Verdict → Bool
is_given verdicts.Owed = true
is_given (verdicts.May missing) = true
is_given (verdicts.Never reason) = false

-- it may get it and is not owed it
abbrev pub is_may : Verdict → Bool
is_may verdicts.Owed = false
is_may (verdicts.May missing) = true
is_may (verdicts.Never reason) = false

-- there is none
abbrev pub is_nothing : {A : Type 0} → Option A → Bool
is_nothing None = true
is_nothing (Some x) = false

-- the filter matches; and is in force throughout
abbrev pub is_match : FilterFact → Bool
is_match fact = is_nothing fact.miss

abbrev pub is_match_throughout : FilterFact → Bool
is_match_throughout fact = is_nothing fact.miss && is_throughout fact.stay

-- the advertisement allows the notification, and is in force at the publish; or throughout
abbrev pub is_leave : AdvertFact → Bool
is_leave fact = is_nothing fact.denied && fact.here

abbrev pub is_leave_throughout : AdvertFact → Bool
is_leave_throughout fact = is_nothing fact.denied && is_throughout fact.stay

-- the verdict on what was accepted and is allowed, by whether there is such a filter and such an advertisement throughout
abbrev pub at_best : Bool → Bool → Verdict
at_best true true = verdicts.Owed
at_best false true = verdicts.May missings.Filter
at_best true false = verdicts.May missings.Advert
at_best false false = verdicts.May missings.Both

-- the verdict by tests
abbrev pub verdict_of : Bool → Bool → Bool → Bool → Verdict
verdict_of accepted allowed steady advertised =
    cond accepted (cond allowed (at_best steady advertised) (verdicts.Never reasons.Unmatched)) (verdicts.Never reasons.Refused)

-- and by the facts
abbrev pub verdict_by : Semantics → List FilterFact → List AdvertFact → Verdict
verdict_by semantics filters adverts =
    verdict_of (not (with_adverts semantics) || list_any is_leave adverts) (list_any is_match filters)
    (list_any is_match_throughout filters) (not (with_adverts semantics) || list_any is_leave_throughout adverts)
