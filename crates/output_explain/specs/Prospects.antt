-- WHAT COMES TO A CLIENT of all publications: those that it is owed, those that may come, and those that are near.
use Rattle.std.specs.Prelude.{◌≡◌, ◌↔◌, ℕ, Bool, true, List, codes, ◌++◌, Option, Some, None, Vec}
use Rattle.std.specs.List.{flat_map}
use Rattle.std.specs.declared.alloc.Global.{Global}
use Rattle.base.specs.Sets.{Has, IsRising}
use Rattle.filter_constraints.specs.Constraint.{ConstraintParts}
use Rattle.filter_types.specs.Notice.{Attribute}
use Rattle.filter_text.specs.NoticeText.{notice_text}
use Rattle.filter_text.specs.declared.id.Id.{Id}
use Rattle.law_routing.specs.Owed.{IsOwed, IsAllowed}
use Rattle.net_model.specs.Real.{real}
use Rattle.net_model.specs.Parts.{ClientParts, NetParts}
use Rattle.output_flood.specs.Flooding.{net_in, id_before}
use Rattle.output_explain.specs.declared.prospect.Chance.{Chance}
use Rattle.output_explain.specs.declared.prospect.Chance.TheVariants as chances
use Rattle.output_explain.specs.declared.prospect.Prospect.{Prospect}
use Rattle.output_explain.specs.Asked.{IsNamed, IsNobody, IsPublish}
use Rattle.output_explain.specs.Telling.{filters_then}
use Rattle.output_explain.specs.Text.{id_text}
use Rattle.output_explain.specs.Verdicts.{IsAccepted}

-- after some of the client's commands, of whatever phase, a filter that matches is in its list
pub record IsMatchedSometime (net : NetParts) (client : ℕ) (notice : List Attribute) : Type 0 where
  pub count : ℕ
  pub filter : List ConstraintParts
  pub listed : Has filter (filters_then net client count)
  pub matches : real.matches notice filter ≡ true

-- the publish is accepted, and the publication is allowed to the client
abbrev pub IsGiven : NetParts → ℕ → Id → ℕ → List Attribute → Type 0
IsGiven net client id phase notice = IsAccepted net id phase notice × IsAllowed real (net_in net phase) phase notice client

-- WHAT EACH CHANCE SAYS. A publication is near that never comes to the client, though a filter that matches it is in the client's list sometime: that
-- filter isn't in force in the phase of the publication, or the publish is refused
abbrev pub HasChance : NetParts → ℕ → Id → ℕ → List Attribute → Chance → Type 0
HasChance net client id phase notice chances.Owed =
    IsAccepted net id phase notice × IsOwed real (net_in net phase) id.publisher phase notice client
HasChance net client id phase notice chances.May =
    IsGiven net client id phase notice × (IsOwed real (net_in net phase) id.publisher phase notice client → ⊥)
HasChance net client id phase notice chances.Near =
    IsMatchedSometime net client notice × (IsGiven net client id phase notice → ⊥)

-- a publish command, and the chance that the client has of its publication
pub record IsProspect (net : NetParts) (client : ℕ) (prospect : Prospect) : Type 0 where
  pub index : ℕ
  pub phase : ℕ
  pub publish : IsPublish net prospect.id index phase prospect.notice
  pub chance : HasChance net client prospect.id phase prospect.notice prospect.chance

-- by publisher, then by ordinal
abbrev pub prospect_before : Prospect → Prospect → Bool
prospect_before a b = id_before a.id b.id

-- ALL PROSPECTS OF A CLIENT: exactly these, by publisher and ordinal
pub record AreProspects (net : NetParts) (client : ℕ) (prospects : List Prospect) : Type 0 where
  pub exactly : (prospect : Prospect) → Has prospect prospects ↔ IsProspect net client prospect
  pub rising : IsRising prospect_before prospects

-- THE ANSWER about the client of a name, or nothing where nobody has it
abbrev pub IsOutlook : NetParts → List ℕ → Option (Vec Prospect Global) → Type 0
IsOutlook net name None = IsNobody net name
IsOutlook net name (Some prospects) = (number : ℕ) × IsNamed net name number × AreProspects net number prospects.items

-- the word of a chance
abbrev pub chance_word : Chance → List ℕ
chance_word chances.Owed = codes "owed "
chance_word chances.May = codes "may "
chance_word chances.Near = codes "near "

-- `owed PUBLISHER ORDINAL NOTICE`, or `may ..` or `near ..`
unfoldable pub prospect_line : List ClientParts → Prospect → List ℕ
prospect_line clients p = chance_word p.chance ++ id_text clients p.id ++ codes " " ++ notice_text p.notice ++ codes "\n"

-- THE TEXT OF ALL PROSPECTS
abbrev pub prospects_text : List ClientParts → List Prospect → List ℕ
prospects_text clients prospects = flat_map (prospect_line clients) prospects

-- the publication is listed with this chance
abbrev pub IsListed : ℕ → ℕ → Chance → List Prospect → Type 0
IsListed publisher ordinal chance prospects =
    (notice : List Attribute) × Has (record { id = record { publisher = publisher; ordinal = ordinal }; notice = notice; chance = chance }) prospects
