-- What is answered to `explain`, of a document: on one publication, or on all that come to a client.
use Rattle.std.specs.Prelude.{◌≡◌, ℕ, List, []}
use Rattle.net_model.specs.Parts.{EntryParts, NetParts}
use Rattle.document_reader.specs.Net.{IsNetOf}
use Rattle.output_explain.specs.declared.prospect.Prospect.{Prospect}
use Rattle.output_explain.specs.Asked.{IsNamed, IsNobody, IsSomebody}
use Rattle.output_explain.specs.Prospects.{AreProspects, prospects_text}
use Rattle.program_sequential.specs.declared.subject.Subject.{Subject}
use Rattle.program_sequential.specs.declared.subject.Subject.TheVariants.{Client, Publication}
use Rattle.program_sequential.specs.declared.unknown.Unknown.{Unknown}
use Rattle.program_sequential.specs.declared.unknown.Unknown.TheVariants as unknowns
use Rattle.program_sequential.specs.Explanations.{IsExplanationOf, IsUnknown, CanExplain}

-- the text lists the prospects of the client of this name
pub record IsListOf (name : List ℕ) (net : NetParts) (text : List ℕ) : Type 0 where
  pub number : ℕ
  pub named : IsNamed net name number
  pub prospects : List Prospect
  pub exactly : AreProspects net number prospects
  pub printed : text ≡ prospects_text net.clients prospects

-- THE TEXT OF WHAT COMES TO A CLIENT of a document
pub record IsOutlookOf (name input text : List ℕ) : Type 0 where
  pub net : NetParts
  pub well_formed : IsNetOf input net
  pub list : IsListOf name net text

-- THE TEXT AND THE JOURNAL of what is explained
abbrev pub IsExplainedOf : Subject → List ℕ → List ℕ → List EntryParts → Type 0
IsExplainedOf (Publication question) input text journal = IsExplanationOf question input text journal
IsExplainedOf (Client name) input text journal = IsOutlookOf name input text × (journal ≡ [])

-- the document has a net, which doesn't have what is to be explained: this is missing
abbrev pub IsNotThere : Subject → List ℕ → Unknown → Type 0
IsNotThere (Publication question) input kind = IsUnknown question input kind
IsNotThere (Client name) input kind = (net : NetParts) × IsNetOf input net × (kind ≡ unknowns.Client) × IsNobody net name

-- it has a net, which has that
abbrev pub HasSubject : Subject → List ℕ → Type 0
HasSubject (Publication question) input = CanExplain question input
HasSubject (Client name) input = (net : NetParts) × IsNetOf input net × IsSomebody net name
