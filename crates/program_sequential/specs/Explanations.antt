-- What is answered to `explain`, of a document.
use Rattle.std.specs.Prelude.{◌≡◌, ℕ, zero, suc, Bool, true, false, List, [], ◌++◌, codes, Option, Some, None, slice_get}
use Rattle.std.specs.List.{list_any}
use Rattle.filter_text.specs.Deliveries.{Delivery}
use Rattle.filter_text.specs.declared.id.Id.{Id}
use Rattle.net_model.specs.Parts.{EntryParts, NetParts}
use Rattle.document_reader.specs.Net.{IsNetOf}
use Rattle.output_explain.specs.declared.answer.Explanation.{Explanation}
use Rattle.output_explain.specs.Asked.{Question, IsNobody, IsSomebody, HasNoPublish}
use Rattle.output_explain.specs.Explained.{IsAnswer}
use Rattle.output_explain.specs.Text.{explanation_text}
use Rattle.program_sequential.specs.declared.unknown.Unknown.{Unknown}
use Rattle.program_sequential.specs.declared.unknown.Unknown.TheVariants as unknowns
use Rattle.program_sequential.specs.declared.words.Schedule.TheVariants.{Walk}
use Rattle.program_sequential.specs.Words.{plain}
use Rattle.program_sequential.specs.Runs.{received_in}
use Rattle.program_sequential.specs.Promise.{is_id}
use Rattle.program_sequential.specs.Headline.{Headline}

-- whether a publication is among deliveries
abbrev pub is_received : Id → List Delivery → Bool
is_received id deliveries = list_any (λ d. is_id id d.id) deliveries

-- what the client of a number received, by the lists of all clients
abbrev pub deliveries_in : Option (List Delivery) → List Delivery
deliveries_in None = []
deliveries_in (Some deliveries) = deliveries

abbrev pub received_at : List (List Delivery) → ℕ → List Delivery
received_at lists zero = []
received_at lists (suc place) = deliveries_in (slice_get lists place)

-- whether the walk delivers it
abbrev pub walk_line : Bool → List ℕ
walk_line true = codes "walk delivers it\n"
walk_line false = codes "walk does not deliver it\n"

-- the facts of an explanation, and whether it was delivered in the run of a journal
abbrev pub told_text : NetParts → List EntryParts → Explanation → List ℕ
told_text net journal e = explanation_text net.clients e ++ walk_line (is_received e.id (received_at (received_in net journal) e.client))

-- THE TEXT OF AN EXPLANATION, of a document: the headline holds of its walk, whatever text that prints; and this is the text of the facts that answer the
-- question by the net of the walk, and of whether the walk delivers the publication
pub record IsExplanationOf (question : Question) (input text : List ℕ) (journal : List EntryParts) : Type 0 where
  pub walked : List ℕ
  pub walk : Headline Walk plain input walked journal
  pub explanation : Explanation
  pub answer : IsAnswer walk.net question.client question.publisher question.ordinal explanation
  pub printed : text ≡ told_text walk.net journal explanation

-- what a question names, of which this is the first that a net doesn't have
abbrev pub IsUnknownIn : NetParts → Question → Unknown → Type 0
IsUnknownIn net question unknowns.Client = IsNobody net question.client
IsUnknownIn net question unknowns.Publisher = IsSomebody net question.client × IsNobody net question.publisher
IsUnknownIn net question unknowns.Number =
    IsSomebody net question.client × IsSomebody net question.publisher × HasNoPublish net question.publisher question.ordinal

-- the document has a net, which doesn't have this
abbrev pub IsUnknown : Question → List ℕ → Unknown → Type 0
IsUnknown question input kind = (net : NetParts) × IsNetOf input net × IsUnknownIn net question kind

-- it has a net, which has all that the question names
abbrev pub CanExplain : Question → List ℕ → Type 0
CanExplain question input = (net : NetParts) × IsNetOf input net × IsSomebody net question.client × IsSomebody net question.publisher
    × (HasNoPublish net question.publisher question.ordinal → ⊥)
