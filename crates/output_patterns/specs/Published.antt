-- Defines the names of clients, and the notices that they publish.
use Rattle.std.specs.Prelude.{◌≡◌, true, Bool, ◌&&◌, ℕ, zero, suc, All, List, [], ◌∷◌, Option, None, length, map, nat_le, nat_lt, slice_get}
use Rattle.filter_types.specs.Notice.{Attribute}
use Rattle.filter_text.specs.declared.command.Command.{Command}
use Rattle.filter_text.specs.declared.command.Command.TheVariants as commands
use Rattle.filter_text.specs.Deliveries.{Delivery}
use Rattle.filter_text.specs.declared.id.Id.{Id}
use Rattle.net_model.specs.Parts.{ClientParts}
use Rattle.output_report.specs.Published.{by_number}

-- a publish puts its notice in front
abbrev pub with_notice : Command → List (List Attribute) → List (List Attribute)
with_notice (commands.Subscribe f) notices = notices
with_notice (commands.Unsubscribe f) notices = notices
with_notice (commands.Advertise a) notices = notices
with_notice (commands.Unadvertise a) notices = notices
with_notice (commands.Publish n) notices = n ∷ notices

-- the notices of a script's publishes, in order
abbrev pub script_notices : List (ℕ × Command) → List (List Attribute)
script_notices [] = []
script_notices (step ∷ steps) = with_notice step.1 (script_notices steps)

-- those of each client
abbrev pub notices_in : List ClientParts → List (List (List Attribute))
notices_in clients = map (λ client. script_notices client.script) clients

-- the name of each client
abbrev pub names_in : List ClientParts → List (List ℕ)
names_in clients = map (λ client. client.name) clients

-- what stands at a number, from 1
abbrev pub at_number : {A : Type 0} → List A → ℕ → Option A
at_number items zero = None
at_number items (suc place) = slice_get items place

-- the notice of a publish by its publisher and its ordinal
abbrev pub notice_at : List (List (List Attribute)) → Id → List Attribute
notice_at notices id = by_number (by_number notices id.publisher) id.ordinal

-- there is such a publish
abbrev pub is_published : List (List (List Attribute)) → Id → Bool
is_published notices id = nat_lt 0 id.ordinal && nat_le id.ordinal (length (by_number notices id.publisher))

-- what was delivered was published
abbrev pub ArePublished : List (List (List Attribute)) → List Delivery → Type 0
ArePublished notices deliveries = All (λ d. is_published notices d.id ≡ true) deliveries

-- the notices of deliveries
abbrev pub notices_of : List (List (List Attribute)) → List Delivery → List (List Attribute)
notices_of notices deliveries = map (λ d. notice_at notices d.id) deliveries
