-- Defines the texts of what clients publish.
use Rattle.std.specs.Prelude.{ℕ, zero, suc, List, [], ◌∷◌, map, slice_index_or}
use Rattle.filter_text.specs.NoticeText.{notice_text}
use Rattle.filter_text.specs.declared.id.Id.{Id}
use Rattle.filter_text.specs.declared.command.Command.{Command}
use Rattle.filter_text.specs.declared.command.Command.TheVariants as commands
use Rattle.net_model.specs.Parts.{ClientParts}

-- a publish puts the text of its notice in front
abbrev pub with_text : Command → List (List ℕ) → List (List ℕ)
with_text (commands.Subscribe f) texts = texts
with_text (commands.Unsubscribe f) texts = texts
with_text (commands.Advertise a) texts = texts
with_text (commands.Unadvertise a) texts = texts
with_text (commands.Publish n) texts = notice_text n ∷ texts

-- the texts of a script's publishes, in order
abbrev pub script_texts : List (ℕ × Command) → List (List ℕ)
script_texts [] = []
script_texts (step ∷ steps) = with_text step.1 (script_texts steps)

-- those of each client
abbrev pub texts_in : List ClientParts → List (List (List ℕ))
texts_in clients = map (λ client. script_texts client.script) clients

-- the member of a list by its number, from 1; nothing where there is none
abbrev pub by_number : {A : Type 0} → List (List A) → ℕ → List A
by_number lists zero = []
by_number lists (suc place) = slice_index_or lists place []

-- the text of a publish by its publisher and its ordinal
abbrev pub text_at : List (List (List ℕ)) → Id → List ℕ
text_at texts id = by_number (by_number texts id.publisher) id.ordinal
