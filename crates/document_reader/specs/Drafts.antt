-- Defines the clients of a document with their scripts, as its lines give them.
use Rattle.std.specs.Prelude.{◌≡◌, Bool, true, false, ℕ, ◌+◌, ◌≤◌, zero, suc, List}
use Rattle.std.specs.Prelude.{[], ◌∷◌, ◌++◌, map, length, Option, Some, None, position, slice_get}
use Rattle.std.specs.Str.{bytes_eq}
use Rattle.filter_text.specs.declared.command.Command.{Command}
use Rattle.net_model.specs.Parts.{ClientParts, client_parts}
use Rattle.document_reader.specs.declared.draft.Draft.{Draft}

abbrev pub draft : ClientParts → Bool → Draft
draft client has_script = record { client = client; has_script = has_script }

abbrev pub name_of : Draft → List ℕ
name_of d = d.client.name

-- the place of a name, from 0
abbrev pub name_place : List (List ℕ) → List ℕ → Option ℕ
name_place names name = position (bytes_eq name) names

-- the place of the client with this name
unfoldable pub client_at : List Draft → List ℕ → Option ℕ
client_at drafts name = name_place (map name_of drafts) name

-- a client without a script
abbrev pub scriptless : List ℕ → ℕ → Draft
scriptless name home = draft (client_parts name home 0 []) false

-- the list with the member at this place, if there is one, changed
abbrev pub changed_at : {A : Type 0} → ℕ → (A → A) → List A → List A
changed_at n f [] = []
changed_at zero f (x ∷ xs) = f x ∷ xs
changed_at (suc n) f (x ∷ xs) = x ∷ changed_at n f xs

-- a client, if there is one, has a script
abbrev pub is_scripted : Option Draft → Bool
is_scripted None = false
is_scripted (Some d) = d.has_script

abbrev pub has_script : List Draft → ℕ → Bool
has_script drafts n = is_scripted (slice_get drafts n)

-- how many barriers its script has
abbrev pub barriers_of : Option Draft → ℕ
barriers_of None = 0
barriers_of (Some d) = d.client.barriers

abbrev pub barriers_at : List Draft → ℕ → ℕ
barriers_at drafts n = barriers_of (slice_get drafts n)

-- the script begins
abbrev pub begun : Draft → Draft
begun d = draft d.client true

-- one barrier more
abbrev pub with_barrier : Draft → Draft
with_barrier d = draft (client_parts d.client.name d.client.home (d.client.barriers + 1) d.client.script) d.has_script

-- one command more, of the phase that the barriers before it make
abbrev pub with_command : Command → Draft → Draft
with_command c d = draft (client_parts d.client.name d.client.home d.client.barriers (d.client.script ++ (d.client.barriers, c) ∷ [])) d.has_script

-- the names, in the order of their giving, are those of the clients, of which there are at most 1,024
pub record AreNamesOf (names : List (List ℕ)) (drafts : List Draft) : Type 0 where
  pub same : map name_of drafts ≡ names
  pub few : length drafts ≤ 1024
