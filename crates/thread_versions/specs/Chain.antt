-- The rule of the versions: what is installed is the fold of a beginning of the history.
use Rattle.std.specs.Prelude.{◌≡◌, ℕ, ◌+◌, List, [], ◌∷◌, ◌++◌, true, false}
use mathlib.Core.Option.{some}
use lib.ListN.{get_elem?}
use Rattle.logbook.specs.Pages.{Book}
use Rattle.match_routes.specs.declared.table_change.TableChange.{TableChange}
use Rattle.match_routes.specs.Installed.{IsOfSame}
use Rattle.thread_versions.specs.declared.rule.View.{View}
use Rattle.thread_versions.specs.declared.version.Version.{Version}
use Rattle.thread_versions.specs.declared.version.Step.{Step}
use Rattle.thread_versions.specs.History.{HistoryParts}
use Rattle.thread_versions.specs.Pairs.{pairs_after, all_known}

-- the book that a view names
abbrev pub view_book : View → Book
view_book v = record { number = v.number; log_name = v.log_name; cells_name = v.cells_name }

-- the view that names no book
abbrev pub nobody : View
nobody = record { named = false; number = 0; log_name = 0; cells_name = 0; width = 0; shows = 0 }

-- the view that names this book and this width, with so many shows
abbrev pub named_by : ℕ → Book → ℕ → View
named_by n b w = record { named = true; number = b.number; log_name = b.log_name; cells_name = b.cells_name; width = w; shows = n }

-- it names this book and this width
pub record IsNamedBy (b : Book) (w : ℕ) (v : View) : Type 0 where
  pub named : v.named ≡ true
  pub book : view_book v ≡ b
  pub width : v.width ≡ w

-- the forwarding has the pairs after the changes of the version's front
abbrev pub IsFolded : Version → Type 0
IsFolded x = x.forwarding.pairs ≡ pairs_after x.front.seen.log

-- the view names the book of the version's history and the width of its forwarding, if any
abbrev pub Knows : Version → View → Type 0
Knows x v = v.named ≡ true → IsNamedBy x.front.seen.book x.forwarding.width v

-- the rule: the version is folded, and all views name the book of its history and its width
abbrev pub KeepsViews : Version → List View → Type 0
KeepsViews x views = IsFolded x × ((seat : ℕ) (v : View) → get_elem? views seat ≡ some v → Knows x v)

-- what a viewer knows after entering
abbrev pub Sighted : View → Version → View → Type 0
Sighted v x w = (w ≡ v) × IsFolded x × Knows x v

-- what the publisher knows after a table update: one more show
abbrev pub ShownView : View → Version → View → Type 0
ShownView v y w = IsFolded y × (w ≡ named_by (v.shows + 1) y.front.seen.book y.forwarding.width)

-- the changes of all steps
abbrev pub changes_of : List Step → List TableChange
changes_of [] = []
changes_of (x ∷ xs) = x.changes.items ++ changes_of xs

-- the history up to the last step
abbrev pub last_seen : HistoryParts → List Step → HistoryParts
last_seen s [] = s
last_seen s (x ∷ xs) = last_seen x.front.seen xs

-- these are the only changes that were handed over, with the history up to the last of them
abbrev pub IsHanded : List TableChange → HistoryParts → List Step → Type 0
IsHanded changes history steps = (changes_of steps ≡ changes) × ((s : HistoryParts) → last_seen s steps ≡ history)

-- after these steps what is installed goes on in the same history, and each of their changes is known
pub record MayShow (x : Version) (steps : List Step) : Type 0 where
  pub log : (last_seen x.front.seen steps).log ≡ x.front.seen.log ++ changes_of steps
  pub book : (last_seen x.front.seen steps).book ≡ x.front.seen.book
  pub known : all_known x.forwarding (changes_of steps) ≡ true

-- the version that is installed with these steps
pub record IsShownAfter (x : Version) (steps : List Step) (y : Version) : Type 0 where
  pub folded : IsFolded y
  pub seen : y.front.seen ≡ last_seen x.front.seen steps
  pub server : IsOfSame y.forwarding x.forwarding
