-- Defines members that are taken out and added, in front of bytes.
use Rattle.std.specs.Prelude.{◌==◌, ◌&&◌, ◌++◌, ◌+◌, ℕ, zero, suc, nat_lt, Bool, true, false, List, [], ◌∷◌, length, Some, None, if◌then◌else◌}
use Rattle.std.specs.declared.option.Option.{Option}
use Rattle.std.specs.List.{flat_map}
use Rattle.filter_text.specs.MessageText.{signed}
use Rattle.filter_text.specs.Reading.{◌>>=◌, whole}
use Rattle.filter_text.specs.Items.{go_on}
use Rattle.filter_text.specs.Words.{sign_at}

-- whether a space, the sign and `{` stand in front, and what follows then
abbrev pub marked_at : ℕ → List ℕ → Bool × List ℕ
marked_at sign [] = (false, [])
marked_at sign (a ∷ []) = (false, a ∷ [])
marked_at sign (a ∷ b ∷ []) = (false, a ∷ b ∷ [])
marked_at sign (a ∷ b ∷ c ∷ rest) = if a == 32 && (b == sign && c == 123) then (true, rest) else (false, a ∷ b ∷ c ∷ rest)

-- `}`, and what follows it
abbrev pub closed_at : List ℕ → Option (Unit {0} × List ℕ)
closed_at bytes = sign_at 125 bytes

-- a member and `}` in front, and what follows them
unfoldable pub braced_at : {A : Type 0} → (List ℕ → Option (A × List ℕ)) → List ℕ → Option (A × List ℕ)
braced_at one bytes = one bytes >>= λ x. closed_at x.1 >>= λ r. Some (x.0, r.1)

-- at most so many changes with the sign in front, behind those that were read, and what follows them
unfoldable pub changes_at : {A : Type 0} → (List ℕ → Option (A × List ℕ)) → ℕ → ℕ → List A → List ℕ → Option (List A × List ℕ)
changes_at one sign zero read bytes = Some (read, bytes)
changes_at one sign (suc n) read bytes = go_on (marked_at sign bytes) read (λ inner. braced_at one inner >>= λ x. changes_at one sign n (read ++ x.0 ∷ []) x.1)

-- what is taken out and then what is added, and what follows them
unfoldable pub both_at : {A : Type 0} → (List ℕ → Option (A × List ℕ)) → List ℕ → Option ((List A × List A) × List ℕ)
both_at one bytes = changes_at one 45 (length bytes) [] bytes >>= λ o. changes_at one 43 (length o.1) [] o.1 >>= λ a. Some ((o.0, a.0), a.1)

-- the text of what is taken out (sign 45, `-`) and of what is added (sign 43, `+`), by the texts of the members
abbrev pub signed_lists : {A : Type 0} → (A → List ℕ) → List A → List A → List ℕ
signed_lists text out add = flat_map (λ x. signed 45 (text x)) out ++ flat_map (λ x. signed 43 (text x)) add

-- each stands before the next
abbrev pub rises : {A : Type 0} → (A → A → Bool) → List A → Bool
rises before [] = true
rises before (x ∷ []) = true
rises before (x ∷ y ∷ rest) = before x y && rises before (y ∷ rest)

-- a list without those in front that stand before x
abbrev pub from : {A : Type 0} → (A → A → Bool) → A → List A → List A
from before x [] = []
from before x (y ∷ rest) = if before y x then from before x rest else y ∷ rest

-- whether x stands before what comes first
abbrev pub leads : {A : Type 0} → (A → A → Bool) → A → List A → Bool
leads before x [] = true
leads before x (y ∷ rest) = before x y

-- whether two rising lists have no member in common
abbrev pub apart : {A : Type 0} → (A → A → Bool) → List A → List A → Bool
apart before out [] = true
apart before out (x ∷ rest) = leads before x (from before x out) && apart before (from before x out) rest

-- whether the lists are a change
unfoldable pub is_change : {A : Type 0} → (A → A → Bool) → List A → List A → Bool
is_change before out add = rises before out && (rises before add && (apart before out add && nat_lt 0 (length out + length add)))

-- lists that are a change
abbrev pub when_change : {A : Type 0} → (A → A → Bool) → List A × List A → Option (List A × List A)
when_change before l = if is_change before l.0 l.1 then Some l else None

-- the change that the bytes spell
unfoldable pub change_of : {A : Type 0} → (A → A → Bool) → (List ℕ → Option (A × List ℕ)) → List ℕ → Option (List A × List A)
change_of before one bytes = whole (both_at one bytes) >>= when_change before
