-- What the words of the command line ask for.
use Rattle.std.specs.Prelude.{◌≡◌, ℕ, Bool, true, false, not, ◌&&◌, ◌||◌, nat_lt, nat_le, if◌then◌else◌, Option, Some, None}
use Rattle.std.specs.Prelude.{◌^◌, List, [], ◌∷◌, length, take, drop, codes}
use Rattle.std.specs.Option.{option_map, option_and_then}
use Rattle.std.specs.Str.{bytes_eq}
use Rattle.document_script.specs.Form.{in_64_bits, number_of_digits}
use Rattle.program_help.specs.declared.page.Page.TheVariants.{Help, Version}
use Rattle.output_explain.specs.Asked.{Question}
use Rattle.program_sequential.specs.declared.subject.Subject.TheVariants.{Client, Publication}
use Rattle.program_sequential.specs.Asking.{question_of}
use Rattle.program_sequential.specs.declared.words.Schedule.{Schedule}
use Rattle.program_sequential.specs.declared.words.Schedule.TheVariants.{Walk, Replay, Threads}
use Rattle.program_sequential.specs.declared.words.Shown.{Shown}
use Rattle.program_sequential.specs.declared.words.Query.{Query}
use Rattle.program_sequential.specs.declared.words.Query.TheVariants.{Run, Hierarchy, Flood, Check, Format, Traffic}
use Rattle.program_sequential.specs.declared.words.Wanted.{Wanted}
use Rattle.program_sequential.specs.declared.words.Wanted.TheVariants.{About, Audit, Document, Explain, Generate, Patterns}

-- a run without an option
abbrev pub plain : Shown
plain = record { sorted = false; trace = false }

-- with one option more: each may be given once
abbrev pub with_option : List ℕ → Shown → Option Shown
with_option word shown =
    if bytes_eq word (codes "--sorted") && not shown.sorted then Some (record { sorted = true; trace = shown.trace })
    else if bytes_eq word (codes "--trace") && not shown.trace then Some (record { sorted = shown.sorted; trace = true })
    else None

-- the options, in any order
abbrev pub options : Shown → List (List ℕ) → Option Shown
options shown [] = Some shown
options shown (word ∷ words) = option_and_then (λ more. options more words) (with_option word shown)

-- a run by a schedule, with the options behind its word
abbrev pub run_by : Schedule → List (List ℕ) → Option Wanted
run_by schedule words = option_map (λ shown. Document (Run schedule shown)) (options plain words)

-- the walk of a hierarchy, with the options behind its word
abbrev pub hierarchy_by : List (List ℕ) → Option Wanted
hierarchy_by words = option_map (λ shown. Document (Hierarchy shown)) (options plain words)

-- what takes no further words
abbrev pub alone : Wanted → List (List ℕ) → Option Wanted
alone wanted [] = Some wanted
alone wanted (word ∷ words) = None

-- what each link carries, by the words behind `traffic`: as a text, or with `--dot` as a graph
abbrev pub traffic_by : List (List ℕ) → Option Wanted
traffic_by [] = Some (Document (Traffic false))
traffic_by (word ∷ []) = if bytes_eq word (codes "--dot") then Some (Document (Traffic true)) else None
traffic_by (word ∷ other ∷ words) = None

-- the audit of a run, or of one of a hierarchy
abbrev pub audit_by : List (List ℕ) → Option Wanted
audit_by [] = Some (Audit false)
audit_by (one ∷ []) = if bytes_eq one (codes "--hier") then Some (Audit true) else None
audit_by (one ∷ two ∷ words) = None

-- a seed: 1 to 20 decimal digits of a value below 2^64
unfoldable pub seed_number : List ℕ → Option ℕ
seed_number word = if nat_lt 0 (length word) && nat_le (length word) 20 then option_and_then in_64_bits (number_of_digits word) else None

-- the seed of the one word `--seed=N`
abbrev pub joined_seed : List ℕ → Option ℕ
joined_seed word = if bytes_eq (take 7 word) (codes "--seed=") then seed_number (drop 7 word) else None

-- the seed of the two words `--seed` and N
abbrev pub parted_seed : List ℕ → List ℕ → Option ℕ
parted_seed label number = if bytes_eq label (codes "--seed") then seed_number number else None

abbrev pub is_summary : List ℕ → Bool
is_summary word = bytes_eq word (codes "--summary")

-- a document by its seed, where there is one
abbrev pub asked : Bool → Option ℕ → Option Wanted
asked summary seed = option_map (λ number. Generate number summary) seed

-- by the words behind `gen`: a seed, with at most one `--summary` before or after it
abbrev pub generate_by : List (List ℕ) → Option Wanted
generate_by [] = None
generate_by (one ∷ []) = asked false (joined_seed one)
generate_by (one ∷ two ∷ []) =
    if is_summary one then asked true (joined_seed two)
    else if is_summary two then asked true (joined_seed one)
    else asked false (parted_seed one two)
generate_by (one ∷ two ∷ three ∷ []) =
    if is_summary one then asked true (parted_seed two three)
    else if is_summary three then asked true (parted_seed one two)
    else None
generate_by (one ∷ two ∷ three ∷ four ∷ words) = None

-- a number that fits into 32 bits
abbrev pub in_32_bits : ℕ → Option ℕ
in_32_bits n = if nat_lt n (2 ^ 32) then Some n else None

-- the number of a publication: 1 to 10 decimal digits of a value below 2^32
unfoldable pub ordinal_number : List ℕ → Option ℕ
ordinal_number word = if nat_lt 0 (length word) && nat_le (length word) 10 then option_and_then in_32_bits (number_of_digits word) else None

-- the question with two names and a number, where it is one
abbrev pub question_by : List ℕ → List ℕ → List ℕ → Option Question
question_by client publisher number = option_map (question_of client publisher) (ordinal_number number)

-- by the words behind `explain`: the name of a client, alone or with the name of a publisher and a number
abbrev pub explain_by : List (List ℕ) → Option Wanted
explain_by [] = None
explain_by (client ∷ []) = Some (Explain (Client client))
explain_by (client ∷ publisher ∷ []) = None
explain_by (client ∷ publisher ∷ number ∷ []) = option_map (λ question. Explain (Publication question)) (question_by client publisher number)
explain_by (client ∷ publisher ∷ number ∷ word ∷ words) = None

-- WHAT THE WORDS ASK FOR, where they ask for something
abbrev pub wanted_by : List (List ℕ) → Option Wanted
wanted_by [] = None
wanted_by (word ∷ words) =
    if bytes_eq word (codes "walk") then run_by Walk words
    else if bytes_eq word (codes "replay") then run_by Replay words
    else if bytes_eq word (codes "run") then run_by Threads words
    else if bytes_eq word (codes "hier") then hierarchy_by words
    else if bytes_eq word (codes "flood") then alone (Document Flood) words
    else if bytes_eq word (codes "check") then alone (Document Check) words
    else if bytes_eq word (codes "format") then alone (Document Format) words
    else if bytes_eq word (codes "traffic") then traffic_by words
    else if bytes_eq word (codes "gen") then generate_by words
    else if bytes_eq word (codes "patterns") then alone Patterns words
    else if bytes_eq word (codes "explain") then explain_by words
    else if bytes_eq word (codes "audit") then audit_by words
    else if bytes_eq word (codes "help") || bytes_eq word (codes "--help") then alone (About Help) words
    else if bytes_eq word (codes "version") || bytes_eq word (codes "--version") then alone (About Version) words
    else None

-- whether the runs of a schedule are made on one thread
abbrev pub is_quiet : Schedule → Bool
is_quiet Walk = true
is_quiet Replay = true
is_quiet Threads = false

-- WORDS ARE NONE OF `run`: no run with threads is asked for
abbrev pub IsQuietQuery : Query → Type 0
IsQuietQuery (Run schedule shown) = is_quiet schedule ≡ true
IsQuietQuery (Hierarchy shown) = Unit {0}
IsQuietQuery Flood = Unit {0}
IsQuietQuery Check = Unit {0}
IsQuietQuery Format = Unit {0}
IsQuietQuery (Traffic graph) = Unit {0}

abbrev pub IsQuietWish : Wanted → Type 0
IsQuietWish (Document query) = IsQuietQuery query
IsQuietWish (Generate seed summary) = Unit {0}
IsQuietWish Patterns = Unit {0}
IsQuietWish (Explain question) = Unit {0}
IsQuietWish (Audit hierarchy) = Unit {0}
IsQuietWish (About page) = Unit {0}

abbrev pub AreNoneOfRun : Option Wanted → Type 0
AreNoneOfRun None = Unit {0}
AreNoneOfRun (Some wanted) = IsQuietWish wanted
