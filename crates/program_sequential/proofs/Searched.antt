-- The answer to `patterns`, and what it tells of the input.
use Rattle.std.proofs.Common.{◌≡◌, ◌⊎◌, inl, inr, ℕ, ◌<◌, ◌≤◌, Bool, true, List, [], ◌++◌, append-nil, length, Result, Ok, Err, refl, sym, ap, ◌∙◌, subst, arith}
use Rattle.std.specs.Result.{IsOk}
use Rattle.base_devices.specs.Whole.{Gave}
use Rattle.net_model.specs.Parts.{NetParts, EntryParts}
use Rattle.net_model.specs.Sound.{IsSound}
use Rattle.document_reader.specs.declared.fault.Fault.{Fault}
use Rattle.output_patterns.specs.declared.fault.PatternKind.{PatternKind}
use Rattle.output_patterns.specs.Parts.{PatternParts}
use Rattle.output_patterns.specs.Watch.{IsWatchOf}
use Rattle.output_patterns.proofs.Reading.{bad_refused, same_bad, same_refused, watch_bad, watch_refused}
use Rattle.program_sequential.specs.declared.unanswered.Unanswered.{Unanswered}
use Rattle.program_sequential.specs.declared.unanswered.Unanswered.TheVariants as whys
use Rattle.base_devices.specs.declared.whole.ReadAll.{ReadAll}
use Rattle.base_devices.specs.declared.whole.ReadAll.TheVariants as reads
use Rattle.program_sequential.specs.declared.words.Schedule.TheVariants.{Walk}
use Rattle.program_sequential.specs.declared.words.Wanted.TheVariants.{Patterns}
use Rattle.program_sequential.specs.Words.{plain}
use Rattle.program_sequential.specs.Printed.{run_text, trace_of}
use Rattle.program_sequential.specs.Promise.{ClientPromise, AreOfNotices}
use Rattle.program_sequential.specs.Network.{lists_by, NetworkPromise, IsWholeRun}
use Rattle.program_sequential.specs.Patterns.{IsPatternsOf, IsInputAtFault, IsPatternAtFault, HasPatterns}
use Rattle.program_sequential.specs.Answers.{GaveDocument, GaveRefusedFor, GaveBadPatternFor, CanAnswerFor}
use Rattle.program_sequential.specs.Showing.{PrintedParts}
use Rattle.program_sequential.specs.Answering.{of_unread}
use Rattle.program_sequential.specs.Searching.{IsSearched, SearchesInput, SearchesSource}
use Rattle.net_turns.specs.Network.{IsLegal, IsDrainedBy}
use Rattle.output_patterns.specs.Found.{found_text}
use Rattle.program_sequential.specs.Runs.{GoesBy, received_in}
use Rattle.program_sequential.proofs.Sources.{same-given}

pub patterns-of : (input text : List ℕ) (net : NetParts) (patterns : List PatternParts) (journal : List EntryParts) → length input ≤ 4194304
    → (w : IsWatchOf input net patterns) → IsSound net → AreOfNotices net.clients → IsSearched net patterns text journal
    → (IsWholeRun net journal → ClientPromise plain w.document (run_text plain net journal) net (lists_by net journal) (trace_of plain.trace net journal))
    → (IsWholeRun net journal → NetworkPromise Walk plain net journal (lists_by net journal) (trace_of plain.trace net journal))
    → IsPatternsOf input text journal
patterns-of input text net patterns journal few w sound notices s clients network =
    let whole : IsWholeRun net journal = record { sound = sound; notices = notices; legal = s.legal; drained = s.drained } in record {
      few = few;
      document = w.document;
      later = w.later;
      parted = w.parted;
      walked = run_text plain net journal;
      walk = record {
        net = net;
        well_formed = w.well_formed;
        lists = lists_by net journal;
        trace = trace_of plain.trace net journal;
        clients = clients whole;
        network = network whole;
      };
      patterns = patterns;
      read = w.read;
      printed = s.printed;
    }

-- what is printed of a search
pub searched-of : (net : NetParts) (patterns : List PatternParts) (p : PrintedParts) (text rest : List ℕ) (journal : List EntryParts) → p ≡ record { text = text ++ rest; journal = journal } → rest ≡ []
    → text ≡ found_text net.clients (received_in net journal) patterns → GoesBy Walk net journal → IsLegal net journal → IsDrainedBy net journal → IsSearched net patterns p.text p.journal
searched-of net patterns p text rest journal e none found goes legal drained =
    subst (λ (z : PrintedParts). IsSearched net patterns z.text z.journal) (sym e)
    (record { goes_by = goes; legal = legal; drained = drained; printed = ap (λ z. text ++ z) none ∙ append-nil text ∙ found })

watched : (input text : List ℕ) (journal : List EntryParts) (p : IsPatternsOf input text journal) → IsWatchOf input p.walk.net p.patterns
watched input text journal p = record { document = p.document; later = p.later; parted = p.parted; well_formed = p.walk.well_formed; read = p.read }

-- An input says one thing.

said-refused : (input text : List ℕ) (journal : List EntryParts) (line : ℕ) (kind : Fault) → IsPatternsOf input text journal → IsInputAtFault input line kind → ⊥
said-refused input text journal line kind p (inl long) = omega (arith, p.few, long.0)
said-refused input text journal line kind p (inr bad) = watch_refused input p.walk.net p.patterns line kind p.few (watched input text journal p) bad.1

said-bad : (input text : List ℕ) (journal : List EntryParts) (line : ℕ) (kind : PatternKind) → IsPatternsOf input text journal → IsPatternAtFault input line kind → ⊥
said-bad input text journal line kind p bad = watch_bad input p.walk.net p.patterns line kind p.few (watched input text journal p) bad.1

one-refused : (input : List ℕ) (l line : ℕ) (k kind : Fault) → IsInputAtFault input l k → IsInputAtFault input line kind → (l ≡ line) × (k ≡ kind)
one-refused input l line k kind (inl a) (inl b) = (a.1 ∙ sym b.1, a.2 ∙ sym b.2)
one-refused input l line k kind (inl a) (inr b) = absurd (omega (arith, a.0, b.0))
one-refused input l line k kind (inr a) (inl b) = absurd (omega (arith, a.0, b.0))
one-refused input l line k kind (inr a) (inr b) = same_refused input l line k kind a.0 a.1 b.1

refused-bad : (input : List ℕ) (line n : ℕ) (kind : Fault) (k : PatternKind) → IsInputAtFault input line kind → IsPatternAtFault input n k → ⊥
refused-bad input line n kind k (inl long) bad = omega (arith, long.0, bad.0)
refused-bad input line n kind k (inr r) bad = bad_refused input n k line kind bad.0 bad.1 r.1

has-refused : (input : List ℕ) (line : ℕ) (kind : Fault) → HasPatterns input → IsInputAtFault input line kind → ⊥
has-refused input line kind h (inl long) = omega (arith, h.0, long.0)
has-refused input line kind h (inr bad) = watch_refused input h.1.0 h.1.1 line kind h.0 h.1.2 bad.1

has-bad : (input : List ℕ) (line : ℕ) (kind : PatternKind) → HasPatterns input → IsPatternAtFault input line kind → ⊥
has-bad input line kind h bad = watch_bad input h.1.0 h.1.1 line kind h.0 h.1.2 bad.1

-- A source gave one input.

module _ (a b : List ℕ) (ended : Bool) where
  same : (x y : List ℕ) → b ≡ a ++ x → b ≡ a ++ y → x ≡ y
  same x y p q = same-given a b x y p q

  unread : (x : List ℕ) → GaveDocument a b ended x → (ended ≡ true → ⊥) × Gave a b (λ bytes. length bytes ≤ 4194304) → ⊥
  unread x (is, inl e) h = h.0 e
  unread x (is, inr big) h = omega (arith, big, subst (λ (z : List ℕ). length z ≤ 4194304) (same h.1.0 x h.1.1 is) h.1.2)

  pub search-refused : (r : Result PrintedParts Unanswered) (line : ℕ) (kind : Fault) → SearchesSource a b ended r → GaveRefusedFor Patterns a b ended line kind
      → (r ≡ Err (whys.BadInput line kind)) ⊎ (r ≡ Err whys.NoMemory)
  search-refused (Ok p) line kind h t = absurd (said-refused t.0 p.text p.journal line kind (subst (λ z. IsPatternsOf z p.text p.journal) (same h.0 t.0 h.1 t.1.0) h.3) t.2)
  search-refused (Err (whys.BadInput l k)) line kind h t =
      let w = one-refused t.0 l line k kind (subst (λ z. IsInputAtFault z l k) (same h.0 t.0 h.1.0 t.1.0) h.2) t.2 in
      inl (rw (w.0, w.1) refl)
  search-refused (Err (whys.BadPattern l k)) line kind h t = absurd (refused-bad t.0 line l kind k t.2 (subst (λ z. IsPatternAtFault z l k) (same h.0 t.0 h.1.0 t.1.0) h.2))
  search-refused (Err (whys.Refuted l k)) line kind h t = absurd h
  search-refused (Err (whys.Unknown k)) line kind h t = absurd h
  search-refused (Err whys.ReadFault) line kind h t = absurd (unread t.0 t.1 h)
  search-refused (Err whys.NoMemory) line kind h t = inr refl

  pub search-bad : (r : Result PrintedParts Unanswered) (line : ℕ) (kind : PatternKind) → SearchesSource a b ended r → GaveBadPatternFor Patterns a b ended line kind
      → (r ≡ Err (whys.BadPattern line kind)) ⊎ (r ≡ Err whys.NoMemory)
  search-bad (Ok p) line kind h t = absurd (said-bad t.0 p.text p.journal line kind (subst (λ z. IsPatternsOf z p.text p.journal) (same h.0 t.0 h.1 t.1.0) h.3) t.2)
  search-bad (Err (whys.BadInput l k)) line kind h t = absurd (refused-bad t.0 l line k kind (subst (λ z. IsInputAtFault z l k) (same h.0 t.0 h.1.0 t.1.0) h.2) t.2)
  search-bad (Err (whys.BadPattern l k)) line kind h t =
      let bad : IsPatternAtFault t.0 l k = subst (λ z. IsPatternAtFault z l k) (same h.0 t.0 h.1.0 t.1.0) h.2 in
      let w = same_bad t.0 l line k kind bad.0 bad.1 t.2.1 in
      inl (rw (w.0, w.1) refl)
  search-bad (Err (whys.Refuted l k)) line kind h t = absurd h
  search-bad (Err (whys.Unknown k)) line kind h t = absurd h
  search-bad (Err whys.ReadFault) line kind h t = absurd (unread t.0 t.1 h)
  search-bad (Err whys.NoMemory) line kind h t = inr refl

  pub search-done : (r : Result PrintedParts Unanswered) → SearchesSource a b ended r → CanAnswerFor Patterns a b ended → IsOk r ⊎ (r ≡ Err whys.NoMemory)
  search-done (Ok p) h t = inl refl
  search-done (Err (whys.BadInput l k)) h t = absurd (has-refused t.0 l k t.2 (subst (λ z. IsInputAtFault z l k) (same h.0 t.0 h.1.0 t.1.0) h.2))
  search-done (Err (whys.BadPattern l k)) h t = absurd (has-bad t.0 l k t.2 (subst (λ z. IsPatternAtFault z l k) (same h.0 t.0 h.1.0 t.1.0) h.2))
  search-done (Err (whys.Refuted l k)) h t = absurd h
  search-done (Err (whys.Unknown k)) h t = absurd h
  search-done (Err whys.ReadFault) h t = absurd (unread t.0 t.1 h)
  search-done (Err whys.NoMemory) h t = inr refl

  pub source-answer : (input : List ℕ) (r : Result PrintedParts Unanswered) → b ≡ a ++ input → ended ≡ true → SearchesInput input r → SearchesSource a b ended r
  source-answer input (Ok p) is e h = (input, is, e, h)
  source-answer input (Err (whys.BadInput l k)) is e h = (input, (is, inl e), h)
  source-answer input (Err (whys.BadPattern l k)) is e h = (input, (is, inl e), h)
  source-answer input (Err (whys.Refuted l k)) is e h = absurd h
  source-answer input (Err (whys.Unknown k)) is e h = absurd h
  source-answer input (Err whys.ReadFault) is e h = absurd h
  source-answer input (Err whys.NoMemory) is e h = tt

  pub unread-answer : (e : ReadAll) → (e ≡ reads.TooLong → Gave a b (λ given. length given ≡ 4194305)) → (e ≡ reads.Failed → Gave a b (λ given. length given ≤ 4194304)) → (ended ≡ true → ⊥)
      → SearchesSource a b ended (Err (of_unread e))
  unread-answer reads.TooLong long within never =
      let t = long refl in
      let big : 4194304 < length t.0 = omega (arith, t.2) in
      (t.0, (t.1, inr big), inl (big, refl, refl))
  unread-answer reads.Failed long within never = (never, within refl)
  unread-answer reads.NoMemory long within never = tt
