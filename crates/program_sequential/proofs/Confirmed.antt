-- The answer to `audit`, and what it tells of the input.
use Rattle.std.proofs.Common.{◌≡◌, ◌⊎◌, inl, inr, ℕ, ◌<◌, ◌≤◌, Bool, true, false, List, ◌++◌, length, Result, Ok, Err, refl, sym, ◌∙◌, subst, arith}
use Rattle.std.specs.Result.{IsOk}
use Rattle.base_devices.specs.Whole.{Gave}
use Rattle.net_model.specs.Parts.{NetParts, EntryParts}
use Rattle.document_reader.specs.declared.fault.Fault.{Fault}
use Rattle.audit_claim.specs.Claim.{IsBadDocument}
use Rattle.audit_claim.proofs.Claiming.{one_bad}
use Rattle.document_reader.specs.Net.{IsNetOf}
use Rattle.audit_verdict.specs.Kinds.{RunKind, peers}
use Rattle.audit_verdict.specs.Laws.{VerdictLaws}
use Rattle.audit_verdict.specs.Verdict.{IsAudited, IsRefuted}
use Rattle.audit_verdict.specs.declared.fault.AuditFault.{AuditFault}
use Rattle.audit_verdict.specs.declared.fault.AuditFault.TheVariants as faults
use Rattle.audit_verdict.specs.declared.fault.AuditKind.{AuditKind}
use Rattle.audit_verdict.proofs.Verdicts.{audited_or_bad, audited_or_must, can_or_bad, can_or_refuted, must_or_bad, refuted_once, refuted_or_bad}
use Rattle.audit_verdict.proofs.PeersLaws.{peers-verdict}
use Rattle.audit_hierarchy.specs.Runs.{hierarchies}
use Rattle.audit_hierarchy.proofs.Laws.{hierarchies-verdict}
use Rattle.hierarchy_turns.specs.Promise.{HierarchyPromise, IsWholeRun as IsWholeHierarchy}
use Rattle.program_sequential.specs.declared.unanswered.Unanswered.{Unanswered}
use Rattle.program_sequential.specs.declared.unanswered.Unanswered.TheVariants as whys
use Rattle.base_devices.specs.declared.whole.ReadAll.{ReadAll}
use Rattle.base_devices.specs.declared.whole.ReadAll.TheVariants as reads
use Rattle.program_sequential.specs.declared.words.Wanted.TheVariants.{Audit}
use Rattle.program_sequential.specs.Printed.{run_text, trace_of}
use Rattle.program_sequential.specs.Promise.{ClientPromise, AreOfNotices}
use Rattle.program_sequential.specs.Network.{lists_by, RunPromise, IsWholeRun}
use Rattle.program_sequential.specs.Hierarchy.{hierarchy_lists, hierarchy_text, hierarchy_trace}
use Rattle.program_sequential.specs.Audits.{IsAuditBy, IsAuditOf, IsAuditAtFault, IsAuditRefuted, IsHierarchyAuditOf, MustRefute, CanConfirm, audited_kind, traced}
use Rattle.program_sequential.specs.Answers.{GaveOutput, GaveRefusedFor, GaveWrongFor, CanAnswerFor}
use Rattle.program_sequential.specs.Showing.{PrintedParts}
use Rattle.program_sequential.specs.Answering.{of_audit_fault, of_unread}
use Rattle.program_sequential.specs.Auditing.{AuditsInput, AuditsKind, AuditsSource, IsConfirmed}
use Rattle.program_sequential.proofs.Sources.{same-given}

-- what is printed of a confirmed run
confirmed-of : (input text : List ℕ) (journal : List EntryParts) → length input ≤ 268435456 → (a : IsConfirmed peers input text journal)
    → (IsWholeRun a.net journal → ClientPromise traced a.audited.document (run_text traced a.net journal) a.net (lists_by a.net journal) (trace_of true a.net journal))
    → (IsWholeRun a.net journal → RunPromise traced a.net journal (lists_by a.net journal) (trace_of true a.net journal)) → IsAuditOf input text journal
confirmed-of input text journal few a clients run =
    let whole : IsWholeRun a.net journal = record { sound = a.sound; notices = a.notices; legal = a.audited.run.legal; drained = a.audited.run.drained } in record {
      few = few;
      owed = a.owed;
      deliveries = a.deliveries;
      net = a.net;
      audited = a.audited;
      clients = subst (λ z. ClientPromise traced a.audited.document z a.net (lists_by a.net journal) (trace_of true a.net journal)) (sym a.audited.run.text) (clients whole);
      network = run whole;
      printed = a.printed;
    }

-- and of one of a hierarchy
confirmed-below : (input text : List ℕ) (journal : List EntryParts) → length input ≤ 268435456 → (a : IsConfirmed hierarchies input text journal)
    → (IsWholeHierarchy a.net journal → AreOfNotices a.net.clients → ClientPromise traced a.audited.document (hierarchy_text traced a.net journal) a.net (hierarchy_lists a.net journal) (hierarchy_trace true a.net journal))
    → (IsWholeHierarchy a.net journal → HierarchyPromise a.net journal) → IsHierarchyAuditOf input text journal
confirmed-below input text journal few a clients run =
    let whole : IsWholeHierarchy a.net journal = record { sound = a.sound; legal = a.audited.run.legal; drained = a.audited.run.drained } in record {
      few = few;
      owed = a.owed;
      deliveries = a.deliveries;
      net = a.net;
      audited = a.audited;
      clients = subst (λ z. ClientPromise traced a.audited.document z a.net (hierarchy_lists a.net journal) (hierarchy_trace true a.net journal)) (sym a.audited.run.text) (clients whole a.notices);
      network = run whole;
      printed = a.printed;
    }

-- the answer about runs of peers
pub audits-peers : (input : List ℕ) (r : Result PrintedParts Unanswered) → length input ≤ 268435456
    → ((document : List ℕ) (net : NetParts) (journal : List EntryParts) → IsNetOf document net → IsWholeRun net journal
    → ClientPromise traced document (run_text traced net journal) net (lists_by net journal) (trace_of true net journal))
    → ((net : NetParts) (journal : List EntryParts) → IsWholeRun net journal → RunPromise traced net journal (lists_by net journal) (trace_of true net journal))
    → AuditsKind peers input r → AuditsInput false input r
audits-peers input (Ok p) few clients run a =
    confirmed-of input p.text p.journal few a (clients a.audited.document a.net p.journal a.audited.input.well_formed) (run a.net p.journal)
audits-peers input (Err (whys.BadInput line kind)) few clients run a = a
audits-peers input (Err (whys.BadPattern line kind)) few clients run a = a
audits-peers input (Err (whys.Refuted line kind)) few clients run a = a
audits-peers input (Err (whys.Unknown kind)) few clients run a = a
audits-peers input (Err whys.ReadFault) few clients run a = a
audits-peers input (Err whys.NoMemory) few clients run a = tt

-- and about those of hierarchies
pub audits-below : (input : List ℕ) (r : Result PrintedParts Unanswered) → length input ≤ 268435456
    → ((document : List ℕ) (net : NetParts) (journal : List EntryParts) → IsNetOf document net → IsWholeHierarchy net journal → AreOfNotices net.clients
    → ClientPromise traced document (hierarchy_text traced net journal) net (hierarchy_lists net journal) (hierarchy_trace true net journal))
    → ((net : NetParts) (journal : List EntryParts) → IsWholeHierarchy net journal → HierarchyPromise net journal)
    → AuditsKind hierarchies input r → AuditsInput true input r
audits-below input (Ok p) few clients run a =
    confirmed-below input p.text p.journal few a (clients a.audited.document a.net p.journal a.audited.input.well_formed) (run a.net p.journal)
audits-below input (Err (whys.BadInput line kind)) few clients run a = a
audits-below input (Err (whys.BadPattern line kind)) few clients run a = a
audits-below input (Err (whys.Refuted line kind)) few clients run a = a
audits-below input (Err (whys.Unknown kind)) few clients run a = a
audits-below input (Err whys.ReadFault) few clients run a = a
audits-below input (Err whys.NoMemory) few clients run a = tt

-- Each kind has one verdict.

one-verdict : (hierarchy : Bool) → VerdictLaws (audited_kind hierarchy)
one-verdict false = peers-verdict
one-verdict true = hierarchies-verdict

-- what an answer says was audited
audited-by : (hierarchy : Bool) (input text : List ℕ) (journal : List EntryParts) → IsAuditBy hierarchy input text journal
    → (net : NetParts) × (owed : ℕ) × (deliveries : ℕ) × IsAudited (audited_kind hierarchy) input net journal owed deliveries
audited-by false input text journal p = (p.net, p.owed, p.deliveries, p.audited)
audited-by true input text journal p = (p.net, p.owed, p.deliveries, p.audited)

few-by : (hierarchy : Bool) (input text : List ℕ) (journal : List EntryParts) → IsAuditBy hierarchy input text journal → length input ≤ 268435456
few-by false input text journal p = p.few
few-by true input text journal p = p.few

-- An input says one thing.

said-refused : (hierarchy : Bool) (input text : List ℕ) (journal : List EntryParts) (line : ℕ) (kind : Fault) → IsAuditBy hierarchy input text journal → IsAuditAtFault input line kind → ⊥
said-refused hierarchy input text journal line kind p (inl long) = omega (arith, few-by hierarchy input text journal p, long.0)
said-refused hierarchy input text journal line kind p (inr bad) =
    let (net, owed, deliveries, audited) = audited-by hierarchy input text journal p in
    audited_or_bad (audited_kind hierarchy) input net journal owed deliveries line kind audited bad.1

one-refused : (input : List ℕ) (l line : ℕ) (k kind : Fault) → IsAuditAtFault input l k → IsAuditAtFault input line kind → (l ≡ line) × (k ≡ kind)
one-refused input l line k kind (inl a) (inl b) = (a.1 ∙ sym b.1, a.2 ∙ sym b.2)
one-refused input l line k kind (inl a) (inr b) = absurd (omega (arith, a.0, b.0))
one-refused input l line k kind (inr a) (inl b) = absurd (omega (arith, a.0, b.0))
one-refused input l line k kind (inr a) (inr b) = one_bad input l line k kind a.1 b.1

refused-refuted : (hierarchy : Bool) (input : List ℕ) (line n : ℕ) (kind : Fault) (k : AuditKind) → IsAuditAtFault input line kind → IsAuditRefuted hierarchy input n k → ⊥
refused-refuted hierarchy input line n kind k (inl long) bad = omega (arith, long.0, bad.0)
refused-refuted hierarchy input line n kind k (inr r) bad = refuted_or_bad (audited_kind hierarchy) input n k line kind bad.1 r.1

refused-wrong : (hierarchy : Bool) (input : List ℕ) (line n : ℕ) (kind : Fault) (k : AuditKind) → IsAuditAtFault input line kind → MustRefute hierarchy input n k → ⊥
refused-wrong hierarchy input line n kind k (inl long) bad = omega (arith, long.0, bad.0)
refused-wrong hierarchy input line n kind k (inr r) bad = must_or_bad (audited_kind hierarchy) input line kind n k r.1 bad.1

has-refused : (hierarchy : Bool) (input : List ℕ) (line : ℕ) (kind : Fault) → CanConfirm hierarchy input → IsAuditAtFault input line kind → ⊥
has-refused hierarchy input line kind h (inl long) = omega (arith, h.0, long.0)
has-refused hierarchy input line kind h (inr bad) = can_or_bad (audited_kind hierarchy) input line kind h.1 bad.1

-- A source gave one input.

module _ (hierarchy : Bool) (a b : List ℕ) (ended : Bool) where
  same : (x y : List ℕ) → b ≡ a ++ x → b ≡ a ++ y → x ≡ y
  same x y p q = same-given a b x y p q

  unread : (x : List ℕ) → GaveOutput a b ended x → (ended ≡ true → ⊥) × Gave a b (λ bytes. length bytes ≤ 268435456) → ⊥
  unread x (is, inl e) h = h.0 e
  unread x (is, inr big) h = omega (arith, big, subst (λ (z : List ℕ). length z ≤ 268435456) (same h.1.0 x h.1.1 is) h.1.2)

  pub audit-refused : (r : Result PrintedParts Unanswered) (line : ℕ) (kind : Fault) → AuditsSource hierarchy a b ended r → GaveRefusedFor (Audit hierarchy) a b ended line kind
      → (r ≡ Err (whys.BadInput line kind)) ⊎ (r ≡ Err whys.NoMemory)
  audit-refused (Ok p) line kind h t = absurd (said-refused hierarchy t.0 p.text p.journal line kind (subst (λ z. IsAuditBy hierarchy z p.text p.journal) (same h.0 t.0 h.1 t.1.0) h.3) t.2)
  audit-refused (Err (whys.BadInput l k)) line kind h t =
      let w = one-refused t.0 l line k kind (subst (λ z. IsAuditAtFault z l k) (same h.0 t.0 h.1.0 t.1.0) h.2) t.2 in
      inl (rw (w.0, w.1) refl)
  audit-refused (Err (whys.BadPattern l k)) line kind h t = absurd h
  audit-refused (Err (whys.Refuted l k)) line kind h t = absurd (refused-refuted hierarchy t.0 line l kind k t.2 (subst (λ z. IsAuditRefuted hierarchy z l k) (same h.0 t.0 h.1.0 t.1.0) h.2))
  audit-refused (Err (whys.Unknown k)) line kind h t = absurd h
  audit-refused (Err whys.ReadFault) line kind h t = absurd (unread t.0 t.1 h)
  audit-refused (Err whys.NoMemory) line kind h t = inr refl

  pub audit-wrong : (r : Result PrintedParts Unanswered) (line : ℕ) (kind : AuditKind) → AuditsSource hierarchy a b ended r → GaveWrongFor (Audit hierarchy) a b ended line kind
      → (r ≡ Err (whys.Refuted line kind)) ⊎ (r ≡ Err whys.NoMemory)
  audit-wrong (Ok p) line kind h t =
      let (net, owed, deliveries, audited) = audited-by hierarchy t.0 p.text p.journal (subst (λ z. IsAuditBy hierarchy z p.text p.journal) (same h.0 t.0 h.1 t.1.0) h.3) in
      absurd (audited_or_must (audited_kind hierarchy) (one-verdict hierarchy) t.0 net p.journal owed deliveries line kind audited t.2.1)
  audit-wrong (Err (whys.BadInput l k)) line kind h t = absurd (refused-wrong hierarchy t.0 l line k kind (subst (λ z. IsAuditAtFault z l k) (same h.0 t.0 h.1.0 t.1.0) h.2) t.2)
  audit-wrong (Err (whys.BadPattern l k)) line kind h t = absurd h
  audit-wrong (Err (whys.Refuted l k)) line kind h t =
      let w = refuted_once (audited_kind hierarchy) (one-verdict hierarchy) t.0 l line k kind (subst (λ z. IsAuditRefuted hierarchy z l k) (same h.0 t.0 h.1.0 t.1.0) h.2).1 t.2.1 in
      inl (rw (w.0, w.1) refl)
  audit-wrong (Err (whys.Unknown k)) line kind h t = absurd h
  audit-wrong (Err whys.ReadFault) line kind h t = absurd (unread t.0 t.1 h)
  audit-wrong (Err whys.NoMemory) line kind h t = inr refl

  pub audit-done : (r : Result PrintedParts Unanswered) → AuditsSource hierarchy a b ended r → CanAnswerFor (Audit hierarchy) a b ended → IsOk r ⊎ (r ≡ Err whys.NoMemory)
  audit-done (Ok p) h t = inl refl
  audit-done (Err (whys.BadInput l k)) h t = absurd (has-refused hierarchy t.0 l k t.2 (subst (λ z. IsAuditAtFault z l k) (same h.0 t.0 h.1.0 t.1.0) h.2))
  audit-done (Err (whys.BadPattern l k)) h t = absurd h
  audit-done (Err (whys.Refuted l k)) h t = absurd (can_or_refuted (audited_kind hierarchy) (one-verdict hierarchy) t.0 l k t.2.1 (subst (λ z. IsAuditRefuted hierarchy z l k) (same h.0 t.0 h.1.0 t.1.0) h.2).1)
  audit-done (Err (whys.Unknown k)) h t = absurd h
  audit-done (Err whys.ReadFault) h t = absurd (unread t.0 t.1 h)
  audit-done (Err whys.NoMemory) h t = inr refl

  pub audit-answer : (input : List ℕ) (r : Result PrintedParts Unanswered) → b ≡ a ++ input → ended ≡ true → AuditsInput hierarchy input r → AuditsSource hierarchy a b ended r
  audit-answer input (Ok p) is e h = (input, is, e, h)
  audit-answer input (Err (whys.BadInput l k)) is e h = (input, (is, inl e), h)
  audit-answer input (Err (whys.BadPattern l k)) is e h = absurd h
  audit-answer input (Err (whys.Refuted l k)) is e h = (input, (is, inl e), h)
  audit-answer input (Err (whys.Unknown k)) is e h = absurd h
  audit-answer input (Err whys.ReadFault) is e h = absurd h
  audit-answer input (Err whys.NoMemory) is e h = tt

  pub unread-audit : (e : ReadAll) → (e ≡ reads.TooLong → Gave a b (λ given. length given ≡ 268435457)) → (e ≡ reads.Failed → Gave a b (λ given. length given ≤ 268435456)) → (ended ≡ true → ⊥)
      → AuditsSource hierarchy a b ended (Err (of_unread e))
  unread-audit reads.TooLong long within never =
      let t = long refl in
      let big : 268435456 < length t.0 = omega (arith, t.2) in
      (t.0, (t.1, inr big), inl (big, refl, refl))
  unread-audit reads.Failed long within never = (never, within refl)
  unread-audit reads.NoMemory long within never = tt

-- what is not confirmed
pub not-confirmed : (kind : RunKind) (input : List ℕ) → length input ≤ 268435456 → (fault : AuditFault) → ((line : ℕ) (why : Fault) → fault ≡ faults.Document line why → IsBadDocument input line why)
    → ((line : ℕ) (why : AuditKind) → fault ≡ faults.Refuted line why → IsRefuted kind input line why) → AuditsKind kind input (Err (of_audit_fault fault))
not-confirmed kind input few (faults.Document line why) bad refuted = inr (few, bad line why refl)
not-confirmed kind input few (faults.Refuted line why) bad refuted = (few, refuted line why refl)
not-confirmed kind input few faults.NoMemory bad refuted = tt
