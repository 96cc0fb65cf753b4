-- Proves that each output has one verdict, and that the code answers by it.
use Rattle.std.proofs.Common.{◌≡◌, ◌⊎◌, inl, inr, ℕ, Bool, true, false, List, [], drop, Result, Ok, Err, Option, Some, None, refl, sym, ap, subst, ◌∙◌, arith}
use Rattle.std.specs.Prelude.{IfOk, IsOkAnd, codes}
use Rattle.net_model.specs.declared.turn.Turn.{Turn}
use Rattle.net_model.specs.Parts.{NetParts, EntryParts}
use Rattle.document_reader.specs.declared.fault.Fault.{Fault}
use Rattle.document_reader.specs.Net.{IsNetOf}
use Rattle.document_reader.specs.Cut.{first_number}
use Rattle.document_reader.proofs.Parting.{one_after, one_before}
use Rattle.audit_claim.specs.Claim.{IsBadDocument, IsClaimOf, IsFormless, IsInput, output_shows}
use Rattle.audit_claim.specs.Difference.{difference}
use Rattle.audit_claim.specs.declared.fault.ClaimFault.{ClaimFault}
use Rattle.audit_claim.specs.declared.fault.ClaimFault.TheVariants as claims
use Rattle.audit_claim.proofs.Apart.{none_equal}
use Rattle.audit_claim.proofs.Inputs.{written_input}
use Rattle.audit_claim.proofs.Claiming.{formless_or_bad, input_or_bad, not_alone, one_bad}
use Rattle.audit_verdict.specs.Answers.{AnswersAudit, ConcludesAt, TellsAudited, TellsDrained, TellsRun, fault_of_claim}
use Rattle.audit_verdict.specs.Comparing.{ComparingParts, GoesOn, IsComparedTo, comparing}
use Rattle.audit_verdict.specs.Verdict.{CanAudit, ComparesRun, EndsRun, IsAudited, IsInputOfRun, IsOutputOf, IsRefuted, IsVerdict, MakesRun, IsWrittenByRun, MustBeRefuted, ShowsRun}
use Rattle.audit_verdict.specs.Verdict.{line_at, traced_text}
use Rattle.audit_verdict.specs.Kinds.{AreMade, RunKind}
use Rattle.audit_verdict.specs.Laws.{VerdictLaws}
use Rattle.audit_verdict.proofs.Stopping.{never-stops, one-journal, one-line}
use Rattle.audit_verdict.specs.declared.fault.AuditKind.{AuditKind}
use Rattle.audit_verdict.specs.declared.fault.AuditKind.TheVariants as is
use Rattle.audit_verdict.specs.declared.fault.AuditFault.{AuditFault}
use Rattle.audit_verdict.specs.declared.fault.AuditFault.TheVariants as faults

abbrev Verdict : Type 0
Verdict = Result (List EntryParts) (ℕ × AuditKind)

one_journal : (a b : List EntryParts) → ◌≡◌ {A = Verdict} (Ok a) (Ok b) → a ≡ b
one_journal a b e = cc

-- the text of a run was compared from its beginning
pub compared_all : (claimed text : List ℕ) (a c : ComparingParts) → a ≡ comparing claimed 0 false → GoesOn a c text → IsComparedTo c text
compared_all claimed text a c e p = p.compared [] (subst (λ z. IsComparedTo z []) (sym e) (omega arith, refl))

-- a run that is what is claimed is drained
pub concludes_drained : (first end : ℕ) (output : List ℕ) (drained : Bool) (r : Result (Unit {0}) AuditFault) (u : Unit {0}) → r ≡ Ok u → (d : Option ℕ) → ConcludesAt first end output drained r d → drained ≡ true
concludes_drained first end output true r u e d c = refl
concludes_drained first end output false r u e (Some place) c = cc
concludes_drained first end output false r u e None c = cc

never_both : (x : List EntryParts) (y : ℕ × AuditKind) → ◌≡◌ {A = Verdict} (Ok x) (Err y) → ⊥
never_both x y e = cc

one_place : (l line : ℕ) (k kind : AuditKind) → ◌≡◌ {A = Verdict} (Err (l, k)) (Err (line, kind)) → (l ≡ line) × (k ≡ kind)
one_place l line k kind e =
    let x : ℕ × AuditKind = (l, k) in
    let y : ℕ × AuditKind = (line, kind) in
    let p : x ≡ y = cc in
    (ap (λ (z : ℕ × AuditKind). z.0) p, ap (λ (z : ℕ × AuditKind). z.1) p)

-- What is told of a run, of whichever kind.

module _ (runs : RunKind) where
  pub written_of_run : (bytes : List ℕ) (net : NetParts) (journal : List EntryParts) → IsWrittenByRun runs bytes net journal → IsInputOfRun runs bytes net journal
  written_of_run bytes net journal w = record {
    document = w.document;
    output = traced_text runs net journal;
    input = subst (λ z. IsInput z w.document (traced_text runs net journal) net) (sym w.text) (written_input w.document (traced_text runs net journal) net w.well_formed w.ends);
    run = record { legal = w.legal; drained = w.drained; text = refl };
  }

  module _ {A : Type 0} (j : A → List EntryParts) (n : A → ℕ) (net : NetParts) (first end : ℕ) (output : List ℕ) (turns : List (ℕ × Turn)) (journal : List EntryParts) (made : AreMade runs net [] turns journal) (legal : runs.IsLegal net journal) where
    pub tells_err : (drained : Bool) → TellsDrained runs drained net journal → (e : AuditFault) (d : Option ℕ) → d ≡ difference output (traced_text runs net journal)
        → ConcludesAt first end output drained (Err e) d → TellsRun runs j n net first end output turns (Err e)
    tells_err drained told e (Some place) same c =
        let is-it : e ≡ faults.Refuted (line_at first end output place) is.Differs = cc in
        subst (λ z. TellsRun runs j n net first end output turns (Err z)) (sym is-it)
        (inr (journal, made, subst (ComparesRun runs net first end output journal (Err (line_at first end output place, is.Differs))) same refl))
    tells_err true told e None same c = cc
    tells_err false told e None same c =
        let is-it : e ≡ faults.Refuted end is.Open = cc in
        subst (λ z. TellsRun runs j n net first end output turns (Err z)) (sym is-it)
        (inr (journal, made, subst (ComparesRun runs net first end output journal (Err (end, is.Open))) same (inr (told, refl))))

    pub tells_ok : (drained : Bool) → TellsDrained runs drained net journal → (r : Result (Unit {0}) AuditFault) (u : Unit {0}) → r ≡ Ok u → (d : Option ℕ) → d ≡ difference output (traced_text runs net journal)
        → ConcludesAt first end output drained r d → MakesRun runs net first end output turns (Ok journal) × IsOutputOf runs net journal output
    tells_ok drained told r u e (Some place) same c = absurd (never (e) c)
      where
        never : {z : AuditFault} → r ≡ Ok u → r ≡ Err z → ⊥
        never p q = cc
    tells_ok true told r u e None same c = (
      inr (journal, made, subst (ComparesRun runs net first end output journal (Ok journal)) same (inl (told, refl))),
      record { legal = legal; drained = told; text = none_equal output (traced_text runs net journal) (sym same) },
    )
    tells_ok false told r u e None same c = absurd (never e c)
      where
        never : {z : AuditFault} → r ≡ Ok u → r ≡ Err z → ⊥
        never p q = cc

  pub unclaimed_tells : {A : Type 0} (g : A → NetParts) (j : A → List EntryParts) (o n : A → ℕ) (bytes : List ℕ) (fault : ClaimFault) → ((line : ℕ) (kind : Fault) → fault ≡ claims.Document line kind → IsBadDocument bytes line kind)
      → ((line : ℕ) → fault ≡ claims.Form line → IsFormless bytes line) → AnswersAudit runs g j o n bytes (Err (fault_of_claim fault))
  unclaimed_tells g j o n bytes (claims.Document line kind) bad form = bad line kind refl
  unclaimed_tells g j o n bytes claims.NoMemory bad form = tt
  unclaimed_tells g j o n bytes (claims.Form line) bad form = go (form line refl)
    where
      go : IsFormless bytes line → IsRefuted runs bytes line is.Form
      go (inl alone) = inr (alone, refl)
      go (inr (d, out, net, i, e)) = inl (d, out, net, i, subst (ShowsRun runs net (first_number d) out (Err (line, is.Form))) (sym e) refl)

  pub refuted_or_bad : (bytes : List ℕ) (l : ℕ) (k : AuditKind) (line : ℕ) (kind : Fault) → IsRefuted runs bytes l k → IsBadDocument bytes line kind → ⊥
  refuted_or_bad bytes l k line kind (inl (d, out, net, i, v)) b = input_or_bad bytes d out net line kind i b
  refuted_or_bad bytes l k line kind (inr (alone, e)) b = formless_or_bad bytes l line kind (inl alone) b

  pub must_or_bad : (bytes : List ℕ) (l : ℕ) (k : Fault) (line : ℕ) (kind : AuditKind) → IsBadDocument bytes l k → MustBeRefuted runs bytes line kind → ⊥
  must_or_bad bytes l k line kind b (inl ((d, out, net, i), all)) = input_or_bad bytes d out net l k i b
  must_or_bad bytes l k line kind b (inr (alone, e)) = formless_or_bad bytes line l k (inl alone) b

  pub audited_or_bad : (bytes : List ℕ) (net : NetParts) (journal : List EntryParts) (owed deliveries line : ℕ) (kind : Fault) → IsAudited runs bytes net journal owed deliveries → IsBadDocument bytes line kind → ⊥
  audited_or_bad bytes net journal owed deliveries line kind a b = input_or_bad bytes a.document a.output net line kind a.input b

  pub can_or_bad : (bytes : List ℕ) (line : ℕ) (kind : Fault) → CanAudit runs bytes → IsBadDocument bytes line kind → ⊥
  can_or_bad bytes line kind (net, run, r) b = input_or_bad bytes r.document r.output net line kind r.input b

module _ (runs : RunKind) (laws : VerdictLaws runs) where
  -- There is one verdict.

  module _ (net : NetParts) where
    one_end : (end : ℕ) (journal : List EntryParts) (v w : Verdict) → EndsRun runs net end journal v → EndsRun runs net end journal w → v ≡ w
    one_end end journal v w (inl (d, e)) (inl (d', e')) = e ∙ sym e'
    one_end end journal v w (inl (d, e)) (inr (d', e')) = absurd (d' d)
    one_end end journal v w (inr (d, e)) (inl (d', e')) = absurd (d d')
    one_end end journal v w (inr (d, e)) (inr (d', e')) = e ∙ sym e'

    one_comparison : (first end : ℕ) (output : List ℕ) (journal : List EntryParts) (v w : Verdict) (d : Option ℕ)
        → ComparesRun runs net first end output journal v d → ComparesRun runs net first end output journal w d → v ≡ w
    one_comparison first end output journal v w None h k = one_end end journal v w h k
    one_comparison first end output journal v w (Some place) h k = h ∙ sym k

    one_run : (first end : ℕ) (output : List ℕ) (turns : List (ℕ × Turn)) (v w : Verdict) → MakesRun runs net first end output turns v → MakesRun runs net first end output turns w → v ≡ w
    one_run first end output turns v w (inl (l, s, e)) (inl (l', s', e')) = e ∙ ap (λ z. Err (z, is.BadTurn)) (one-line runs net laws [] turns l l' s s') ∙ sym e'
    one_run first end output turns v w (inl (l, s, e)) (inr (j, m, c)) = absurd (never-stops runs net laws [] turns j l m s)
    one_run first end output turns v w (inr (j, m, c)) (inl (l, s, e)) = absurd (never-stops runs net laws [] turns j l m s)
    one_run first end output turns v w (inr (j, m, c)) (inr (j', m', c')) =
        one_comparison first end output j v w (difference output (traced_text runs net j)) c
        (subst (λ z. ComparesRun runs net first end output z w (difference output (traced_text runs net z))) (sym (one-journal runs net laws [] turns j j' m m')) c')

    one_shown : (first : ℕ) (output : List ℕ) (v w : Verdict) (r : Result (List (ℕ × Turn) × ℕ) ℕ) → ShowsRun runs net first output v r → ShowsRun runs net first output w r → v ≡ w
    one_shown first output v w (Err line) h k = h ∙ sym k
    one_shown first output v w (Ok shown) h k = one_run first shown.1 output shown.0 v w h k

    pub one_verdict : (document output : List ℕ) (v w : Verdict) → IsVerdict runs net document output v → IsVerdict runs net document output w → v ≡ w
    one_verdict document output v w h k = one_shown (first_number document) output v w (output_shows net document output) h k

  -- THE INPUT OF A WHOLE RUN has the verdict that it is.

  the_verdict : (bytes document output : List ℕ) (net other : NetParts) (run : List EntryParts) → IsInput bytes document output net → IsInputOfRun runs bytes other run
      → IsVerdict runs net document output (Ok run)
  the_verdict bytes document output net other run i r =
      let same : r.document ≡ document = one_before (codes "output") bytes r.document document r.output output r.input.cut i.cut in
      let behind : r.output ≡ output = one_after (codes "output") bytes r.document document r.output output r.input.cut i.cut in
      laws.confirmed document output net run i.well_formed
      (subst (IsOutputOf runs net run) behind (laws.same_output document other net run r.output (subst (λ z. IsNetOf z other) same r.input.well_formed) i.well_formed r.run))

  -- What is told of an input.

  module _ {A : Type 0} (g : A → NetParts) (j : A → List EntryParts) (o n : A → ℕ) (bytes : List ℕ) (net : NetParts) (from first end : ℕ) (turns : List (ℕ × Turn)) (output : List ℕ) (c : IsClaimOf bytes net from first end turns) (behind : output ≡ drop from bytes) where
    verdict_of : (v : Verdict) → MakesRun runs net first end output turns v → IsVerdict runs net c.document c.output v
    verdict_of v m =
        subst (ShowsRun runs net (first_number c.document) c.output v) (sym c.shows)
        (subst (λ z. MakesRun runs net z end c.output turns v) c.first (subst (λ z. MakesRun runs net first end z turns v) (behind ∙ sym c.begins) m))

    pub claim_tells : (r : Result A AuditFault) → TellsAudited runs g j o n net first end output turns r → AnswersAudit runs g j o n bytes r
    claim_tells (Ok a) ((m, run, delivers), (same, owes)) =
        subst (λ z. IsAudited runs bytes z (j a) (o a) (n a)) (sym same)
        (record {
          document = c.document;
          output = c.output;
          input = c.input;
          run = subst (IsOutputOf runs net (j a)) (behind ∙ sym c.begins) run;
          verdict = verdict_of (Ok (j a)) m;
          only = λ other run r. one_journal run (j a) (one_verdict net c.document c.output (Ok run) (Ok (j a)) (the_verdict bytes c.document c.output net other run c.input r) (verdict_of (Ok (j a)) m));
          owes = owes;
          delivers = delivers;
        })
    claim_tells (Err faults.NoMemory) h = tt
    claim_tells (Err (faults.Document line kind)) h = absurd h.0
    claim_tells (Err (faults.Refuted line kind)) h = inl (c.document, c.output, net, c.input, verdict_of (Err (line, kind)) h.0)

  -- The answer, both ways.

  pub refuted_once : (bytes : List ℕ) (l line : ℕ) (k kind : AuditKind) → IsRefuted runs bytes l k → MustBeRefuted runs bytes line kind → (l ≡ line) × (k ≡ kind)
  refuted_once bytes l line k kind (inl (d, out, net, i, v)) (inl (h, all)) = one_place l line k kind (one_verdict net d out (Err (l, k)) (Err (line, kind)) v (all d out net i))
  refuted_once bytes l line k kind (inl (d, out, net, i, v)) (inr (alone, e)) = absurd (not_alone bytes d out i.cut alone.0)
  refuted_once bytes l line k kind (inr (alone, e)) (inl ((d, out, net, i), all)) = absurd (not_alone bytes d out i.cut alone.0)
  refuted_once bytes l line k kind (inr (alone, e)) (inr (alone', e')) = (alone.2 ∙ sym alone'.2, e ∙ sym e')

  pub audited_or_must : (bytes : List ℕ) (net : NetParts) (journal : List EntryParts) (owed deliveries line : ℕ) (kind : AuditKind) → IsAudited runs bytes net journal owed deliveries → MustBeRefuted runs bytes line kind → ⊥
  audited_or_must bytes net journal owed deliveries line kind a (inl (h, all)) =
      never_both journal (line, kind) (one_verdict net a.document a.output (Ok journal) (Err (line, kind)) a.verdict (all a.document a.output net a.input))
  audited_or_must bytes net journal owed deliveries line kind a (inr (alone, e)) = not_alone bytes a.document a.output a.input.cut alone.0

  pub can_or_refuted : (bytes : List ℕ) (l : ℕ) (k : AuditKind) → CanAudit runs bytes → IsRefuted runs bytes l k → ⊥
  can_or_refuted bytes l k (other, run, r) (inl (d, out, net, i, v)) =
      never_both run (l, k) (one_verdict net d out (Ok run) (Err (l, k)) (the_verdict bytes d out net other run i r) v)
  can_or_refuted bytes l k (other, run, r) (inr (alone, e)) = not_alone bytes r.document r.output r.input.cut alone.0

  module _ {A : Type 0} (g : A → NetParts) (j : A → List EntryParts) (o n : A → ℕ) (bytes : List ℕ) where
    pub audited_told : (r : Result A AuditFault) → AnswersAudit runs g j o n bytes r → IfOk r (λ a. IsAudited runs bytes (g a) (j a) (o a) (n a))
    audited_told (Ok a) h = h
    audited_told (Err e) h = tt

    pub complete_told : (r : Result A AuditFault) → AnswersAudit runs g j o n bytes r → (net : NetParts) (run : List EntryParts) → IsInputOfRun runs bytes net run
        → IsOkAnd r (λ a. j a ≡ run) ⊎ (r ≡ Err faults.NoMemory)
    complete_told (Ok a) h net run k = inl (sym (h.only net run k))
    complete_told (Err faults.NoMemory) h net run k = inr refl
    complete_told (Err (faults.Document line kind)) h net run k = absurd (can_or_bad runs bytes line kind (net, run, k) h)
    complete_told (Err (faults.Refuted line kind)) h net run k = absurd (can_or_refuted bytes line kind (net, run, k) h)

    pub document_told : (r : Result A AuditFault) → AnswersAudit runs g j o n bytes r → (line : ℕ) (kind : Fault) → r ≡ Err (faults.Document line kind) → IsBadDocument bytes line kind
    document_told (Ok a) h line kind e = cc
    document_told (Err faults.NoMemory) h line kind e = cc
    document_told (Err (faults.Refuted l k)) h line kind e = cc
    document_told (Err (faults.Document l k)) h line kind e =
        let a : l ≡ line = cc in
        let b : k ≡ kind = cc in
        subst (λ z. IsBadDocument bytes z kind) a (subst (λ z. IsBadDocument bytes l z) b h)

    pub refuted_told : (r : Result A AuditFault) → AnswersAudit runs g j o n bytes r → (line : ℕ) (kind : AuditKind) → r ≡ Err (faults.Refuted line kind) → IsRefuted runs bytes line kind
    refuted_told (Ok a) h line kind e = cc
    refuted_told (Err faults.NoMemory) h line kind e = cc
    refuted_told (Err (faults.Document l k)) h line kind e = cc
    refuted_told (Err (faults.Refuted l k)) h line kind e =
        let a : l ≡ line = cc in
        let b : k ≡ kind = cc in
        subst (λ z. IsRefuted runs bytes z kind) a (subst (λ z. IsRefuted runs bytes l z) b h)

    pub refused_document_told : (r : Result A AuditFault) → AnswersAudit runs g j o n bytes r → (line : ℕ) (kind : Fault) → IsBadDocument bytes line kind
        → (r ≡ Err (faults.Document line kind)) ⊎ (r ≡ Err faults.NoMemory)
    refused_document_told (Ok a) h line kind b = absurd (input_or_bad bytes h.document h.output (g a) line kind h.input b)
    refused_document_told (Err faults.NoMemory) h line kind b = inr refl
    refused_document_told (Err (faults.Refuted l k)) h line kind b = absurd (refuted_or_bad runs bytes l k line kind h b)
    refused_document_told (Err (faults.Document l k)) h line kind b =
        let t = one_bad bytes l line k kind h b in
        inl (λ i. Err (faults.Document (t.0 i) (t.1 i)))

    pub must_told : (r : Result A AuditFault) → AnswersAudit runs g j o n bytes r → (line : ℕ) (kind : AuditKind) → MustBeRefuted runs bytes line kind
        → (r ≡ Err (faults.Refuted line kind)) ⊎ (r ≡ Err faults.NoMemory)
    must_told (Ok a) h line kind m = absurd (audited_or_must bytes (g a) (j a) (o a) (n a) line kind h m)
    must_told (Err faults.NoMemory) h line kind m = inr refl
    must_told (Err (faults.Document l k)) h line kind m = absurd (must_or_bad runs bytes l k line kind h m)
    must_told (Err (faults.Refuted l k)) h line kind m =
        let t = refuted_once bytes l line k kind h m in
        inl (λ i. Err (faults.Refuted (t.0 i) (t.1 i)))
