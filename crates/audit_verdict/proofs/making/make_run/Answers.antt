use Rattle.std.proofs.Common.{◌≡◌, ℕ, List, [], Ok, Vec, Global, refl, sym, ap, subst, ◌∙◌}
use Rattle.net_model.specs.declared.entry.Entry.{Entry}
use Rattle.net_model.specs.Parts.{EntryParts}
use Rattle.net_turns.specs.Network.{NetworkParts}
use Rattle.audit_claim.specs.Difference.{difference}
use Rattle.audit_verdict.specs.Answers.{TellsDrained}
use Rattle.audit_verdict.specs.Verdict.{IsOutputOf, MakesRun, delivered_in, traced_text}
use Rattle.audit_verdict.proofs.MadeRuns.{total-is}
use Rattle.audit_verdict.proofs.Verdicts.{concludes_drained, tells_err, tells_ok}
use Rattle.audit_verdict.proofs.making.make_run.Goals as goal

pub returns-in_ok-left-in-Ok-concluded : goal.returns-in_ok-left-in-Ok-concluded
returns-in_ok-left-in-Ok-concluded g c =
    let net = c.args.tables.now in
    let output = c.args.output.now in
    let journal : List EntryParts = c.in-Ok.made.0.journal in
    let own : c.in-Ok.made.0.net ≡ c.args.tables.now = c.in-Ok.ensures.made.0 in
    let kind = g.K.NetworkKind.kind in
    let legal : g.K.NetworkKind.kind.IsLegal c.args.tables.now c.in-Ok.made.0.journal =
    c.requires.laws.legal c.args.tables.now c.in-Ok.made.0.journal (subst (λ z. g.P.Ruled.trying.IsLegal z c.in-Ok.made.0.journal) own c.journal.ensures.legal) in
    let told : TellsDrained g.K.NetworkKind.kind c.in_ok-drained.drained c.args.tables.now c.in-Ok.made.0.journal = subst (λ z. TellsDrained g.K.NetworkKind.kind c.in_ok-drained.drained z c.in-Ok.made.0.journal) own c.in_ok-drained.ensures.drained in
    let says = c.concluded.ensures (traced_text g.K.NetworkKind.kind c.args.tables.now c.in-Ok.made.0.journal) c.in-Ok.ensures.compared in
    let t = tells_ok g.K.NetworkKind.kind {A = ℕ} (λ (z : ℕ). []) (λ (z : ℕ). z) c.args.tables.now c.args.first c.args.end c.args.output.now c.args.turns.now c.in-Ok.made.0.journal c.in-Ok.ensures.made.1 legal
    c.in_ok-drained.drained told c.concluded.result c.in-Ok-concluded.field-0 c.in-Ok-concluded.is (difference c.args.output.now (traced_text g.K.NetworkKind.kind c.args.tables.now c.in-Ok.made.0.journal)) refl says in
    let stays : c.is_drained.new.network ≡ c.in-Ok.made.0 =
    c.in_ok-drained.ensures.same (concludes_drained c.args.first c.args.end c.args.output.now c.in_ok-drained.drained c.concluded.result c.in-Ok-concluded.field-0 c.in-Ok-concluded.is (difference c.args.output.now (traced_text g.K.NetworkKind.kind c.args.tables.now c.in-Ok.made.0.journal)) says) in
    let e : c.in_ok-left-in-Ok-concluded.field-0.0.items ≡ c.in-Ok.made.0.journal = c.in_ok-left-in-Ok-concluded.ensures.journal ∙ ap (λ (z : NetworkParts). z.journal) stays in (
      subst (λ (z : List EntryParts). MakesRun g.K.NetworkKind.kind c.args.tables.now c.args.first c.args.end c.args.output.now c.args.turns.now (Ok z)) (sym e) t.0,
      subst (λ (z : List EntryParts). IsOutputOf g.K.NetworkKind.kind c.args.tables.now z c.args.output.now) (sym e) t.1,
      c.in_ok-left-in-Ok-concluded.ensures.deliveries
          ∙ total-is g.K.NetworkKind.kind g.P.Ruled.trying g.P.Ruled.walking g.P.Ruled.telling g.P.Ruled.ruling c.requires.laws c.is_drained.new.network.net c.is_drained.new.network.journal
          ∙ (ap (λ (z : NetworkParts). delivered_in g.K.NetworkKind.kind z.net z.journal) stays
          ∙ (ap (λ z. delivered_in g.K.NetworkKind.kind z c.in-Ok.made.0.journal) own ∙ ap (delivered_in g.K.NetworkKind.kind c.args.tables.now) (sym e))),
    )

pub returns-in-Err-concluded : goal.returns-in-Err-concluded
returns-in-Err-concluded g c =
    let own : c.in-Ok.made.0.net ≡ c.args.tables.now = c.in-Ok.ensures.made.0 in
    let kind = g.K.NetworkKind.kind in
    let legal : g.K.NetworkKind.kind.IsLegal c.args.tables.now c.in-Ok.made.0.journal =
    c.requires.laws.legal c.args.tables.now c.in-Ok.made.0.journal (subst (λ z. g.P.Ruled.trying.IsLegal z c.in-Ok.made.0.journal) own c.journal.ensures.legal) in
    let told : TellsDrained g.K.NetworkKind.kind c.in_ok-drained.drained c.args.tables.now c.in-Ok.made.0.journal = subst (λ z. TellsDrained g.K.NetworkKind.kind c.in_ok-drained.drained z c.in-Ok.made.0.journal) own c.in_ok-drained.ensures.drained in
    tells_err g.K.NetworkKind.kind (λ (p : Vec Entry Global × ℕ). p.0.items) (λ (p : Vec Entry Global × ℕ). p.1) c.args.tables.now c.args.first c.args.end c.args.output.now c.args.turns.now c.in-Ok.made.0.journal c.in-Ok.ensures.made.1 legal
    c.in_ok-drained.drained told c.in-Err-concluded.fault (difference c.args.output.now (traced_text g.K.NetworkKind.kind c.args.tables.now c.in-Ok.made.0.journal)) refl
    (c.in-Err-concluded.ensures (traced_text g.K.NetworkKind.kind c.args.tables.now c.in-Ok.made.0.journal) c.in-Ok.ensures.compared)
