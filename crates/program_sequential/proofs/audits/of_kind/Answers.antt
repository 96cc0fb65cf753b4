use Rattle.std.proofs.Common.{Err, List, sym, ap, subst}
use Rattle.net_model.specs.Parts.{EntryParts}
use Rattle.program_sequential.specs.Auditing.{AuditsKind, IsConfirmed}
use Rattle.program_sequential.proofs.Confirmed.{not-confirmed}
use Rattle.program_sequential.proofs.audits.of_kind.Goals as goal

pub returns-in-Err : goal.returns-in-Err
returns-in-Err g c =
    subst (λ z. AuditsKind g.K.NetworkKind.kind c.args.bytes.now (Err z)) (sym c.from.ensures)
    (not-confirmed g.K.NetworkKind.kind c.args.bytes.now c.requires c.in-Err.fault (λ line why e. c.in-Err.ensures.document line why (ap Err e)) (λ line why e. c.in-Err.ensures.refuted line why (ap Err e)))

pub returns-in-Ok-confirmed : goal.returns-in-Ok-confirmed
returns-in-Ok-confirmed g c =
    let a = c.in-Ok.ensures.audited in
    subst (λ (z : List EntryParts). IsConfirmed g.K.NetworkKind.kind c.args.bytes.now c.in-Ok-confirmed.printed.text z) (sym c.in-Ok-confirmed.ensures.journal) (record {
      net = c.in-Ok.audited.net;
      owed = c.in-Ok.audited.owed;
      deliveries = c.in-Ok.audited.deliveries;
      audited = a;
      sound = c.lemma_net_sound.ensures a.document c.in-Ok.audited.net a.input.well_formed;
      notices = c.lemma_notices.ensures;
      printed = c.in-Ok-confirmed.ensures.text;
    })
