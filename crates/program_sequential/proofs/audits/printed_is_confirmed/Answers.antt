use Rattle.std.proofs.Common.{◌≡◌, ◌++◌, false, ap, ◌∙◌}
use Rattle.audit_claim.specs.Claim.{with_output}
use Rattle.audit_hierarchy.specs.Runs.{hierarchies}
use Rattle.audit_verdict.specs.Kinds.{peers}
use Rattle.audit_verdict.specs.Verdict.{traced_text}
use Rattle.audit_verdict.proofs.Verdicts.{written_of_run}
use Rattle.program_sequential.specs.Promise.{lists_text}
use Rattle.program_sequential.proofs.audits.printed_is_confirmed.Goals as goal

pub returns-clause-peers : goal.returns-clause-peers
returns-clause-peers c = λ schedule input text journal h ends few.
    let same : text ≡ traced_text peers h.net journal = h.clients.printed ∙ (λ i. lists_text h.net (h.network.run.gives i) false ++ h.network.run.traced i) in (
      few,
      (
        h.net,
        journal,
        written_of_run peers (with_output input text) h.net journal
            (record { document = input; well_formed = h.well_formed; ends = ends; legal = h.network.run.legal; drained = h.network.run.drained; text = ap (with_output input) same }),
      ),
    )

pub returns-clause-hierarchies : goal.returns-clause-hierarchies
returns-clause-hierarchies c = λ input text journal h ends few.
    let same : text ≡ traced_text hierarchies h.net journal = h.clients.printed ∙ (λ i. lists_text h.net (h.network.gives i) false ++ h.network.traced i) in (
      few,
      (
        h.net,
        journal,
        written_of_run hierarchies (with_output input text) h.net journal
            (record { document = input; well_formed = h.well_formed; ends = ends; legal = h.network.run.legal; drained = h.network.run.drained; text = ap (with_output input) same }),
      ),
    )
