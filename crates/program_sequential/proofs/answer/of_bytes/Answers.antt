use Rattle.std.proofs.Common.{◌≡◌, ◌++◌, true, Err, refl, sym, subst}
use Rattle.program_sequential.specs.declared.words.Wanted.{Wanted}
use Rattle.program_sequential.specs.declared.words.Wanted.TheVariants.{About, Document, Generate}
use Rattle.program_sequential.specs.declared.unanswered.Unanswered.TheVariants as whys
use Rattle.program_sequential.specs.Answering.{IsAnswer}
use Rattle.program_sequential.proofs.Answering.{audited-read, claim-answer, document-answer, never-unread, pattern-answer, question-answer, searched-read}
use Rattle.program_sequential.proofs.Confirmed.{audit-answer}
use Rattle.program_sequential.proofs.Explained.{explained-read, explained-source}
use Rattle.program_sequential.proofs.Searched.{source-answer}
use Rattle.program_sequential.proofs.answer.of_bytes.Goals as goal

pub returns-in-Document-clause-read : goal.returns-in-Document-clause-read
returns-in-Document-clause-read c = λ reads given.
    let now = given ++ c.args.bytes.now in
    subst (λ (w : Wanted). IsAnswer w given now true c.widened.result) (sym c.in-Document.is)
    (subst (λ z. IsAnswer (Document c.in-Document.query) given now true z) (sym c.widened.ensures)
    (document-answer c.in-Document.query given now c.args.bytes.now true c.of_document.result refl refl c.of_document.ensures.printed c.of_document.ensures.bad c.of_document.ensures.refused c.of_document.ensures.done))

pub returns-in-Document-clause-at_hand : goal.returns-in-Document-clause-at_hand
returns-in-Document-clause-at_hand c = λ e. never-unread c.of_document.result (subst (λ z. z ≡ Err whys.ReadFault) c.widened.ensures e)

pub returns-in-Generate-clause-unread : goal.returns-in-Generate-clause-unread
returns-in-Generate-clause-unread c = λ reads given ended.
    subst (λ (w : Wanted). IsAnswer w given given ended c.unasked.result) (sym c.in-Generate.is)
    (c.unasked.ensures.answers (Generate c.in-Generate.seed c.in-Generate.summary) given ended refl c.of_seed.ensures)

pub returns-in-Patterns-clause-read : goal.returns-in-Patterns-clause-read
returns-in-Patterns-clause-read c = λ reads given.
    let now = given ++ c.args.bytes.now in
    subst (λ (w : Wanted). IsAnswer w given now true c.of_patterns.result) (sym c.in-Patterns.is)
    (pattern-answer given now true c.of_patterns.result (source-answer given now true c.args.bytes.now c.of_patterns.result refl refl c.of_patterns.ensures))

pub returns-in-Patterns-clause-at_hand : goal.returns-in-Patterns-clause-at_hand
returns-in-Patterns-clause-at_hand c = λ e. searched-read c.args.bytes.now c.of_patterns.result c.of_patterns.ensures e

pub returns-in-Audit-clause-read : goal.returns-in-Audit-clause-read
returns-in-Audit-clause-read c = λ reads given.
    let now = given ++ c.args.bytes.now in
    subst (λ (w : Wanted). IsAnswer w given now true c.of_audit.result) (sym c.in-Audit.is)
    (claim-answer c.in-Audit.hierarchy given now true c.of_audit.result (audit-answer c.in-Audit.hierarchy given now true c.args.bytes.now c.of_audit.result refl refl c.of_audit.ensures))

pub returns-in-Audit-clause-at_hand : goal.returns-in-Audit-clause-at_hand
returns-in-Audit-clause-at_hand c = λ e. audited-read c.in-Audit.hierarchy c.args.bytes.now c.of_audit.result c.of_audit.ensures e

pub returns-in-About-clause-unread : goal.returns-in-About-clause-unread
returns-in-About-clause-unread c = λ reads given ended.
    subst (λ (w : Wanted). IsAnswer w given given ended c.unasked-in-About.result) (sym c.in-About.is)
    (c.unasked-in-About.ensures.answers (About c.in-About.page) given ended refl c.of_page.ensures)

pub returns-in-Explain-clause-read : goal.returns-in-Explain-clause-read
returns-in-Explain-clause-read c = λ reads given.
    let now = given ++ c.args.bytes.now in
    let q = c.in-Explain.subject in
    subst (λ (w : Wanted). IsAnswer w given now true c.of_subject.result) (sym c.in-Explain.is)
    (question-answer q given now true c.of_subject.result
    (explained-source q given now true c.args.bytes.now c.of_subject.result refl refl c.of_subject.ensures))

pub returns-in-Explain-clause-at_hand : goal.returns-in-Explain-clause-at_hand
returns-in-Explain-clause-at_hand c = λ e. explained-read c.in-Explain.subject c.args.bytes.now c.of_subject.result c.of_subject.ensures e
