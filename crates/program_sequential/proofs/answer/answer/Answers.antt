use Rattle.std.proofs.Common.{◌≡◌, true, false, Err, sym, ap, subst}
use Rattle.base_devices.proofs.Pieces.{told_unread}
use Rattle.program_sequential.specs.Answering.{IsAnswer}
use Rattle.program_sequential.specs.Answers.{reads_document}
use Rattle.program_sequential.proofs.Answering.{only-long, unread-wanted}
use Rattle.program_sequential.proofs.answer.answer.Goals as goal

pub returns-then-not-reads_document-clause-answers : goal.returns-then-not-reads_document-clause-answers
returns-then-not-reads_document-clause-answers g c =
    let no : reads_document c.args.wanted ≡ false = (let t = c.if-not-reads_document.true in let e = c.reads_document.ensures in cc) in
    c.of_bytes.ensures.unread no _ _

pub returns-then-not-reads_document-clause-told : goal.returns-then-not-reads_document-clause-told
returns-then-not-reads_document-clause-told g c = λ given p. told_unread (g.S.Source.given c.args.source.now) (g.S.Source.left c.args.source.now) given p

pub returns-in-Err-clause-answers : goal.returns-in-Err-clause-answers
returns-in-Err-clause-answers g c =
    let reads : reads_document c.args.wanted ≡ true = (let t = c.if-not-reads_document.false in let e = c.reads_document.ensures in cc) in
    subst (λ z. IsAnswer c.args.wanted (g.S.Source.given c.args.source.now) (g.S.Source.given c.read_all.new.source) (g.S.Source.ended c.read_all.new.source) (Err z)) (sym c.from.ensures)
    (unread-wanted c.args.wanted _ _ _ c.most_bytes.result c.in-Err.fault reads c.most_bytes.ensures
    (λ e. c.in-Err.ensures.too_long.0 (ap Err e)) (λ e. c.in-Err.ensures.failed_within (ap Err e)) (λ e. (let h = c.in-Err.ensures.ended.1 e in absurd cc)))

pub returns-in-Err-clause-sure : goal.returns-in-Err-clause-sure
returns-in-Err-clause-sure g c = λ read memory.
    only-long c.in-Err.fault c.from.result _ c.from.ensures (λ e. c.in-Err.ensures.kept_at_the_limit (ap Err e)) (λ e. read (ap Err e)) (λ e. memory (ap Err e))
