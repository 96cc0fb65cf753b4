use Rattle.std.proofs.Common.{◌≡◌, Err, refl, sym, ap, subst}
use Rattle.program_sequential.specs.declared.unanswered.Unanswered.TheVariants as whys
use Rattle.program_sequential.specs.Answering.{IsAnswer}
use Rattle.program_sequential.proofs.Answering.{document-answer, never-unread, only-long, unread-document}
use Rattle.program_threaded.specs.Wishes.{query_of, with_threads}
use Rattle.program_threaded.proofs.top.run.Goals as goal

pub returns-in-Err-clause-answers : goal.returns-in-Err-clause-answers
returns-in-Err-clause-answers g c =
    subst (λ z. IsAnswer (with_threads c.args.shown) (g.S.Source.given c.args.source.now) (g.S.Source.given c.document.new.source) (g.S.Source.ended c.document.new.source) (Err z)) (sym c.from.ensures)
    (unread-document (query_of c.args.shown) _ _ _ c.in-Err.fault (λ e. c.in-Err.ensures.long (ap Err e)) (λ e. c.in-Err.ensures.failed_within (ap Err e)) (λ e. (let h = c.in-Err.ensures.ended.1 e in absurd cc)))

pub returns-in-Ok-clause-answers : goal.returns-in-Ok-clause-answers
returns-in-Ok-clause-answers g c =
    subst (λ z. IsAnswer (with_threads c.args.shown) (g.S.Source.given c.args.source.now) (g.S.Source.given c.document.new.source) (g.S.Source.ended c.document.new.source) z) (sym c.widened.ensures)
    (document-answer (query_of c.args.shown) _ _ c.deref.result.now _ c.of_document.result (rw c.deref.ensures.value c.in-Ok.ensures.all) (c.in-Ok.ensures.ended.0 refl)
    c.of_document.ensures.printed c.of_document.ensures.bad c.of_document.ensures.refused c.of_document.ensures.done)

pub returns-in-Ok-clause-failed : goal.returns-in-Ok-clause-failed
returns-in-Ok-clause-failed g c = λ e. absurd (never-unread c.of_document.result (subst (λ z. z ≡ Err whys.ReadFault) c.widened.ensures e))

pub returns-in-Err-clause-sure : goal.returns-in-Err-clause-sure
returns-in-Err-clause-sure g c = λ read memory.
    only-long c.in-Err.fault c.from.result _ c.from.ensures (λ e. c.in-Err.ensures.sure_long (ap Err e)) (λ e. read (ap Err e)) (λ e. memory (ap Err e))
