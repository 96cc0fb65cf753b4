use Rattle.std.proofs.Common.{◌≡◌, ◌⊎◌, inl, inr, Option, true, sym, subst}
use Rattle.base_devices.specs.Cause.{Rose}
use Rattle.program_sequential.specs.declared.status.Status.TheVariants as statuses
use Rattle.program_sequential.specs.declared.words.Wanted.{Wanted}
use Rattle.program_sequential.specs.Answers.{reads, most_read, IsReadOut}
use Rattle.program_sequential.specs.Outcomes.{IsOutcome}
use Rattle.program_threaded.specs.Wishes.{with_threads}
use Rattle.program_threaded.proofs.top.siena.Goals as goal

pub returns-in-Some-clause-outcome : goal.returns-in-Some-clause-outcome
returns-in-Some-clause-outcome g c =
    subst (λ (w : Option Wanted). IsOutcome w (g.S.Source.given c.args.source.now) (g.S.Source.given c.run.new.source) (g.S.Source.ended c.run.new.source) (g.K.Sink.state c.args.sink.now).taken (g.K.Sink.state c.of_answer.new.sink).taken c.of_answer.result.status c.of_answer.result.journal.entries)
    (sym (c.threads_by.ensures.some c.in-Some.shown c.in-Some.is))
    (c.of_answer.ensures.outcome (with_threads c.in-Some.shown) _ _ _ c.run.ensures.answers)

pub returns-in-Some-clause-read_out : goal.returns-in-Some-clause-read_out
returns-in-Some-clause-read_out g c =
    subst (λ (w : Option Wanted). reads w ≡ true → (Rose (g.S.Source.faults c.args.source.now) (g.S.Source.faults c.run.new.source) → ⊥)
    → IsReadOut (most_read w) (g.S.Source.given c.args.source.now) (g.S.Source.given c.run.new.source) (g.S.Source.ended c.run.new.source)
    ⊎ (c.of_answer.result.status ≡ statuses.NoMemory)) (sym (c.threads_by.ensures.some c.in-Some.shown c.in-Some.is))
    (λ wanted sound. elim (c.run.ensures.read_out sound) [ inl out ↦ inl out | inr none ↦ inr (c.of_answer.ensures.no_memory none) ])

pub returns-in-Some-clause-sure : goal.returns-in-Some-clause-sure
returns-in-Some-clause-sure g c = λ read memory.
    c.run.ensures.sure (λ e. read (c.of_answer.ensures.unread e)) (λ e. memory (c.of_answer.ensures.no_memory e))
