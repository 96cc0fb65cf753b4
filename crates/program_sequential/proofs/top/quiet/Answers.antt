use Rattle.std.proofs.Common.{◌≡◌, ◌⊎◌, inl, inr, Option, true, sym, subst, ◌∙◌}
use Rattle.base_devices.specs.Cause.{Rose}
use Rattle.base_devices.proofs.Pieces.{told_unread}
use Rattle.program_sequential.specs.declared.status.Status.TheVariants as statuses
use Rattle.program_sequential.specs.declared.words.Wanted.{Wanted}
use Rattle.program_sequential.specs.Answers.{reads, most_read, IsReadOut}
use Rattle.program_sequential.proofs.top.quiet.Goals as goal

pub returns-in-None-clause-told : goal.returns-in-None-clause-told
returns-in-None-clause-told g c = λ given p. told_unread (g.S.Source.given c.args.source.now) (g.S.Source.left c.args.source.now) given p

pub returns-in-Some-clause-read_out : goal.returns-in-Some-clause-read_out
returns-in-Some-clause-read_out g c =
    subst (λ (w : Option Wanted). reads w ≡ true → (Rose (g.S.Source.faults c.args.source.now) (g.S.Source.faults c.answer.new.source) → ⊥)
    → IsReadOut (most_read w) (g.S.Source.given c.args.source.now) (g.S.Source.given c.answer.new.source) (g.S.Source.ended c.answer.new.source)
    ⊎ (c.of_answer.result.status ≡ statuses.NoMemory)) (sym c.in-Some.is ∙ c.read_words.ensures)
    (λ wanted sound. elim (c.answer.ensures.read_out wanted sound) [ inl out ↦ inl out | inr none ↦ inr (c.of_answer.ensures.no_memory none) ])

pub returns-in-Some-clause-sure : goal.returns-in-Some-clause-sure
returns-in-Some-clause-sure g c = λ read memory.
    c.answer.ensures.sure (λ e. read (c.of_answer.ensures.unread e)) (λ e. memory (c.of_answer.ensures.no_memory e))
