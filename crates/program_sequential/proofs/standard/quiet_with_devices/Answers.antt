use Rattle.std.proofs.Common.{◌≡◌, ◌≤◌, Bool, true, false, ◌++◌, length, refl, sym, ap, ◌∙◌, subst, arith}
use Rattle.base_devices.specs.Asked.{AnswersParts}
use Rattle.program_sequential.specs.Words.{wanted_by}
use Rattle.program_sequential.specs.Answers.{reads, most_read}
use Rattle.program_sequential.proofs.standard.quiet_with_devices.Goals as goal

pub returns-clause-at_most : goal.returns-clause-at_most
returns-clause-at_most g c = go (reads (wanted_by c.args.words.now)) refl
  where
    go : (b : Bool) → reads (wanted_by c.args.words.now) ≡ b → length c.quiet-outcome.new.source.input.answers.bytes ≤ most_read (wanted_by c.args.words.now)
    go true e =
        let t = c.quiet-outcome.ensures.at_most e in
        subst (λ z. length z ≤ most_read (wanted_by c.args.words.now)) (sym (t.1 ∙ ap (λ (a : AnswersParts). a.bytes ++ t.0) c.make-source.ensures.answers)) t.2
    go false e = rw (c.quiet-outcome.ensures.unread e, c.make-source.ensures.answers) (omega arith)
