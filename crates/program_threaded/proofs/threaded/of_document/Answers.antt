use Rattle.std.proofs.Common.{◌≡◌, inl, inr, ℕ, List, Err, arith}
use Rattle.std.proofs.lemmas.Grind.{common_steps}
use Rattle.net_model.specs.Parts.{NetParts}
use Rattle.document_reader.specs.declared.fault.Fault.{Fault}
use Rattle.document_reader.specs.Net.{IsNetOf, IsBadAt}
use Rattle.program_sequential.specs.declared.words.Shown.{Shown}
use Rattle.program_sequential.specs.Faults.{MustBeRefused}
use Rattle.program_sequential.specs.declared.words.Schedule.TheVariants.{Threads}
use Rattle.program_sequential.proofs.Headlines.{headline}
use Rattle.program_sequential.proofs.Ended.{no-refusal, without-net, done-without-net}
use Rattle.program_threaded.specs.Wishes.{query_of}
use Rattle.program_threaded.proofs.threaded.of_document.Goals as goal

never : (input : List ℕ) (net : NetParts) (shown : Shown) (line : ℕ) (kind : Fault) → IsNetOf input net → (IsBadAt input line kind → ⊥) → MustBeRefused (query_of shown) input line kind → ⊥
never input net shown line kind of good (inl b) = good b
never input net shown line kind of good (inr m) = m.1.1 net of

pub returns-in_err-net-clause-bad : goal.returns-in_err-net-clause-bad
returns-in_err-net-clause-bad g c = λ line kind e. inl (c.in_err-net.ensures.bad line kind (grind (arith, common_steps, e, c.from_residual.ensures.1)))

pub returns-in_err-net-clause-refused : goal.returns-in_err-net-clause-refused
returns-in_err-net-clause-refused g c = λ line kind m.
    let s : c.from_residual.result ≡ Err c.in_err-net.field-0.0 = grind (arith, common_steps, c.from_residual.ensures.1) in
    without-net c.args.bytes.now c.in_err-net.field-0.0 c.from_residual.result s c.in_err-net.ensures.given c.in_err-net.ensures.refused
    (query_of c.args.options) line kind m

pub returns-in_err-net-clause-done : goal.returns-in_err-net-clause-done
returns-in_err-net-clause-done g c = λ d.
    let s : c.from_residual.result ≡ Err c.in_err-net.field-0.0 = grind (arith, common_steps, c.from_residual.ensures.1) in
    done-without-net c.args.bytes.now c.in_err-net.field-0.0 c.from_residual.result s c.in_err-net.ensures.given (query_of c.args.options) d

pub returns-in-Ok-clause-printed : goal.returns-in-Ok-clause-printed
returns-in-Ok-clause-printed g c =
    let s = c.in-Ok.ensures in
    let net = c.in_ok-net.net in
    let journal = c.in-Ok.printed.journal in
    headline Threads c.args.options c.args.bytes.now c.in-Ok.printed.text net journal c.in_ok-net.ensures.net c.in_ok-net.ensures.sound c.in_ok-net.ensures.notices s
    (c.lemma_promise.ensures.clients c.args.options c.args.bytes.now net journal c.in_ok-net.ensures.net)
    (λ whole. c.lemma_promise.ensures.network Threads c.args.options net journal whole s.goes_by)

pub returns-in-Ok-clause-refused : goal.returns-in-Ok-clause-refused
returns-in-Ok-clause-refused g c = λ line kind m.
    absurd (never c.args.bytes.now c.in_ok-net.net c.args.options line kind c.in_ok-net.ensures.net (λ b. no-refusal c.in_ok-net.net line kind (c.in_ok-net.ensures.refused line kind b)) m)
