use Rattle.std.proofs.Common.{sym, ap, ◌∙◌}
use Rattle.filter_text.specs.declared.message_text.MessageText.{MessageText}
use Rattle.filter_text.specs.Messages.{message_of}
use Rattle.filter_text.proofs.Options.{gives_none}
use Rattle.filter_text.proofs.MessageLaws.{message_outside}
use Rattle.filter_text.proofs.wire.read_message.Goals as goal

pub returns-clause-outside : goal.returns-clause-outside
returns-clause-outside c e m is =
    let g = gives_none (λ (x : MessageText). x) c.message.result (message_of c.new.result.rest.now) c.message.ensures e in
    message_outside c.args.bytes.now (ap message_of (sym c.new.ensures) ∙ g) m is
