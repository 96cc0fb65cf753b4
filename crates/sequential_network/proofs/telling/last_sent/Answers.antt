use Rattle.std.proofs.Common.{◌≡◌, ◌-◌, length, sym, ap, subst, ◌∙◌}
use Rattle.filter_text.specs.MessageText.{message_text}
use Rattle.server_spec.specs.Control.{wired}
use Rattle.server_message.specs.Message.{IsLoad, represented}
use Rattle.net_model.specs.Parts.{NetParts}
use Rattle.sequential_network.specs.Links.{StampedMessageParts, messages_at}
use Rattle.sequential_network.proofs.Last.{last-is, none-last}
use Rattle.sequential_network.proofs.telling.last_sent.Goals as goal
use Rattle.base.proofs.Sets.{get-has}

pub text_of-requires : goal.text_of-requires
text_of-requires c =
    let on = messages_at c.args.links.now c.args.from c.args.to in
    let of-net : c.waiting.inside.message.net ≡ c.args.tables.now = ap (λ (w : StampedMessageParts). w.sent.net) c.waiting.view_is ∙ c.requires.run c.in-Some.waiting.now (get-has on (length on - 1) c.in-Some.waiting.now c.in-Some.ensures.some) in
    subst (λ (n : NetParts). IsLoad n c.load.result.now) of-net c.load.ensures.load

pub returns-in_ok-bytes-in-Some : goal.returns-in_ok-bytes-in-Some
returns-in_ok-bytes-in-Some c = λ before last is.
    let on = messages_at c.args.links.now c.args.from c.args.to in
    let of-net : c.waiting.inside.message.net ≡ c.args.tables.now = ap (λ (w : StampedMessageParts). w.sent.net) c.waiting.view_is ∙ c.requires.run c.in-Some.waiting.now (get-has on (length on - 1) c.in-Some.waiting.now c.in-Some.ensures.some) in
    let is-last : c.in-Some.waiting.now ≡ last = last-is on c.in-Some.waiting.now c.in-Some.ensures.some before last is in
    let represents : represented c.args.tables.now c.load.result.now ≡ last.sent.message =
    ap (λ (n : NetParts). represented n c.load.result.now) (sym of-net) ∙ sym c.load.ensures.represents ∙ ap (λ (w : StampedMessageParts). w.sent.message) c.waiting.view_is ∙ ap (λ (w : StampedMessageParts). w.sent.message) is-last in
    λ i. record { to = c.args.to; bytes = (c.in_ok-bytes-in-Some.ensures ∙ ap (λ m. message_text (wired m)) represents) i }

pub returns-in-None : goal.returns-in-None
returns-in-None c = λ before last is. absurd (none-last before last (sym c.in-None.ensures.none ∙ is))
