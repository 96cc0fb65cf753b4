use Rattle.std.proofs.Common.{◌≡◌, ◌++◌, List, ◌∷◌, [], map, sym, ap, subst, ◌∙◌, append-nil}
use Rattle.law_routing.specs.Server.{Message}
use Rattle.net_model.specs.Real.{real}
use Rattle.server_stock.proofs.Turns.{get-some}
use Rattle.server_message.specs.Parts.{MessageParts, onto, sending_parts}
use Rattle.server_core.specs.Due.{IsCarried}
use Rattle.server_core.proofs.due.put_announced.Goals as goal

pub returns-in_default : goal.returns-in_default
returns-in_default g c t ms e announces =
    let none : ms ≡ [] = subst (IsCarried c.args.tables.now ms) c.in_default.is (c.load.ensures c.args.tables.now c.args.stock.now.items t ms announces (c.in_ok-change.ensures t e)) in
    sym (ap (λ (z : List (Message real)). c.args.sent.now.items ++ map (onto c.args.tables.now c.args.to) z) none ∙ append-nil c.args.sent.now.items)

pub of-message-requires : goal.of-message-requires
of-message-requires g c =
    let t = get-some c.args.stock.now.announced c.args.place c.requires.place in
    let announced = c.requires.announced t.0 t.1 in
    (subst (IsCarried c.args.tables.now announced.0) c.in-Some.is (c.load.ensures c.args.tables.now c.args.stock.now.items t.0 announced.0 announced.1 (c.in_ok-change.ensures t.0 t.1))).0

pub returns : goal.returns
returns g c t ms e announces =
    let some = subst (IsCarried c.args.tables.now ms) c.in-Some.is (c.load.ensures c.args.tables.now c.args.stock.now.items t ms announces (c.in_ok-change.ensures t e)) in
    c.in_ok-push.ensures.items
    ∙ (ap (λ (m : MessageParts). c.args.sent.now.items ++ sending_parts c.args.to m ∷ []) c.of-message.ensures
    ∙ ap (λ (z : List (Message real)). c.args.sent.now.items ++ map (onto c.args.tables.now c.args.to) z) (sym some.1))
