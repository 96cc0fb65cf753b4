use Rattle.std.proofs.Common.{◌≡◌, ◌-◌, false, true, ℕ, List, length, ap, subst, ◌∙◌, arith}
use Rattle.filter_text.specs.Messages.{Lists}
use Rattle.filter_text.specs.declared.command.Command.{Command}
use Rattle.net_inbox.specs.Inbox.{at_numbers}
use Rattle.net_tables.specs.Found.{known_deliveries}
use Rattle.net_model.specs.Sound.{IsSound}
use Rattle.server_spec.specs.Session.{session_parts}
use Rattle.server_stock.proofs.Turns.{get-some}
use Rattle.server_session.specs.Session.{net_session}
use Rattle.server_session.proofs.Starting.{started}
use Rattle.server_session.proofs.session.Session.start.Goals as goal

never : false ≡ true → ⊥
never e = cc

pub invariant_of-result : goal.invariant_of-result
invariant_of-result c =
    let net = c.args.tables.now in
    let x = get-some net.clients (c.args.client - 1) (omega (arith, c.requires.0, c.requires.1)) in
    let sound = subst IsSound c.catalogue.ensures c.lemma_sound.ensures.sound in
    let filters = c.in_ok-new.ensures.width ∙ (c.count.ensures ∙ ap (λ (z : Lists). length z) c.filters.ensures) in
    let adverts = c.in_ok-new-2.ensures.width ∙ (c.count-2.ensures ∙ ap (λ (z : Lists). length z) c.adverts.ensures) in
    let kept = started net sound c.args.client c.requires.0 x.0 x.1 c.steps_at-steps.result.now (c.steps_at-steps.ensures x.0 x.1) c.in_ok-new.field-0 c.in_ok-new-2.field-0
    filters c.in_ok-new.ensures.members adverts c.in_ok-new-2.ensures.members in
    let none = c.new-4.ensures.len in
    (rw (c.script_at-script.ensures x.0 x.1, c.new-4.ensures.items, c.new-3.ensures.items) kept, omega (arith, none), λ e. absurd (never e))

pub returns : goal.returns
returns c x e =
    ap (λ (z : List (ℕ × Command)). net_session c.args.tables.now (session_parts c.args.client c.args.tables.now.semantics z 0 (at_numbers (known_deliveries c.args.tables.now.clients) c.new-4.result.items) 0 false)) (c.script_at-script.ensures x e)
    ∙ ap (λ (z : List ℕ). net_session c.args.tables.now (session_parts c.args.client c.args.tables.now.semantics x.script 0 (at_numbers (known_deliveries c.args.tables.now.clients) z) 0 false)) c.new-4.ensures.items
