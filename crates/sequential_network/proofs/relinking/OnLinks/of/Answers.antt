use Rattle.std.proofs.Common.{◌≡◌, length, sym, ap, subst, ◌∙◌}
use Rattle.server_spec.specs.Holdings.{held_from}
use Rattle.server_spec.specs.Control.{subs}
use Rattle.net_model.specs.Real.{real}
use Rattle.net_tables.specs.Known.{known_filters}
use Rattle.match_routes.specs.Installed.{AreKnown, all_changed}
use Rattle.net_model.specs.Parts.{NetParts}
use Rattle.sequential_network.proofs.Placed.{forwarding-none, pending_known, forwarding_turned}
use Rattle.sequential_network.proofs.relinking.OnLinks.of.Goals as goal

pub apply-requires : goal.apply-requires
apply-requires c =
    let r = c.args.relinked in
    let f = c.in_ok-forwarding.forwarding in
    let none = forwarding-none r.net r.interfaces (λ i. held_from real.before i r.installed) f
    (c.in_ok-forwarding.ensures.width ∙ ap (λ (n : NetParts). length (known_filters n.clients)) c.tables.ensures) (c.in_ok-forwarding.ensures.interfaces ∙ c.interfaces.ensures.interfaces) c.in_ok-forwarding.ensures.pairs
    (λ i. ap (held_from real.before i) c.requires) in
    subst (AreKnown f) (sym c.pending.ensures.changes)
    (pending_known r.net r.interfaces (λ i. held_from real.before i r.installed) (subs r.control) r.pending f none c.pending.ensures.pending)

pub invariant_of-result : goal.invariant_of-result
invariant_of-result c =
    let r = c.args.relinked in
    let f = c.in_ok-forwarding.forwarding in
    let none = forwarding-none r.net r.interfaces (λ i. held_from real.before i r.installed) f
    (c.in_ok-forwarding.ensures.width ∙ ap (λ (n : NetParts). length (known_filters n.clients)) c.tables.ensures) (c.in_ok-forwarding.ensures.interfaces ∙ c.interfaces.ensures.interfaces) c.in_ok-forwarding.ensures.pairs
    (λ i. ap (held_from real.before i) c.requires) in
    forwarding_turned r.net r.interfaces (λ i. held_from real.before i r.installed) (subs r.control) r.pending f none c.pending.ensures.pending c.apply.new.self c.apply.ensures.same
    (subst (λ z. c.apply.new.self.pairs ≡ all_changed z f.pairs) c.pending.ensures.changes c.apply.ensures.pairs) c.lemma_sound.ensures.known
