use Rattle.std.proofs.Common.{length, sym, ap, subst, ◌∙◌}
use Rattle.net_model.specs.Parts.{NetParts}
use Rattle.net_tables.specs.Known.{known_filters}
use Rattle.thread_cell.specs.Kept.{AreReachable}
use Rattle.thread_cell.proofs.Reached.{wide-of}
use Rattle.thread_cell.proofs.starting.publisher_for.Goals as goal
use Rattle.base.proofs.Results.{if-ok}

pub versions-requires-clause-rising : goal.versions-requires-clause-rising
versions-requires-clause-rising g c = rw c.deref.ensures.value c.in_ok-interfaces.ensures.rising

pub versions-requires-clause-few : goal.versions-requires-clause-few
versions-requires-clause-few g c = rw c.deref.ensures.value c.in_ok-interfaces.ensures.few

pub returns-clause-wide : goal.returns-clause-wide
returns-clause-wide g c =
    if-ok (λ r e. wide-of c.args.core.now _ _ _ e (c.width_of.ensures ∙ ap (λ (n : NetParts). length (known_filters n.clients)) c.tables.ensures)
    (subst (AreReachable c.args.core.now.interfaces) (sym c.deref.ensures.value) c.in_ok-interfaces.ensures)) c.versions.result c.versions.ensures.forwarding
