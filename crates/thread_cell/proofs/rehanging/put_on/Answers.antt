use Rattle.std.proofs.Common.{◌≡◌, ◌++◌, [], refl, sym, ap, subst, ◌∙◌}
use Rattle.base.specs.Sets.{Has}
use Rattle.thread_versions.specs.Ends.{installed, forwarding_of}
use Rattle.net_model.specs.Parts.{NetParts}
use Rattle.net_tables.specs.Known.{known_filters}
use Rattle.server_control.specs.Held.{held_in}
use Rattle.thread_cell.specs.Lanes.{neighbours_in}
use Rattle.thread_cell.specs.Relinking.{AreTaken}
use Rattle.thread_cell.proofs.HandOver.{pending-known, known-later}
use Rattle.thread_cell.proofs.Turnover.{small-links}
use Rattle.thread_cell.proofs.Shown.{same-one, same-on, wide-later}
use Rattle.thread_cell.proofs.Rehung.{still-held, put-held, stays, on-err, suits-wide}
use Rattle.thread_cell.proofs.rehanging.put_on.Goals as goal

pub returns-in_err-relinked-clause-still : goal.returns-in_err-relinked-clause-still
returns-in_err-relinked-clause-still g c = on-err _ (stays c.args.held.now _ refl refl (same-one _) refl)

pub mend-requires-clause-handed : goal.mend-requires-clause-handed
mend-requires-clause-handed g c = c.requires.held.handed

pub mend-requires-clause-wide : goal.mend-requires-clause-wide
mend-requires-clause-wide g c = c.requires.held.shown.wide

pub returns-in_err-mend-clause-held : goal.returns-in_err-mend-clause-held
returns-in_err-mend-clause-held g c = still-held c.args.held.now _ c.requires.held refl refl c.mend.ensures.same.0 c.mend.ensures.same.1 c.mend.ensures.handed

pub returns-in_err-mend-clause-still : goal.returns-in_err-mend-clause-still
returns-in_err-mend-clause-still g c = on-err _ (stays c.args.held.now _ refl refl c.mend.ensures.same.0 c.mend.ensures.same.1)

pub republish-requires-clause-wide : goal.republish-requires-clause-wide
republish-requires-clause-wide g c = wide-later c.args.held.now.publisher c.mend.new.publisher c.args.held.now.core c.mend.ensures.same.0 c.requires.held.shown.wide

pub republish-requires-clause-small : goal.republish-requires-clause-small
republish-requires-clause-small g c link h =
    small-links c.args.held.now.core c.requires.stands link (subst (Has link) (ap neighbours_in c.deref.ensures.value ∙ c.requires.held.neighbours) h)

pub republish-requires-clause-known : goal.republish-requires-clause-known
republish-requires-clause-known g c change h =
    let reaches = suits-wide c.args.held.now.core (forwarding_of c.args.held.now.publisher) c.in_ok-relinked.relinked c.interfaces-whole.ensures.whole c.in_ok-relinked.ensures.suits c.requires.held.shown.wide in
    known-later c.args.held.now.publisher c.mend.new.publisher change c.mend.ensures.same.0
    (pending-known c.args.held.now.core (forwarding_of c.args.held.now.publisher) _ _ _ _ c.in_ok-relinked.relinked.pending c.requires.held.shown.wide (ap (λ (n : NetParts). known_filters n.clients) c.in_ok-relinked.ensures.suits.net) reaches c.pending.ensures.pending change (subst (Has change) c.pending.ensures.changes h))

pub returns-in_err-republish-clause-held : goal.returns-in_err-republish-clause-held
returns-in_err-republish-clause-held g c =
    still-held c.args.held.now _ c.requires.held refl refl (same-on c.args.held.now.publisher c.mend.new.publisher _ c.mend.ensures.same.0 c.republish.ensures.same) (c.in_err-republish.ensures.installed ∙ c.mend.ensures.same.1) c.in_err-republish.ensures.handed

pub returns-in_err-republish-clause-still : goal.returns-in_err-republish-clause-still
returns-in_err-republish-clause-still g c =
    on-err _ (stays c.args.held.now _ refl refl (same-on c.args.held.now.publisher c.mend.new.publisher _ c.mend.ensures.same.0 c.republish.ensures.same) (c.in_err-republish.ensures.installed ∙ c.mend.ensures.same.1))

pub returns-clause-held : goal.returns-clause-held
returns-clause-held g c =
    let w = c.in_ok-republish.ensures.all in
    let taken = subst (λ l. AreTaken (known_filters c.args.held.now.core.net.clients) c.args.held.now.core.control (neighbours_in l) w.0) c.deref.ensures.value w.2 in
    let reaches = suits-wide c.args.held.now.core (forwarding_of c.args.held.now.publisher) c.in_ok-relinked.relinked c.interfaces-whole.ensures.whole c.in_ok-relinked.ensures.suits c.requires.held.shown.wide in
    put-held c.args.held.now _ (held_in c.args.given.now) c.in_ok-relinked.relinked c.mend.new.handed.items w.0 c.requires.held c.requires.stands c.requires.calm c.requires.names c.requires.new
    c.pending-calm.ensures.pending c.in_ok-mend.ensures.mended c.in_ok-relinked.ensures.linked c.in_ok-relinked.ensures.suits c.relink-before.ensures.core taken c.pending.ensures.pending c.in_ok-relinked.ensures.installed c.lemma_sound.ensures.known reaches
    (same-on c.args.held.now.publisher c.mend.new.publisher _ c.mend.ensures.same.0 c.republish.ensures.same)
    (w.1 ∙ ap (λ l. l ++ ((c.mend.new.handed.items ++ w.0) ++ c.pending.result.now)) c.mend.ensures.same.1 ∙ ap (λ l. installed c.args.held.now.publisher ++ ((c.mend.new.handed.items ++ w.0) ++ l)) c.pending.ensures.changes)
    c.in_ok-republish.ensures.calm.0 c.in_ok-republish.ensures.calm.1

pub returns-clause-put : goal.returns-clause-put
returns-clause-put g c =
    record { ledger = c.in_ok-relinked.relinked; linked = c.in_ok-relinked.ensures.linked; suits = c.in_ok-relinked.ensures.suits; core = c.relink-before.ensures.core; links = refl; publisher = same-on c.args.held.now.publisher c.mend.new.publisher _ c.mend.ensures.same.0 c.republish.ensures.same }
