use Rattle.std.proofs.Common.{◌++◌, sym, ap, subst, ◌∙◌}
use Rattle.base.specs.Sets.{Has}
use Rattle.match_routes.specs.declared.table_change.TableChange.{TableChange}
use Rattle.thread_versions.specs.Ends.{forwarding_of}
use Rattle.thread_cell.specs.Versions.{IsTouched, AreTouched, AreNumbered, AreMended}
use Rattle.thread_cell.proofs.HandOver.{handed-known, handed-numbered, touched-known, mended}
use Rattle.thread_cell.proofs.Splits.{ok-map}
use Rattle.thread_cell.proofs.table_update.mend.Goals as goal

pub mends-requires : goal.mends-requires
mends-requires c = record { numbered = subst (AreNumbered c.args.core.now) (sym c.deref.ensures.value) (handed-numbered c.args.publisher.now c.args.core.now c.args.handed.now.items c.requires.handed c.requires.wide) }

pub hand_over-requires-clause-known : goal.hand_over-requires-clause-known
hand_over-requires-clause-known c change h =
    touched-known (forwarding_of c.args.publisher.now) c.args.handed.now.items change (handed-known c.args.publisher.now c.args.handed.now.items c.requires.handed)
    (subst (λ l. IsTouched l change) c.deref.ensures.value (c.in_ok-changes.ensures.same change (subst (Has change) c.deref-2.ensures.value h)))

pub returns-clause-mended : goal.returns-clause-mended
returns-clause-mended c =
    ok-map c.hand_over.result c.hand_over.ensures.all (λ e. subst (AreMended c.args.core.now) (sym (e ∙ ap (λ l. c.args.handed.now.items ++ l) c.deref-2.ensures.value))
    (mended c.args.core.now c.args.handed.now.items c.in_ok-changes.changes.items (subst (AreTouched c.in_ok-changes.changes.items) c.deref.ensures.value c.in_ok-changes.ensures.touched) c.in_ok-changes.ensures.held))
