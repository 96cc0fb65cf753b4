use Rattle.std.proofs.Common.{◌++◌, sym, ap, ◌∙◌}
use Rattle.thread_versions.specs.Ends.{installed}
use Rattle.thread_cell.proofs.HandOver.{known-later}
use Rattle.thread_cell.proofs.Shown.{same-on}
use Rattle.thread_cell.proofs.Rehung.{on-err}
use Rattle.thread_cell.proofs.rehanging.republish.Goals as goal

pub hand_over-requires-clause-known : goal.hand_over-requires-clause-known
hand_over-requires-clause-known g c change h = known-later c.args.publisher.now c.withdraw_all.new.publisher change c.withdraw_all.ensures.same.0 (c.requires.known change h)

pub returns-in_err-withdraw_all-clause-same : goal.returns-in_err-withdraw_all-clause-same
returns-in_err-withdraw_all-clause-same g c = c.withdraw_all.ensures.same.0

pub returns-in_err-withdraw_all-clause-installed : goal.returns-in_err-withdraw_all-clause-installed
returns-in_err-withdraw_all-clause-installed g c = on-err _ c.withdraw_all.ensures.same.1

pub returns-in_err-withdraw_all-clause-handed : goal.returns-in_err-withdraw_all-clause-handed
returns-in_err-withdraw_all-clause-handed g c = on-err _ c.withdraw_all.ensures.handed

pub returns-in_err-hand_over-clause-same : goal.returns-in_err-hand_over-clause-same
returns-in_err-hand_over-clause-same g c = same-on c.args.publisher.now c.withdraw_all.new.publisher c.hand_over.new.publisher c.withdraw_all.ensures.same.0 c.hand_over.ensures.same.0

pub returns-in_err-hand_over-clause-installed : goal.returns-in_err-hand_over-clause-installed
returns-in_err-hand_over-clause-installed g c = on-err _ (c.hand_over.ensures.same.1 ∙ c.withdraw_all.ensures.same.1)

pub returns-in_err-hand_over-clause-handed : goal.returns-in_err-hand_over-clause-handed
returns-in_err-hand_over-clause-handed g c = on-err _ c.hand_over.ensures.handed

pub returns-in_err-publish-clause-same : goal.returns-in_err-publish-clause-same
returns-in_err-publish-clause-same g c = same-on c.args.publisher.now c.hand_over.new.publisher c.publish.new.self (same-on c.args.publisher.now c.withdraw_all.new.publisher c.hand_over.new.publisher c.withdraw_all.ensures.same.0 c.hand_over.ensures.same.0) c.publish.ensures.same

pub returns-in_err-publish-clause-installed : goal.returns-in_err-publish-clause-installed
returns-in_err-publish-clause-installed g c = on-err _ (c.in_err-publish.ensures.installed ∙ c.hand_over.ensures.same.1 ∙ c.withdraw_all.ensures.same.1)

pub returns-in_err-publish-clause-handed : goal.returns-in_err-publish-clause-handed
returns-in_err-publish-clause-handed g c = on-err _ (c.publish.ensures.pending ∙ c.hand_over.ensures.handed ∙ ap (λ l. l ++ c.hand_over.new.handed.items) (sym c.in_err-publish.ensures.installed))

pub returns-clause-same : goal.returns-clause-same
returns-clause-same g c = same-on c.args.publisher.now c.hand_over.new.publisher c.publish.new.self (same-on c.args.publisher.now c.withdraw_all.new.publisher c.hand_over.new.publisher c.withdraw_all.ensures.same.0 c.hand_over.ensures.same.0) c.publish.ensures.same

pub returns-clause-calm : goal.returns-clause-calm
returns-clause-calm g c = (c.publish.ensures.pending ∙ sym c.in_ok-publish.ensures.installed, c.clear.ensures.items)

pub returns-clause-all : goal.returns-clause-all
returns-clause-all g c =
    let w = c.in_ok-withdraw_all.ensures.all in (
      w.0,
      c.in_ok-publish.ensures.installed ∙ c.hand_over.ensures.handed ∙ ap (λ l. l ++ c.hand_over.new.handed.items) (c.hand_over.ensures.same.1 ∙ c.withdraw_all.ensures.same.1)
          ∙ ap (λ l. installed c.args.publisher.now ++ l) (c.in_ok-hand_over.ensures.all ∙ ap (λ l. l ++ c.args.changes.now) w.1),
      w.2,
    )
