use Rattle.std.proofs.Common.{◌++◌, take}
use Rattle.filter_types.specs.Before.{list_before}
use Rattle.net_tables.specs.Known.{adverts_in, script_adverts}
use Rattle.net_tables.specs.Numbering.{AreKept}
use Rattle.net_tables.proofs.Kept.{none_kept, named_next}
use Rattle.net_tables.proofs.named.keep_adverts.Goals as goal

pub loop-command-init : goal.loop-command-init
loop-command-init c = λ named e. none_kept c.args.kept.now.pool c.args.kept.now.keys.items named e

pub loop-command-preserved : goal.loop-command-preserved
loop-command-preserved c = λ named e.
    named_next (λ step. adverts_in step.1) (AreKept list_before c.keep_advert.new.kept.pool c.keep_advert.new.kept.keys.items) c.args.script.now c.loop-command.command-index c.loop-command-item.result named
    c.loop-command-test.true c.loop-command-item.is
    (c.in_ok-keep_advert.ensures (named ++ script_adverts (take c.loop-command.command-index c.args.script.now)) (c.loop-command.invariant named e))
