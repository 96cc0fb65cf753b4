use Rattle.std.proofs.Common.{◌≡◌, ap, ◌∙◌, arith}
use Rattle.audit_verdict.specs.Verdict.{owed_of}
use Rattle.audit_verdict.proofs.Runs.{sum_next}
use Rattle.audit_verdict.proofs.counts.owed_in.Goals as goal

pub loop-list-preserved : goal.loop-list-preserved
loop-list-preserved c =
    let one : c.owed_of.result ≡ owed_of c.list-item.result = c.owed_of.ensures.value ∙ ap owed_of c.as_slice.ensures in
    record {
      sum = omega (arith, one, c.from-owed.ensures, c.loop-list.invariant.sum, sum_next owed_of c.args.lists.now c.loop-list.list-index c.list-item.result c.loop-list-test.true c.list-item.is);
      most = search (arith, c.from-owed.ensures, c.loop-list.invariant.most);
    }
