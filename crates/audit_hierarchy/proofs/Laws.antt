-- The kind of hierarchies: its network makes its runs, and each output has one verdict.
use Rattle.std.proofs.Common.{refl}
use Rattle.hierarchy_network.specs.Ruling.{hierarchy_ruling}
use Rattle.hierarchy_turns.proofs.Scheduled.{hierarchy_telling, hierarchy_trying, hierarchy_walking}
use Rattle.audit_verdict.specs.Laws.{MakesRuns, VerdictLaws}
use Rattle.audit_verdict.proofs.Complete.{run-verdict}
use Rattle.audit_hierarchy.specs.Runs.{hierarchies}
use Rattle.audit_hierarchy.proofs.SameOutputs.{same-output}
use Rattle.audit_hierarchy.proofs.Shown.{shown-of-hierarchies}
use Rattle.audit_hierarchy.proofs.Turns.{not-both, one-entry, told-length, told-more, walked-open}

pub hierarchies-make : MakesRuns hierarchies hierarchy_trying hierarchy_walking hierarchy_telling hierarchy_ruling
hierarchies-make = record {
  legal = λ net journal h. h;
  made = λ turn old new x. (x.entry, x.later, x.permitted);
  barred = λ turn old new x. x.1;
  not_drained = walked-open;
  drained = λ old new w. w;
  received = λ net journal client. refl;
  refused = λ net journal client. refl;
  told_is = λ net journal. refl;
  told_length = λ net journal. told-length net journal 0 journal;
  told_more = told-more;
}

pub hierarchies-verdict : VerdictLaws hierarchies
hierarchies-verdict = record {
  one_entry = one-entry;
  not_both = not-both;
  confirmed = run-verdict hierarchies shown-of-hierarchies;
  same_output = same-output;
}
