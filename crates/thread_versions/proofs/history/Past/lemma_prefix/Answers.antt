use Rattle.std.proofs.Common.{ap, map, List, subst}
use mathlib.Core.List.{IsPrefix}
use Rattle.match_routes.specs.declared.table_change.TableChange.{TableChange}
use Rattle.thread_versions.specs.declared.history.Entry.{Entry}
use Rattle.thread_versions.specs.History.{HistoryParts}
use Rattle.thread_versions.proofs.Fronts.{prefix_shorter, prefix_map}
use Rattle.thread_versions.proofs.history.Past.lemma_prefix.Goals as goal

pub returns : goal.returns
returns c less =
    let change : Entry → TableChange = λ e. e.change in
    let both = c.learn.new.self.log in
    let this : IsPrefix c.self.inside.seen.log both = subst (λ (l : List Entry). IsPrefix l both) (ap (λ s. s.log) c.again-both.ensures) c.learn.ensures.2 in
    let one : IsPrefix c.args.self.now.log (map change both) = subst (λ (h : HistoryParts). IsPrefix h.log (map change both)) c.self.view_is (prefix_map change c.self.inside.seen.log both this) in
    let other : IsPrefix c.args.other.now.log (map change both) = subst (λ (h : HistoryParts). IsPrefix h.log (map change both)) c.other.view_is (prefix_map change c.other.inside.seen.log both c.learn.ensures.3) in
    prefix_shorter c.args.self.now.log c.args.other.now.log (map change both) one other less
