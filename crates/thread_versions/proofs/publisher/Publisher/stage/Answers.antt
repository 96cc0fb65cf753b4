use Rattle.std.proofs.Common.{◌≡◌, ◌∙◌, ◌++◌, ◌∷◌, [], List, true, sym, ap, subst, append_assoc}
use Rattle.match_routes.specs.declared.table_change.TableChange.{TableChange}
use Rattle.thread_versions.specs.Pairs.{all_known}
use Rattle.thread_versions.specs.History.{HistoryParts}
use Rattle.thread_versions.proofs.Applied.{known-append, known-one}
use Rattle.thread_versions.proofs.publisher.Publisher.stage.Goals as goal

pub invariant_of-self-2 : goal.invariant_of-self-2
invariant_of-self-2 c =
    let old = c.args.self.now in
    let change = c.args.change in
    let forwarding = old.writer.desk.shown.value.forwarding in
    let more : c.push_reserved.new.self.items ≡ old.waiting.items ++ change ∷ [] = c.push_reserved.ensures.items ∙ ap (λ (l : List TableChange). l ++ change ∷ []) c.reserve.ensures.items in
    record {
      book = old.book ∙ sym (ap (λ (h : HistoryParts). h.book) c.push.ensures);
      installed = old.installed;
      handed = old.handed;
      pending = ap (λ (h : HistoryParts). h.log) c.push.ensures ∙ ap (λ (l : List TableChange). l ++ change ∷ []) old.pending
          ∙ append_assoc old.shown.seen.log old.waiting.items (change ∷ []) ∙ ap (λ (l : List TableChange). old.shown.seen.log ++ l) (sym more);
      known = subst (λ (l : List TableChange). all_known forwarding l ≡ true) (sym more) (known-append forwarding old.waiting.items (change ∷ []) old.known (known-one forwarding change c.requires));
    }
