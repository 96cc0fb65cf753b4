use Rattle.std.proofs.Common.{◌≡◌, List, [], ◌++◌, ap, sym, subst, ◌∙◌, refl, drop}
use Rattle.std.proofs.lemmas.List.{append-nil}
use Rattle.match_routes.specs.Installed.{Installed}
use Rattle.thread_versions.specs.Pairs.{pairs_after, all_known}
use Rattle.thread_versions.specs.Chain.{IsFolded, MayShow, last_seen}
use Rattle.thread_versions.specs.History.{HistoryParts}
use Rattle.thread_versions.specs.declared.version.Version.{Version}
use Rattle.thread_versions.specs.declared.version.Step.{Step}
use Rattle.thread_versions.proofs.Pairs.{none_after}
use Rattle.thread_versions.proofs.Applied.{of-parts}
use Rattle.thread_versions.proofs.Chains.{starts}
use Rattle.thread_versions.proofs.making.versions.Goals as goal

-- a version of no pairs after no changes is folded
empty : (x : Version) (p : Installed) (s : HistoryParts) → x.forwarding ≡ p → p.pairs ≡ [] → x.front.seen ≡ s → s.log ≡ [] → IsFolded x
empty x p s a b c d = ap (λ (q : Installed). q.pairs) a ∙ b ∙ sym none_after ∙ ap pairs_after (sym d) ∙ ap (λ (t : HistoryParts). pairs_after t.log) (sym c)

pub new-requires-clause-rule : goal.new-requires-clause-rule
new-requires-clause-rule g c =
    let first = c.in_ok-first.ensures in
    let none = ap (λ (h : HistoryParts). h.log) c.past.ensures ∙ c.new-history.ensures in
    starts c.in_ok-first.first (empty c.in_ok-first.first _ _ first.forwarding refl first.front none)

pub publish_now-writer-requires : goal.publish_now-writer-requires
publish_now-writer-requires g c =
    let e = c.in_ok-writer.ensures in
    let first = c.in_ok-first.ensures in
    let now = c.in_ok-writer.writer.desk.shown.value in
    let none = ap (λ (h : HistoryParts). h.log) c.past.ensures ∙ c.new-history.ensures in
    let folded : IsFolded c.in_ok-first.first = empty c.in_ok-first.first _ _ first.forwarding refl first.front none in
    record {
      folded = subst (λ (x : Version). IsFolded x) (sym e.0) folded;
      may = subst (λ (ops : List Step). MayShow now ops) (sym e.1) (record { log = sym (append-nil now.front.seen.log); book = refl; known = refl });
    }

pub invariant_of-publisher : goal.invariant_of-publisher
invariant_of-publisher g c =
    let first = c.in_ok-first.ensures in
    let e = c.in_ok-writer.ensures in
    let now = c.in_ok-writer.writer.desk.shown.value in
    let v = c.publish_now-writer.ensures in
    let past = c.past.ensures in
    let seen = ap (λ s. s.value.front.seen) c.seats.ensures.shown ∙ v.shown.seen ∙ ap (λ l. last_seen now.front.seen l) e.1 ∙ ap (λ x. x.front.seen) e.0 ∙ first.front in
    let waiting = c.new-in-Ok.ensures.items in
    record {
      book = ap (λ (h : HistoryParts). h.book) past;
      installed = (seen, subst (λ s. IsFolded s.value) (sym c.seats.ensures.shown) v.shown.folded);
      handed = ap (λ l. drop c.seats.new.writer.behind l.items) c.seats.ensures.log.0 ∙ ap (λ b. drop b c.publish_now-writer.result.log.items) c.seats.ensures.log.1 ∙ v.left;
      pending = ap (λ (h : HistoryParts). h.log) (sym past) ∙ sym (append-nil c.past.result.log) ∙ ap (λ zs. c.past.result.log ++ zs) (sym waiting);
      known = ap (λ l. all_known c.seats.new.writer.desk.shown.value.forwarding l) waiting;
    }

pub returns-in-Ok-clause-forwarding : goal.returns-in-Ok-clause-forwarding
returns-in-Ok-clause-forwarding g c =
    let first = c.in_ok-first.ensures in
    let e = c.in_ok-writer.ensures in
    let now = c.in_ok-writer.writer.desk.shown.value in
    let v = c.publish_now-writer.ensures.shown in
    let shown = c.seats.ensures.shown in
    let none = ap (λ (h : HistoryParts). h.log) c.past.ensures ∙ c.new-history.ensures in
    let seen = v.seen ∙ ap (λ l. last_seen now.front.seen l) e.1 ∙ ap (λ x. x.front.seen) e.0 ∙ first.front in
    of-parts (record { width = c.args.width; interfaces = c.args.interfaces.now; pairs = [] }) c.seats.new.writer.desk.shown.value.forwarding []
    (record {
      width = ap (λ s. s.value.forwarding.width) shown ∙ v.server.width ∙ ap (λ x. x.forwarding.width) e.0 ∙ ap (λ (p : Installed). p.width) first.forwarding;
      interfaces = ap (λ s. s.value.forwarding.interfaces) shown ∙ v.server.interfaces ∙ ap (λ x. x.forwarding.interfaces) e.0 ∙ ap (λ (p : Installed). p.interfaces) first.forwarding;
    })
    (ap (λ s. s.value.forwarding.pairs) shown ∙ v.folded ∙ ap (λ (t : HistoryParts). pairs_after t.log) seen ∙ ap pairs_after none ∙ none_after)

pub returns-in-Ok-clause-viewers : goal.returns-in-Ok-clause-viewers
returns-in-Ok-clause-viewers g c k d l =
    let v = c.in-Ok.ensures.viewers.1 k d l in
    let past = c.past.ensures in
    let none = ap (λ (h : HistoryParts). h.log) past ∙ c.new-history.ensures in
    (record { book = ap (λ s. s.book) v.0 ∙ ap (λ (h : HistoryParts). h.book) past; width = v.1 ∙ c.publish_now-writer.ensures.book.width ∙ sym (ap (λ s. s.value.forwarding.width) c.seats.ensures.shown) }, ap (λ s. s.log) v.0 ∙ none)
