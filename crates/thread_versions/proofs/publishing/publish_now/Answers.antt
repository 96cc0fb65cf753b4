use Rattle.std.proofs.Common.{◌≡◌, drop, subst, Result, Ok, MatchResult}
use Rattle.thread_versions.proofs.Chains.{shows_fold, shown_after}
use Rattle.thread_versions.proofs.publishing.publish_now.Goals as goal

pub publish_as-requires : goal.publish_as-requires
publish_as-requires g c next is =
    let now = c.args.writer.desk.shown.value in
    shows_fold _ _ now next (drop c.args.writer.behind c.args.writer.log.items) c.requires.folded c.requires.may is

-- what holds of a call that succeeds
of-ok : {X Y : Type 0} (r : Result X Y) (x : X) (P : X → Type 0) (Q : Y → Type 0) → r ≡ Ok x → MatchResult r P Q → P x
of-ok r x P Q e h = subst (λ (q : Result _ _). MatchResult q P Q) e h

pub returns-clause-shown : goal.returns-clause-shown
returns-clause-shown g c =
    let now = c.args.writer.desk.shown.value in
    let next = c.publish_as.result.0.desk.shown.value in
    let ops = drop c.args.writer.behind c.args.writer.log.items in
    shown_after now next ops c.requires.folded c.requires.may (of-ok c.publish_as.result.1 c.in_default-Ok.field-0-1 _ _ c.in_default-Ok.is-1 c.publish_as.ensures.values).0
