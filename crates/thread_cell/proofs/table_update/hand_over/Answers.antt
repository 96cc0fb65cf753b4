use Rattle.std.proofs.Common.{◌≡◌, ◌+◌, ◌<◌, ℕ, List, [], ◌∷◌, ◌++◌, take, length, get_or, sym, ap, ◌∙◌, append_assoc, add-one}
use Rattle.std.proofs.lemmas.Option.{slice_get-get_or}
use Rattle.match_routes.specs.declared.table_change.TableChange.{TableChange}
use Rattle.match_routes.specs.declared.table_change.TableChange.TheVariants.{Put}
use Rattle.server_spec.proofs.Taken.{take-all}
use Rattle.thread_cell.proofs.HandOver.{known-later}
use Rattle.thread_cell.proofs.Shown.{same-on}
use Rattle.thread_cell.proofs.table_update.hand_over.Goals as goal
use Rattle.base.proofs.Lists.{take-suc-some}
use Rattle.base.proofs.Sets.{get_or-has}

-- one change more
more-handed : (first handed later changes : List TableChange) (k : ℕ) (d : TableChange) → k < length changes → handed ≡ first ++ take k changes → later ≡ handed ++ get_or changes k d ∷ [] → later ≡ first ++ take (k + 1) changes
more-handed first handed later changes k d lt before now =
    let next : take (k + 1) changes ≡ take k changes ++ get_or changes k d ∷ [] = rw add-one (take-suc-some changes k (get_or changes k d) (slice_get-get_or changes k d lt)) in
    now ∙ ap (λ l. l ++ get_or changes k d ∷ []) before ∙ append_assoc first (take k changes) (get_or changes k d ∷ []) ∙ ap (λ l. first ++ l) (sym next)

pub hand-requires-clause-known : goal.hand-requires-clause-known
hand-requires-clause-known c =
    known-later c.args.publisher.now c.loop-change.publisher (get_or c.args.changes.now c.loop-change.change-index (Put 0 0)) c.loop-change.invariant.same
    (c.requires.known (get_or c.args.changes.now c.loop-change.change-index (Put 0 0)) (get_or-has c.args.changes.now c.loop-change.change-index (Put 0 0) c.loop-change-test.true))

pub loop-change-preserved : goal.loop-change-preserved
loop-change-preserved c = record {
  same = same-on c.args.publisher.now c.loop-change.publisher c.hand.new.publisher c.loop-change.invariant.same c.hand.ensures.same.0;
  shown = c.hand.ensures.same.1 ∙ c.loop-change.invariant.shown;
  kept = c.hand.ensures.handed;
  more = more-handed c.args.handed.now.items c.loop-change.handed.items c.hand.new.handed.items c.args.changes.now c.loop-change.change-index (Put 0 0) c.loop-change-test.true c.loop-change.invariant.more c.in_ok-hand.ensures.more;
}

pub returns-in_err-hand-clause-same : goal.returns-in_err-hand-clause-same
returns-in_err-hand-clause-same c = (same-on c.args.publisher.now c.loop-change.publisher c.hand.new.publisher c.loop-change.invariant.same c.hand.ensures.same.0, c.hand.ensures.same.1 ∙ c.loop-change.invariant.shown)

pub returns-clause-all : goal.returns-clause-all
returns-clause-all c = c.loop-change.invariant.more ∙ ap (λ l. c.args.handed.now.items ++ l) (take-all c.args.changes.now c.loop-change.change-index c.loop-change-test.false)
