use Rattle.std.proofs.Common.{map, get_or, slice_get, sym, ap, subst, ◌∙◌, arith}
use Rattle.std.proofs.lemmas.Option.{same_Some}
use Rattle.thread_cell.specs.LaneReceiving.{IsNextAt}
use Rattle.thread_cell.specs.Together.{sight}
use Rattle.thread_cell.proofs.Splits.{front, back, across, front-set, back-set, ok-map, below}
use Rattle.thread_cell.proofs.settling.settle_two.Goals as goal

pub settle-requires : goal.settle-requires
settle-requires g c =
    let s = c.split_at_mut-left in
    let back_len = s.ensures.back_len in
    record {
      lane = c.requires.lane (get_or s.result.0.now c.args.giver c.index-left-giver.result) (get_or s.result.1.now 0 c.index-right-0.result)
          (ap (λ l. slice_get l c.args.giver) s.ensures.value ∙ front s.result.0.now s.result.1.now c.args.giver c.index-left-giver.result (omega arith))
          (ap (λ l. slice_get l c.args.taker) s.ensures.value ∙ back s.result.0.now s.result.1.now c.args.taker c.index-right-0.result s.ensures.front_len (omega arith));
    }

pub returns-then-giver-taker-clause-sights : goal.returns-then-giver-taker-clause-sights
returns-then-giver-taker-clause-sights g c =
    let s = c.split_at_mut-left in
    let back_len = s.ensures.back_len in
    across (λ a. sight (g.T.Settles.cell a)) s.result.0.now s.result.1.now c.args.giver c.index-left-giver.result c.index-right-0.result c.settle.new.self c.settle.new.taker (omega arith) (omega arith) c.settle.ensures.giver c.settle.ensures.taker
    ∙ ap (λ l. map (λ a. sight (g.T.Settles.cell a)) l) (sym s.ensures.value)

pub returns-then-giver-taker-clause-settled : goal.returns-then-giver-taker-clause-settled
returns-then-giver-taker-clause-settled g c =
    let s = c.split_at_mut-left in
    let back_len = s.ensures.back_len in
    ok-map c.settle.result c.settle.ensures.settled (λ a. (
      c.settle.new.self,
      c.settle.new.taker,
      front-set s.result.0.now _ c.args.giver c.settle.new.self (omega arith),
      back-set s.result.0.now s.result.1.now c.args.giver c.args.taker c.settle.new.self c.settle.new.taker s.ensures.front_len (omega arith),
      a,
    ))

pub returns-then-giver-taker-clause-next : goal.returns-then-giver-taker-clause-next
returns-then-giver-taker-clause-next g c b item at is =
    let s = c.split_at_mut-left in
    let back_len = s.ensures.back_len in
    let old = ap (λ l. slice_get l c.args.taker) s.ensures.value ∙ back s.result.0.now s.result.1.now c.args.taker c.index-right-0.result s.ensures.front_len (omega arith) in (
      c.settle.new.taker,
      back-set s.result.0.now s.result.1.now c.args.giver c.args.taker c.settle.new.self c.settle.new.taker s.ensures.front_len (omega arith),
      c.settle.ensures.next item (subst (λ x. IsNextAt c.args.from item (g.T.Settles.cell x).held.links.items) (same_Some _ _ (sym at ∙ old)) is),
    )

pub settle-requires-else-giver-taker : goal.settle-requires-else-giver-taker
settle-requires-else-giver-taker g c =
    let s = c.split_at_mut-left-else-giver-taker in
    let back_len = s.ensures.back_len in
    let front_len = s.ensures.front_len in
    let less = below c.args.taker c.args.giver c.if-giver-taker.false c.requires.apart in
    record {
      lane = c.requires.lane (get_or s.result.1.now 0 c.index-right-0-else-giver-taker.result) (get_or s.result.0.now c.args.taker c.index-left-taker.result)
          (ap (λ l. slice_get l c.args.giver) s.ensures.value ∙ back s.result.0.now s.result.1.now c.args.giver c.index-right-0-else-giver-taker.result s.ensures.front_len (omega arith))
          (ap (λ l. slice_get l c.args.taker) s.ensures.value ∙ front s.result.0.now s.result.1.now c.args.taker c.index-left-taker.result (omega arith));
    }

pub returns-else-giver-taker-clause-sights : goal.returns-else-giver-taker-clause-sights
returns-else-giver-taker-clause-sights g c =
    let s = c.split_at_mut-left-else-giver-taker in
    let t = c.settle-else-giver-taker in
    let back_len = s.ensures.back_len in
    let front_len = s.ensures.front_len in
    let less = below c.args.taker c.args.giver c.if-giver-taker.false c.requires.apart in
    across (λ a. sight (g.T.Settles.cell a)) s.result.0.now s.result.1.now c.args.taker c.index-left-taker.result c.index-right-0-else-giver-taker.result t.new.taker t.new.self (omega arith) (omega arith) t.ensures.taker t.ensures.giver
    ∙ ap (λ l. map (λ a. sight (g.T.Settles.cell a)) l) (sym s.ensures.value)

pub returns-else-giver-taker-clause-settled : goal.returns-else-giver-taker-clause-settled
returns-else-giver-taker-clause-settled g c =
    let s = c.split_at_mut-left-else-giver-taker in
    let t = c.settle-else-giver-taker in
    let back_len = s.ensures.back_len in
    let front_len = s.ensures.front_len in
    let less = below c.args.taker c.args.giver c.if-giver-taker.false c.requires.apart in
    ok-map t.result t.ensures.settled (λ a. (
      t.new.self,
      t.new.taker,
      back-set s.result.0.now s.result.1.now c.args.taker c.args.giver t.new.taker t.new.self s.ensures.front_len (omega arith),
      front-set s.result.0.now _ c.args.taker t.new.taker (omega arith),
      a,
    ))

pub returns-else-giver-taker-clause-next : goal.returns-else-giver-taker-clause-next
returns-else-giver-taker-clause-next g c b item at is =
    let s = c.split_at_mut-left-else-giver-taker in
    let t = c.settle-else-giver-taker in
    let back_len = s.ensures.back_len in
    let front_len = s.ensures.front_len in
    let less = below c.args.taker c.args.giver c.if-giver-taker.false c.requires.apart in
    let old = ap (λ l. slice_get l c.args.taker) s.ensures.value ∙ front s.result.0.now s.result.1.now c.args.taker c.index-left-taker.result (omega arith) in (
      t.new.taker,
      front-set s.result.0.now _ c.args.taker t.new.taker (omega arith),
      t.ensures.next item (subst (λ x. IsNextAt c.args.from item (g.T.Settles.cell x).held.links.items) (same_Some _ _ (sym at ∙ old)) is),
    )
