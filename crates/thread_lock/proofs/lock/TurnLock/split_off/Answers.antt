use Rattle.std.proofs.Common.{rules, ◌≡◌, ◌+◌, All, ◌-◌, sym, ap, subst, ◌∙◌, arith}
use Rattle.std.specs.List.{range_with_len}
use Rattle.std.proofs.lemmas.List.Elements.{All-push}
use Rattle.thread_lock.specs.Rule.{view_in, opener, stays, branch}
use Rattle.thread_lock.specs.Passes.{IsPassOf, IsFresh, pass_number}
use Rattle.thread_lock.proofs.Lists.{numbers_push}
use Rattle.thread_lock.proofs.Keeps.{fork_keeps}
use Rattle.thread_lock.proofs.lock.TurnLock.split_off.Goals as goal

pub split_seat-seat-requires : goal.split_seat-seat-requires
split_seat-seat-requires g c = let lock = c.args.self.now in let key = lock.table.shared.key in let i = c.loop-k.invariant in let first = c.loop-k.first in
    let parts : first.me.0.parts ≡ c.args.passes - c.loop-k._k = ap (λ v. v.parts) i.first.view in (
      i.first.seated,
      search rules,
      fork_keeps g.T.Standing.root g.T.Standing.list (g.T.Standing.root key.value.value) key.passes first.id first.me.0 (ap (λ v. v.hand) i.first.view) (omega (arith, parts, c.loop-k-test.true)) (ap (λ v. v.root) i.first.view),
    )

pub loop-k-preserved : goal.loop-k-preserved
loop-k-preserved g c = let key = c.args.self.now.table.shared.key in let root = g.T.Standing.root key.value.value in let list = g.T.Standing.list key.value.value in
    let i = c.loop-k.invariant in let e = c.split_seat-seat.ensures in let k = c.loop-k._k in let old = c.loop-k.first in let new = c.split_seat-seat.result in
    let is : new.me.0 ≡ branch old.me.0 = ap (λ m. m.0) e.4 in
    let vw : view_in c.into_badge.result.views ≡ branch old.me.0 = ap view_in c.into_badge.ensures.2 ∙ is in
    let number : (view_in c.into_badge.result.views).number ≡ c.loop-k._k = ap (λ v. v.number) vw ∙ ap (λ v. v.number) i.first.view in
    record {
      first = record {
        seated = e.0 ∙ i.first.seated;
        view = ap (λ m. m.0) e.2 ∙ ap stays i.first.view ∙ (let less : c.args.passes - k - 1 ≡ c.args.passes - (k + 1) = omega arith in ap (λ n. record (opener root list c.args.passes) { number = k + 1; parts = n }) less);
        bare = ap (λ m. m.1) e.2 ∙ i.first.bare;
      };
      long = omega (arith, i.long, c.push_reserved.ensures.len);
      room = c.push_reserved.ensures.capacity ∙ i.room;
      numbered = rw c.push_reserved.ensures.items (numbers_push pass_number c.loop-k._k c.loop-k.made.items _ i.numbered number);
      fresh = subst (λ l. All (λ p. IsPassOf g.T.Standing.root c.args.self.now p × IsFresh list p) l) (sym c.push_reserved.ensures.items)
          (All-push (λ p. IsPassOf g.T.Standing.root c.args.self.now p × IsFresh list p) c.loop-k.made.items _ i.fresh
          ((c.into_badge.ensures.0 ∙ e.3 ∙ i.first.seated, ap (λ v. v.root) vw ∙ ap (λ v. v.root) i.first.view), (ap (λ v. v.seen) vw ∙ ap (λ v. v.seen) i.first.view, ap (λ v. v.hand) vw, ap (λ v. v.misses) vw)));
    }

pub returns-clause-numbers : goal.returns-clause-numbers
returns-clause-numbers g c = let i = c.loop-k.invariant in
    let vw : view_in c.into_badge-2.result.views ≡ c.loop-k.first.me.0 = ap view_in c.into_badge-2.ensures.2 in
    let number : (view_in c.into_badge-2.result.views).number ≡ c.loop-k._k = ap (λ v. v.number) vw ∙ ap (λ v. v.number) i.first.view in
    let all : c.loop-k._k + 1 ≡ c.args.passes = omega (arith, c.loop-k-test.false, c.requires.made.2, c.loop-k.auto._k-end) in
    (omega (arith, i.long, c.push_reserved-2.ensures.len, c.loop-k-test.false, c.requires.made.2, c.loop-k.auto._k-end), rw c.push_reserved-2.ensures.items (numbers_push pass_number c.loop-k._k c.loop-k.made.items _ i.numbered number ∙ ap (λ k. range_with_len 0 k) all))

pub returns-clause-passes : goal.returns-clause-passes
returns-clause-passes g c = let key = c.args.self.now.table.shared.key in let root = g.T.Standing.root key.value.value in let list = g.T.Standing.list key.value.value in
    let i = c.loop-k.invariant in let vw : view_in c.into_badge-2.result.views ≡ c.loop-k.first.me.0 = ap view_in c.into_badge-2.ensures.2 in
    subst (λ l. All (λ p. IsPassOf g.T.Standing.root c.args.self.now p × IsFresh list p) l) (sym c.push_reserved-2.ensures.items)
    (All-push (λ p. IsPassOf g.T.Standing.root c.args.self.now p × IsFresh list p) c.loop-k.made.items _ i.fresh
    ((c.into_badge-2.ensures.0 ∙ i.first.seated, ap (λ v. v.root) vw ∙ ap (λ v. v.root) i.first.view), (ap (λ v. v.seen) vw ∙ ap (λ v. v.seen) i.first.view, ap (λ v. v.hand) vw ∙ ap (λ v. v.hand) i.first.view, ap (λ v. v.misses) vw ∙ ap (λ v. v.misses) i.first.view)))
