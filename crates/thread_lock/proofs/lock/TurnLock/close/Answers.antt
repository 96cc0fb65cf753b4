use Rattle.std.proofs.Common.{rules, ◌≡◌, ◌+◌, false, [], ◌∷◌, ◌++◌, All, vec_len, length, Some, sym, ap, subst, ◌∙◌, arith}
use Rattle.std.specs.Option.{option_to_list, unwrap_or}
use Rattle.std.proofs.lemmas.List.Elements.{All-push, All-pop}
use mathlib.Core.List.{IsPrefix}
use Rattle.thread_lock.specs.Rule.{view_in, EachBegins}
use Rattle.thread_lock.specs.Passes.{IsPassOf, has_in_hand, seen_by}
use Rattle.thread_lock.proofs.Lists.{each_left, each_right}
use Rattle.thread_lock.proofs.Keeps.{join_keeps, closes}
use Rattle.thread_lock.proofs.lock.TurnLock.close.Goals as goal

pub loop-pass-init : goal.loop-pass-init
loop-pass-init g c = let key = c.args.self.table.shared.key in let z = c.args.self.table.shared.table_id in let r = g.T.Standing.root key.value.value in
    let items : c.args.passes.items ≡ c.pop.new.self.items ++ c.unwrap-badge.result ∷ [] = c.pop.ensures.items ∙ ap (λ o. c.pop.new.self.items ++ option_to_list o) c.unwrap-badge.ensures in
    let own = All-pop (λ p. IsPassOf g.T.Standing.root c.args.self p × (has_in_hand p ≡ false)) c.args.passes.items c.pop.new.self.items (Some c.unwrap-badge.result) items c.requires.own in
    let len : vec_len c.pop.new.self + 1 ≡ vec_len c.args.passes = ap (λ o. vec_len c.pop.new.self + length (option_to_list o)) (sym c.unwrap-badge.ensures) ∙ c.pop.ensures.len in
    let all = c.into_seat-all.result in let ie = c.into_seat-all.ensures in let vw : view_in c.unwrap-badge.result.badge.views ≡ all.me.0 = ap view_in ie.2 in
    let one : all.me.0.parts ≡ 1 = ap (λ v. v.parts) (sym vw) ∙ c.unwrap-badge.result.whole in
    record {
      table = ie.0 ∙ own.1.0.0;
      bare = ie.3;
      free = ap (λ v. v.hand) (sym vw) ∙ own.1.1;
      root = ap (λ v. v.root) (sym vw) ∙ own.1.0.1;
      parts = omega (arith, one, len, c.requires.count);
      own = own.0;
      known = λ xs s j others. subst (λ l. All (λ p. IsPrefix (seen_by p) xs) l) (sym items) (All-push (λ p. IsPrefix (seen_by p) xs) c.pop.new.self.items c.unwrap-badge.result others (subst (λ v. IsPrefix v.seen xs) (sym vw) s));
    }

pub join_seat-requires : goal.join_seat-requires
join_seat-requires g c = let key = c.args.self.table.shared.key in let z = c.args.self.table.shared.table_id in let r = g.T.Standing.root key.value.value in
    let i = c.loop-pass.invariant in let that = c.into_seat-seat.result in let te = c.into_seat-seat.ensures in
    let vw : view_in c.in-Some.pass.badge.views ≡ that.me.0 = ap view_in te.2 in
    let own = All-pop (λ p. IsPassOf g.T.Standing.root c.args.self p × (has_in_hand p ≡ false)) c.loop-pass.passes.items c.pop-in-loop-pass.new.self.items (Some c.in-Some.pass) c.in-Some.ensures.items i.own in (
      i.table,
      te.0 ∙ own.1.0.0,
      te.3,
      search rules,
      join_keeps g.T.Standing.root g.T.Standing.list r key.passes c.loop-pass.all.id that.id c.loop-pass.all.me.0 that.me.0 i.free (ap (λ v. v.hand) (sym vw) ∙ own.1.1) i.root,
    )

pub loop-pass-preserved : goal.loop-pass-preserved
loop-pass-preserved g c = let key = c.args.self.table.shared.key in let z = c.args.self.table.shared.table_id in let r = g.T.Standing.root key.value.value in
    let i = c.loop-pass.invariant in let that = c.into_seat-seat.result in let te = c.into_seat-seat.ensures in
    let vw : view_in c.in-Some.pass.badge.views ≡ that.me.0 = ap view_in te.2 in
    let own = All-pop (λ p. IsPassOf g.T.Standing.root c.args.self p × (has_in_hand p ≡ false)) c.loop-pass.passes.items c.pop-in-loop-pass.new.self.items (Some c.in-Some.pass) c.in-Some.ensures.items i.own in
    let e = c.join_seat.ensures.2 in let one : that.me.0.parts ≡ 1 = ap (λ v. v.parts) (sym vw) ∙ c.in-Some.pass.whole in
    let parts : c.join_seat.new.seat.me.0.parts ≡ c.loop-pass.all.me.0.parts + that.me.0.parts = ap (λ m. m.0.parts) e in
    record {
      table = c.join_seat.ensures.0 ∙ i.table;
      bare = ap (λ m. m.1) e ∙ i.bare;
      free = ap (λ m. m.0.hand) e ∙ i.free;
      root = ap (λ m. m.0.root) e ∙ i.root;
      parts = omega (arith, parts, one, c.in-Some.ensures.cases, i.parts);
      own = own.0;
      known = λ xs s j others.
          let j' : EachBegins xs (c.loop-pass.all.me.0.joined ++ (that.me.0.seen ∷ that.me.0.joined)) = subst (λ l. EachBegins xs l) (ap (λ m. m.0.joined) e) j in
          i.known xs (subst (λ l. IsPrefix l xs) (ap (λ m. m.0.seen) e) s)
          (each_left xs c.loop-pass.all.me.0.joined (that.me.0.seen ∷ that.me.0.joined) j')
          (subst (λ l. All (λ p. IsPrefix (seen_by p) xs) l) (sym c.in-Some.ensures.items)
          (All-push (λ p. IsPrefix (seen_by p) xs) c.pop-in-loop-pass.new.self.items c.in-Some.pass others
          (subst (λ v. IsPrefix v.seen xs) (sym vw) (each_right xs c.loop-pass.all.me.0.joined (that.me.0.seen ∷ that.me.0.joined) j').0)));
    }

pub unreachable-requires : goal.unreachable-requires
unreachable-requires g c = let key = c.args.self.table.shared.key in let i = c.loop-pass.invariant in let all = c.loop-pass.all in
    let whole : all.me.0.parts ≡ key.passes = omega (arith, i.parts, c.in_default.ensures.cases.0) in
    let t = closes g.T.Standing.root g.T.Standing.list (g.T.Standing.root key.value.value) key.passes all.id all.me.0 i.free whole _ _ c.take-slot.result c.take-slot.ensures.value c.close_with-closed.ensures.values.2 in
    c.in_default-slot.not-Some t.value t.is

pub returns-clause-root : goal.returns-clause-root
returns-clause-root g c = let key = c.args.self.table.shared.key in let i = c.loop-pass.invariant in let all = c.loop-pass.all in
    let whole : all.me.0.parts ≡ key.passes = omega (arith, i.parts, c.in_default.ensures.cases.0) in
    let t = closes g.T.Standing.root g.T.Standing.list (g.T.Standing.root key.value.value) key.passes all.id all.me.0 i.free whole _ _ c.take-slot.result c.take-slot.ensures.value c.close_with-closed.ensures.values.2 in
    ap g.T.Standing.root (ap (λ o. unwrap_or o c.in-Some-slot.value) (sym c.in-Some-slot.is ∙ t.is)) ∙ t.has_root

pub returns-clause-list : goal.returns-clause-list
returns-clause-list g c = let key = c.args.self.table.shared.key in let i = c.loop-pass.invariant in let all = c.loop-pass.all in
    let whole : all.me.0.parts ≡ key.passes = omega (arith, i.parts, c.in_default.ensures.cases.0) in
    let t = closes g.T.Standing.root g.T.Standing.list (g.T.Standing.root key.value.value) key.passes all.id all.me.0 i.free whole _ _ c.take-slot.result c.take-slot.ensures.value c.close_with-closed.ensures.values.2 in
    let e = ap (λ o. unwrap_or o c.in-Some-slot.value) (sym c.in-Some-slot.is ∙ t.is) in
    let xs = g.T.Standing.list c.in-Some-slot.value in
    i.known xs (subst (λ y. IsPrefix all.me.0.seen (g.T.Standing.list y)) (sym e) t.saw) (subst (λ y. EachBegins (g.T.Standing.list y) all.me.0.joined) (sym e) t.joined_saw)
    (λ k d h. absurd (omega (arith, h, c.loop-pass.passes.ok.0, c.in_default.ensures.cases.0)))
