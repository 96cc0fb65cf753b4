use Rattle.std.proofs.Common.{◌≡◌, ◌++◌, ◌-◌, ◌∙◌, ap, sym, subst, arith, cond, [], take, drop, get_or, length, ℕ, List}
use Rattle.std.proofs.lemmas.Result.{on_ok_weaker}
use Rattle.match_index.specs.Lines.{AreSorted, ids_with, on_side}
use Rattle.match_index.proofs.Lines.{three, three-parts, rest-of, sorted-keys, side-below, side-equal, side-above}
use Rattle.match_index.proofs.line.Line.meet.Goals as goal

pub returns-clause-ok : goal.returns-clause-ok
returns-clause-ok g c =
    let order = g.K.LineKey.order in
    let keys = c.self.inside.keys.items in
    let ids = c.self.inside.ids.items in
    let s = c.args.sides in
    let x = g.Q.Sought.meant c.args.key in
    let q = λ (k : g.row.K.Denot). on_side s (order k x) in
    let least = c.below-least.result in
    let most = c.upto-most.result in
    let old = c.args.found.now.items in
    let below = rw c.deref.ensures.value at c.below-least.ensures in
    let upto = rw c.deref-2.ensures.value at c.upto-most.ensures in
    let a = cond s.below (take least ids) [] in
    let b = cond s.equal (take (most - least) (drop least ids)) [] in
    let d = cond s.above (take (length ids - most) (drop most ids)) [] in
    let all = three q s.below s.equal s.above x least most keys ids c.self.invariant.0 upto.within.0 upto.within.1
    (λ k l. side-below s (order (get_or keys k x) x) (below.before x k l))
    (λ k l m. side-equal s (order (get_or keys k x) x) (below.behind x k l (omega (arith, m, upto.within.1))) (upto.before x k m))
    (λ k l m. side-above s (order (get_or keys k x) x) (upto.behind x k l m)) in
    let e : a ++ (b ++ d) ≡ ids_with q c.args.self.now = ap {B = List ℕ} (λ (xs : List ℕ). a ++ (b ++ cond s.above xs [])) (rest-of ids most) ∙ sym all ∙ ap {B = List ℕ} (ids_with q) c.self.view_is in
    on_ok_weaker c.append_some-3.result (λ h. three-parts old c.append_some.new.found.items c.append_some-2.new.found.items c.append_some-3.new.found.items a b d (rw c.deref-3.ensures.value at c.in_ok-append_some.ensures.ok) (rw c.deref-4.ensures.value at c.in_ok-append_some-2.ensures.ok) (rw c.deref-5.ensures.value at h) ∙ ap {B = List ℕ} (λ xs. old ++ xs) e) c.append_some-3.ensures.ok

pub below-least-requires : goal.below-least-requires
below-least-requires g c = subst (AreSorted g.K.LineKey.order) (sym c.deref.ensures.value) (sorted-keys g.met.K.LineKey.total c.self.inside.keys.items c.self.inside.ids.items c.self.invariant.0 c.self.invariant.1)

pub upto-most-requires-clause-sorted : goal.upto-most-requires-clause-sorted
upto-most-requires-clause-sorted g c = subst (AreSorted g.K.LineKey.order) (sym c.deref-2.ensures.value) (sorted-keys g.met.K.LineKey.total c.self.inside.keys.items c.self.inside.ids.items c.self.invariant.0 c.self.invariant.1)
