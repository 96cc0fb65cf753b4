use Rattle.std.proofs.Common.{◌≡◌, ◌∙◌, ◌<◌, ◌∷◌, sym, arith, ap, subst, ℕ, List, length, get_or}
use Rattle.std.specs.Prelude.{Vec}
use Rattle.std.specs.declared.alloc.Global.{Global}
use Rattle.std.proofs.lemmas.Result.{on_ok_weaker}
use Rattle.match_index.specs.Pairs.{tally, Same}
use Rattle.match_texts.specs.declared.group.Group.{Group}
use Rattle.match_texts.specs.Groups.{group_pairs, groups_pairs}
use Rattle.match_texts.proofs.Grouping.{marks-set, ids-more, group-more}
use Rattle.match_texts.proofs.marked.Marked.put.Goals as goal

pub invariant_of-self : goal.invariant_of-self
invariant_of-self c =
    let groups = c.self.inside.groups.items in
    let old = c.index_mut.result.now in
    let key : c.add.new.self.key.items ≡ (get_or groups c.in-Some.i old).key.items = ap {B = List ℕ} (λ (k : Vec ℕ Global). k.items) c.add.ensures.key ∙ ap {B = List ℕ} (λ (g : Group). g.key.items) c.index_mut.ensures.value in
    c.self.invariant ∙ sym (marks-set groups c.in-Some.i c.add.new.self old key)

pub returns-in-Some : goal.returns-in-Some
returns-in-Some c =
    let groups = c.self.inside.groups.items in
    let i = c.in-Some.i in
    let old = c.index_mut.result.now in
    let l : i < length groups = rw c.deref.ensures.value at c.in-Some.ensures.0 in
    let k : old.key.items ≡ c.args.key.now = ap {B = List ℕ} (λ (g : Group). g.key.items) c.index_mut.ensures.value ∙ (rw c.deref.ensures.value at (c.in-Some.ensures.1 old)) in
    let x : List ℕ × ℕ = (c.args.key.now, c.args.id) in
    on_ok_weaker c.add.result (λ h p. omega (arith, ids-more groups i old c.add.new.self x l c.index_mut.ensures.value (subst (λ (u : List ℕ). Same (group_pairs c.add.new.self) ((u, c.args.id) ∷ group_pairs old)) k h) p, ap (tally p) c.self.view_is)) c.add.ensures.added

pub returns-in_ok-push-in-None : goal.returns-in_ok-push-in-None
returns-in_ok-push-in-None c p =
    let groups = c.self.inside.groups.items in
    let g = c.in_ok-group-in-None.group in
    let x : List ℕ × ℕ = (c.args.key.now, c.args.id) in
    let more = group-more groups g x c.in_ok-group-in-None.ensures.one p in
    let items = ap {B = ℕ} (λ (gs : List Group). tally p (groups_pairs gs)) c.in_ok-push-in-None.ensures.items in
    let v = ap (tally p) c.self.view_is in
    omega (arith, items, more, v)
