use Rattle.std.proofs.Common.{length, sym, subst, ◌∙◌, arith}
use Rattle.std.proofs.lemmas.Bool.{eqb-false}
use Rattle.base.specs.Sets.{Has}
use Rattle.base_bits.specs.Rows.{IsSet}
use Rattle.base_bits.proofs.SetViews.{set-by, words-members}
use Rattle.base_bits.proofs.SetPlaces.{put-placed, put-set}
use Rattle.base_bits.proofs.set.Set.put.Goals as goal

pub shortened-requires : goal.shortened-requires
shortened-requires c i h =
    let some = eqb-false (length c.self.inside.words.now) 0 (sym c.is_empty.ensures ∙ c.if-is_empty.false) in
    let e = words-members c.self.inside.list.now c.self.inside.words.now c.self.inside.width c.args.self.now c.in_ok-listed.field-0.items c.self.invariant c.self.view_is some c.in_ok-listed.ensures.rising c.in_ok-listed.ensures.exact in
    let set = subst IsSet c.self.view_is (set-by c.self.inside.list.now c.self.inside.words.now c.self.inside.width c.self.invariant) in
    let w = set.within i (subst (Has i) (c.deref.ensures.value ∙ e) h) in
    let m = c.is_shorter_listed.ensures c.if-is_shorter_listed.true in
    omega (arith, w, m)

pub returns-then-is_shorter_listed-clause-placed : goal.returns-then-is_shorter_listed-clause-placed
returns-then-is_shorter_listed-clause-placed c =
    let some = eqb-false (length c.self.inside.words.now) 0 (sym c.is_empty.ensures ∙ c.if-is_empty.false) in
    let e = words-members c.self.inside.list.now c.self.inside.words.now c.self.inside.width c.args.self.now c.in_ok-listed.field-0.items c.self.invariant c.self.view_is some c.in_ok-listed.ensures.rising c.in_ok-listed.ensures.exact in
    let set = subst IsSet c.self.view_is (set-by c.self.inside.list.now c.self.inside.words.now c.self.inside.width c.self.invariant) in
    let same = c.deref-then-is_shorter_listed.ensures.value ∙ (c.in_ok-list.ensures ∙ (c.deref.ensures.value ∙ e)) in
    put-placed c.put_list-then-is_shorter_listed.result c.args.lists.now.items c.put_list-then-is_shorter_listed.new.lists.items c.args.words.now.items c.deref-then-is_shorter_listed.result.now c.args.self.now set same c.put_list-then-is_shorter_listed.ensures.lists c.put_list-then-is_shorter_listed.ensures.place

pub returns-then-is_shorter_listed-clause-set : goal.returns-then-is_shorter_listed-clause-set
returns-then-is_shorter_listed-clause-set c =
    let some = eqb-false (length c.self.inside.words.now) 0 (sym c.is_empty.ensures ∙ c.if-is_empty.false) in
    let e = words-members c.self.inside.list.now c.self.inside.words.now c.self.inside.width c.args.self.now c.in_ok-listed.field-0.items c.self.invariant c.self.view_is some c.in_ok-listed.ensures.rising c.in_ok-listed.ensures.exact in
    let set = subst IsSet c.self.view_is (set-by c.self.inside.list.now c.self.inside.words.now c.self.inside.width c.self.invariant) in
    let same = c.deref-then-is_shorter_listed.ensures.value ∙ (c.in_ok-list.ensures ∙ (c.deref.ensures.value ∙ e)) in
    put-set c.put_list-then-is_shorter_listed.result c.args.lists.now.items c.put_list-then-is_shorter_listed.new.lists.items c.args.words.now.items c.deref-then-is_shorter_listed.result.now c.args.self.now set same c.put_list-then-is_shorter_listed.ensures.lists c.put_list-then-is_shorter_listed.ensures.place
