use Rattle.std.proofs.Common.{◌≡◌, inl, inr, ◌<◌, length, get_or, set, slice_get, Some, sym, ap, subst, ◌∙◌, arith}
use Rattle.std.proofs.lemmas.Bool.{cases_eq}
use Rattle.std.proofs.lemmas.List.{length-set}
use Rattle.std.proofs.lemmas.Option.{same_Some}
use Rattle.server_stock.specs.declared.sides.Side.{Side}
use Rattle.server_stock.specs.Sides.{turned}
use Rattle.base_order.proofs.Over.{get-set-same, get-set-other}
use Rattle.std.proofs.lemmas.Option.{slice_get-get_or}
use Rattle.server_stock.proofs.Turns.{get-within}
use Rattle.server_stock.proofs.sides.turn_all.Goals as goal

pub turn-requires-clause-due : goal.turn-requires-clause-due
turn-requires-clause-due g c =
    let v = c.loop-p.invariant in
    let p = c.loop-p.p in
    let n = v.length in
    let s = get_or c.loop-p.sides p c.index-sides-p.result in
    c.requires.due p s (sym (v.later p (omega arith)) ∙ slice_get-get_or c.loop-p.sides p c.index-sides-p.result (omega (arith, n)))

pub loop-p-preserved : goal.loop-p-preserved
loop-p-preserved g c =
    let v = c.loop-p.invariant in
    let p = c.loop-p.p in
    let n = v.length in
    let xs = c.loop-p.sides in
    let new = c.turn.new.side in
    let cov = g.T.Cover.covering in
    let l : p < length xs = omega (arith, n) in
    record {
      length = length-set xs p new ∙ v.length;
      later = λ q h. get-set-other xs p q new (omega (arith, h)) ∙ v.later q (omega (arith, h));
      done = λ q s h e. elim (cases_eq q p) [
        | inl w ↦
            let there : slice_get c.args.sides.now p ≡ Some s = subst (λ z. slice_get c.args.sides.now z ≡ Some s) w e in
            let x : get_or xs p c.index-sides-p.result ≡ s = same_Some _ s (sym (slice_get-get_or xs p c.index-sides-p.result l) ∙ (v.later p (omega arith) ∙ there)) in
            subst (λ z. slice_get (set xs p new) z ≡ Some (turned cov c.args.order.now s.offered c.args.held.now.rows z s)) (sym w)
            (get-set-same xs p new l ∙ ap Some (c.turn.ensures ∙ ap (λ (z : Side). turned cov c.args.order.now z.offered c.args.held.now.rows p z) x))
        | inr d ↦ get-set-other xs p q new d ∙ v.done q s (omega (arith, h, d)) e
      ];
    }

pub returns-clause-each : goal.returns-clause-each
returns-clause-each g c p s e =
    let l = get-within c.args.sides.now p s e in
    c.loop-p.invariant.done p s (omega (arith, l, c.loop-p-test.false)) e
