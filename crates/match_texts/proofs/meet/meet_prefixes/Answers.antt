use Rattle.std.proofs.Common.{◌≡◌, ◌<◌, ◌++◌, [], ◌∙◌, cond, ap, arith, ℕ, Bool, List, length}
use Rattle.filter_constraints.specs.Bytes.{has_prefix}
use Rattle.match_texts.proofs.Grouping.{walk-more, marks-long}
use Rattle.match_texts.proofs.meet.meet_prefixes.Goals as goal

pub loop-i-preserved : goal.loop-i-preserved
loop-i-preserved c =
    let g = c.index-groups-i.result in
    let x = c.args.x.now in
    let groups = c.args.groups.now in
    let within : c.loop-i.i < length groups = omega (arith, c.loop-i-test.true, ap length c.requires, marks-long groups) in
    let has : c.is_prefix.result ≡ has_prefix x g.key.items = c.is_prefix.ensures ∙ ap (λ (k : List ℕ). has_prefix x k) c.deref.ensures.value in
    let more : cond c.is_prefix.result c.deref-in-loop-i.result.now [] ≡ cond (has_prefix x g.key.items) g.ids.items [] = ap (λ (b : Bool). cond b c.deref-in-loop-i.result.now []) has ∙ ap (λ (ids : List ℕ). cond (has_prefix x g.key.items) ids []) c.deref-in-loop-i.ensures.value in
    walk-more (λ (k : List ℕ). has_prefix x k) groups c.loop-i.i g c.args.found.now.items c.loop-i.found.items c.append_if.new.found.items within c.index-groups-i.is c.loop-i.invariant (c.in_ok-append_if.ensures ∙ ap (λ (ids : List ℕ). c.loop-i.found.items ++ ids) more)
