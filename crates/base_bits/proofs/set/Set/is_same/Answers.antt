use Rattle.std.proofs.Common.{◌≢◌, length, sym, ◌∙◌, arith}
use Rattle.std.proofs.lemmas.Bool.{eqb-false}
use Rattle.base_bits.proofs.Rows.{same-members, members-same}
use Rattle.base_bits.proofs.SetViews.{seen-shown}
use Rattle.base_bits.proofs.set.Set.is_same.Goals as goal

pub returns : goal.returns
returns c =
    let some = eqb-false (length c.self.inside.words.now) 0 (sym c.is_empty.ensures ∙ c.if-is_empty.false) in
    let more : length c.other.inside.words.now ≢ 0 = λ e. some (omega arith) in
    let is = seen-shown c.self.inside.list.now c.self.inside.words.now c.self.inside.width c.args.self.now c.self.invariant c.self.view_is some in
    let that = seen-shown c.other.inside.list.now c.other.inside.words.now c.other.inside.width c.args.other.now c.other.invariant c.other.view_is more in
    let e = c.are_same.ensures in
    (λ t. same-members is that (e.0 t), λ same. e.1 (members-same is that same))
