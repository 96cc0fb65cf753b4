use Rattle.base_bits.proofs.Rows.{Shows, same-members, members-same}
use Rattle.base_bits.proofs.row.Row.is_same.Goals as goal

pub returns : goal.returns
returns c =
    let e = rw (c.deref.ensures.value, c.deref-2.ensures.value) at c.are_same.ensures in
    let is : Shows c.self.inside.words.items c.self.inside.width c.args.self.now = record { kept = c.self.invariant; view = c.self.view_is } in
    let that : Shows c.other.inside.words.items c.other.inside.width c.args.other.now = record { kept = c.other.invariant; view = c.other.view_is } in
    (λ t. same-members is that (e.0 t), λ same. e.1 (members-same is that same))
