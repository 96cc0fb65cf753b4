use Rattle.std.proofs.Common.{sym, ◌∙◌, arith}
use Rattle.std.proofs.lemmas.Bool.{not-true, not-false}
use Rattle.base_bits.proofs.Rows.{bit-has, members-eq, no-members}
use Rattle.base_bits.proofs.row.Row.is_empty.Goals as goal

pub returns-clause-some : goal.returns-clause-some
returns-clause-some c e =
    let r = rw (c.deref.ensures.value, c.deref-2.ensures.value) at c.meet.ensures.some (not-false c.meet.result e) in
    (r.0, bit-has (record { kept = c.self.invariant; view = c.self.view_is }) r.0 r.1)

pub returns-clause-none : goal.returns-clause-none
returns-clause-none c e =
    sym (members-eq (record { kept = c.self.invariant; view = c.self.view_is }))
    ∙ no-members (record { kept = c.self.invariant; view = c.self.view_is }) c.self.inside.words.items
    (λ k. let r = rw (c.deref.ensures.value, c.deref-2.ensures.value) at c.meet.ensures.none (not-true c.meet.result e) k in omega (arith, r))
