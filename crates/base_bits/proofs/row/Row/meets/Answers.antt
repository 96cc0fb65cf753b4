use Rattle.base_bits.proofs.Rows.{apart, bit-has}
use Rattle.base_bits.proofs.row.Row.meets.Goals as goal

pub returns-clause-some : goal.returns-clause-some
returns-clause-some c e =
    let r = rw (c.deref.ensures.value, c.deref-2.ensures.value) at c.meet.ensures.some e in
    (r.0, bit-has (record { kept = c.self.invariant; view = c.self.view_is }) r.0 r.1, bit-has (record { kept = c.other.invariant; view = c.other.view_is }) r.0 r.2)

pub returns-clause-none : goal.returns-clause-none
returns-clause-none c e k h m =
    let r = rw (c.deref.ensures.value, c.deref-2.ensures.value) at c.meet.ensures.none e k in
    apart (record { kept = c.self.invariant; view = c.self.view_is }) (record { kept = c.other.invariant; view = c.other.view_is }) c.requires k r h m
