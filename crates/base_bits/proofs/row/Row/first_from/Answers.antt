use Rattle.std.proofs.Common.{length, ap, refl, arith}
use Rattle.base_bits.proofs.Rows.{first-some, first-least, first-none, once-some, once-least, once-none}
use Rattle.base_bits.proofs.row.Row.first_from.Goals as goal

pub next_common-requires-clause-few : goal.next_common-requires-clause-few
next_common-requires-clause-few c = let i = c.self.invariant in omega (arith, ap length c.deref.ensures.value, i.long, i.fits)

pub returns-clause-some : goal.returns-clause-some
returns-clause-some c =
    once-some c.args.self.now.members c.args.from c.next_common.result (first-some (record { kept = c.self.invariant; view = c.self.view_is }) (record { kept = c.self.invariant; view = c.self.view_is }) refl c.args.from c.next_common.result (rw (c.deref.ensures.value, c.deref-2.ensures.value) at c.next_common.ensures.some))

pub returns-clause-least : goal.returns-clause-least
returns-clause-least c =
    once-least c.args.self.now.members c.args.from c.next_common.result (first-least (record { kept = c.self.invariant; view = c.self.view_is }) (record { kept = c.self.invariant; view = c.self.view_is }) refl c.args.from c.next_common.result (rw (c.deref.ensures.value, c.deref-2.ensures.value) at c.next_common.ensures.least))

pub returns-clause-none : goal.returns-clause-none
returns-clause-none c =
    once-none c.args.self.now.members c.args.from c.next_common.result (first-none (record { kept = c.self.invariant; view = c.self.view_is }) (record { kept = c.self.invariant; view = c.self.view_is }) refl c.args.from c.next_common.result (rw (c.deref.ensures.value, c.deref-2.ensures.value) at c.next_common.ensures.none))
