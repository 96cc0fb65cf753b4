use Rattle.std.proofs.Common.{true, length, refl, sym, subst, arith}
use Rattle.base.specs.Sets.{Has}
use Rattle.base_bits.specs.Rows.{Numbers}
use Rattle.base_bits.proofs.Passing.{passing-has}
use Rattle.base_order.proofs.Narrowing.{may-cover-at}
use Rattle.base_order.proofs.build.find_candidates.Goals as goal

pub returns-clause-covered : goal.returns-clause-covered
returns-clause-covered g c j l e =
    let r = c.requires in
    let all : Has j c.args.all.now.members = subst (λ (z : Numbers). Has j z.members) (sym r.all) (passing-has (λ k. true) (length c.args.items.now) j l refl) in
    let may = may-cover-at g.T.Cover.covering g.T.Cover.marked g.met.T.Cover.never_misses c.args.items.now c.args.signs.now r.signs c.args.i j r.there l e in
    let first = c.narrow.ensures.kept j (subst (Has j) (sym c.copy_from.ensures.members) all) (omega (arith, l, r.signs.long)) may in
    c.narrow-2.ensures.kept j first (omega (arith, l, r.words.long)) (r.words.never_misses c.args.i j r.there l e)
