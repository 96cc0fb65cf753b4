use Rattle.std.proofs.Common.{◌≡◌, ◌∙◌, ℕ, suc, ◌+◌, ◌*◌, ap, refl, subst, [], ◌∷◌, length, arith, length-append}
use Rattle.match_cells.specs.declared.ask.Side.TheVariants as sides
use Rattle.match_cells.specs.Asks.{missed}
use Rattle.match_cells.specs.Walks.{IsCounted}
use Rattle.match_cells.proofs.Losses.{part-below, part-at, fits-lost}
use Rattle.match_cells.proofs.Passing.{counted-at, counted-past, told-more}
use Rattle.match_cells.proofs.cells.pass.Goals as goal

pub shift-requires-clause-some : goal.shift-requires-clause-some
shift-requires-clause-some c k =
    let p = part-below k c.args.groups.now c.args.c (2 * c.args.c) c.index-groups-c.result refl c.requires.within in
    omega (arith, p, c.requires.counted.each k, ap (missed sides.Below k) c.deref.ensures.value, ap (λ g. missed sides.Below k g.items) c.index-groups-c.is)

pub shift-requires-clause-fits : goal.shift-requires-clause-fits
shift-requires-clause-fits c k =
    let p = fits-lost k _ c.args.groups.now (2 * c.args.c) c.args.c c.index-groups-c.result c.requires.within (c.requires.counted.each k) c.requires.few in
    omega (arith, p, ap length c.deref.ensures.value, ap (λ g. length g.items) c.index-groups-c.is)

pub shift-requires-2-clause-some : goal.shift-requires-2-clause-some
shift-requires-2-clause-some c k =
    let one = counted-at c.args.groups.now c.args.c c.index-groups-c.result c.requires.within c.deref.result.now (c.deref.ensures.value ∙ ap (λ g. g.items) c.index-groups-c.is) (2 * c.args.c) refl c.args.lost.now c.shift.new.lost c.args.history.now c.shift.new.history c.in_ok-shift.ensures.shows c.requires.counted c.in_ok-shift.ensures.lost in
    let p = part-at k c.args.groups.now c.args.c (2 * c.args.c) c.index-groups-c-2.result refl c.requires.within in
    omega (arith, p, one.each k, ap (missed sides.At k) c.deref-2.ensures.value, ap (λ g. missed sides.At k g.items) c.index-groups-c-2.is)

pub shift-requires-2-clause-fits : goal.shift-requires-2-clause-fits
shift-requires-2-clause-fits c k =
    let one = counted-at c.args.groups.now c.args.c c.index-groups-c.result c.requires.within c.deref.result.now (c.deref.ensures.value ∙ ap (λ g. g.items) c.index-groups-c.is) (2 * c.args.c) refl c.args.lost.now c.shift.new.lost c.args.history.now c.shift.new.history c.in_ok-shift.ensures.shows c.requires.counted c.in_ok-shift.ensures.lost in
    let p = fits-lost k _ c.args.groups.now (suc (2 * c.args.c)) c.args.c c.index-groups-c-2.result c.requires.within (one.each k) c.requires.few in
    omega (arith, p, ap length c.deref-2.ensures.value, ap (λ g. length g.items) c.index-groups-c-2.is)

pub returns-clause-counted : goal.returns-clause-counted
returns-clause-counted c =
    let one = counted-at c.args.groups.now c.args.c c.index-groups-c.result c.requires.within c.deref.result.now (c.deref.ensures.value ∙ ap (λ g. g.items) c.index-groups-c.is) (2 * c.args.c) refl c.args.lost.now c.shift.new.lost c.args.history.now c.shift.new.history c.in_ok-shift.ensures.shows c.requires.counted c.in_ok-shift.ensures.lost in
    let two = counted-past c.args.groups.now c.args.c c.index-groups-c-2.result c.requires.within c.deref-2.result.now (c.deref-2.ensures.value ∙ ap (λ g. g.items) c.index-groups-c-2.is) (2 * c.args.c) refl c.shift.new.lost c.shift-2.new.lost c.shift.new.history c.shift-2.new.history c.in_ok-shift-2.ensures.shows one c.in_ok-shift-2.ensures.lost in
    let e : suc (suc (2 * c.args.c)) ≡ 2 * (c.args.c + 1) = omega arith in
    subst (λ (n : ℕ). IsCounted c.args.groups.now n c.shift-2.new.lost c.shift-2.new.history) e two

pub returns-clause-told : goal.returns-clause-told
returns-clause-told c =
    let one = counted-at c.args.groups.now c.args.c c.index-groups-c.result c.requires.within c.deref.result.now (c.deref.ensures.value ∙ ap (λ g. g.items) c.index-groups-c.is) (2 * c.args.c) refl c.args.lost.now c.shift.new.lost c.args.history.now c.shift.new.history c.in_ok-shift.ensures.shows c.requires.counted c.in_ok-shift.ensures.lost in
    let two = counted-past c.args.groups.now c.args.c c.index-groups-c-2.result c.requires.within c.deref-2.result.now (c.deref-2.ensures.value ∙ ap (λ g. g.items) c.index-groups-c-2.is) (2 * c.args.c) refl c.shift.new.lost c.shift-2.new.lost c.shift.new.history c.shift-2.new.history c.in_ok-shift-2.ensures.shows one c.in_ok-shift-2.ensures.lost in
    let first = told-more c.args.groups.now (suc (2 * c.args.c)) c.shift.new.lost c.args.ends.now.items c.push.new.self.items c.len.result c.args.history.now c.shift.new.history c.requires.told c.in_ok-shift.ensures.continues (omega (arith, c.requires.long)) one c.in_ok-push.ensures.items c.len.ensures in
    told-more c.args.groups.now (suc (suc (2 * c.args.c))) c.shift-2.new.lost c.push.new.self.items c.push-2.new.self.items c.len-2.result c.shift.new.history c.shift-2.new.history first c.in_ok-shift-2.ensures.continues (omega (arith, c.requires.long, ap length c.in_ok-push.ensures.items, length-append c.args.ends.now.items (c.len.result ∷ []))) two c.in_ok-push-2.ensures.items c.len-2.ensures
