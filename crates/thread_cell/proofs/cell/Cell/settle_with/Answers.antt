use Rattle.std.proofs.Common.{refl, sym, ap, subst, ◌∙◌}
use Rattle.thread_cell.specs.Cell.{CellParts}
use Rattle.thread_cell.specs.Links.{At, IsOneLane}
use Rattle.thread_cell.specs.LaneReceiving.{IsNextAt}
use Rattle.thread_cell.specs.Together.{sight, root_links}
use Rattle.thread_cell.proofs.Places.{below-found, lane-at}
use Rattle.thread_cell.proofs.Lookings.{kept-looked}
use Rattle.thread_cell.proofs.Walkers.{sight-unmoved}
use Rattle.thread_cell.proofs.cell.Cell.settle_with.Goals as goal

pub settle_links-requires-clause-lane : goal.settle_links-requires-clause-lane
settle_links-requires-clause-lane c =
    lane-at c.args.to c.args.from (root_links c.self.inside.root) c.self.inside.held.links.items (root_links c.taker.inside.root) c.taker.inside.held.links.items c.self.invariant.0.links c.taker.invariant.0.links
    (subst (λ (z : CellParts). At IsOneLane c.args.to (root_links z.root) c.args.from (root_links c.taker.inside.root)) (sym c.self.view_is) (subst (λ (z : CellParts). At IsOneLane c.args.to (root_links c.args.self.now.root) c.args.from (root_links z.root)) (sym c.taker.view_is) c.requires.lane))

pub settle_links-requires-clause-to : goal.settle_links-requires-clause-to
settle_links-requires-clause-to c =
    let l = lane-at c.args.to c.args.from (root_links c.self.inside.root) c.self.inside.held.links.items (root_links c.taker.inside.root) c.taker.inside.held.links.items c.self.invariant.0.links c.taker.invariant.0.links
    (subst (λ (z : CellParts). At IsOneLane c.args.to (root_links z.root) c.args.from (root_links c.taker.inside.root)) (sym c.self.view_is) (subst (λ (z : CellParts). At IsOneLane c.args.to (root_links c.args.self.now.root) c.args.from (root_links z.root)) (sym c.taker.view_is) c.requires.lane)) in
    below-found c.args.to c.self.inside.held.links.items l.0 l.2

pub settle_links-requires-clause-from : goal.settle_links-requires-clause-from
settle_links-requires-clause-from c =
    let l = lane-at c.args.to c.args.from (root_links c.self.inside.root) c.self.inside.held.links.items (root_links c.taker.inside.root) c.taker.inside.held.links.items c.self.invariant.0.links c.taker.invariant.0.links
    (subst (λ (z : CellParts). At IsOneLane c.args.to (root_links z.root) c.args.from (root_links c.taker.inside.root)) (sym c.self.view_is) (subst (λ (z : CellParts). At IsOneLane c.args.to (root_links c.args.self.now.root) c.args.from (root_links z.root)) (sym c.taker.view_is) c.requires.lane)) in
    below-found c.args.from c.taker.inside.held.links.items l.1 l.3

pub invariant_of-self : goal.invariant_of-self
invariant_of-self c = (
  kept-looked c.self.inside.tables.now c.self.inside.root c.self.inside.journal.entries c.self.inside.held _ c.self.invariant.0 refl c.settle_links.ensures.giver refl refl,
  c.self.invariant.1,
)

pub invariant_of-taker : goal.invariant_of-taker
invariant_of-taker c = (
  kept-looked c.taker.inside.tables.now c.taker.inside.root c.taker.inside.journal.entries c.taker.inside.held _ c.taker.invariant.0 refl c.settle_links.ensures.taker refl refl,
  c.taker.invariant.1,
)

pub returns-clause-giver : goal.returns-clause-giver
returns-clause-giver c = sight-unmoved c.self.inside.root c.self.inside.journal.entries c.self.inside.journal.entries c.self.inside.held (record c.self.inside.held { links = c.settle_links.new.giver }) refl c.settle_links.ensures.giver refl ∙ ap sight c.self.view_is

pub returns-clause-taker : goal.returns-clause-taker
returns-clause-taker c = sight-unmoved c.taker.inside.root c.taker.inside.journal.entries c.taker.inside.journal.entries c.taker.inside.held (record c.taker.inside.held { links = c.settle_links.new.taker }) refl c.settle_links.ensures.taker refl ∙ ap sight c.taker.view_is

pub returns-clause-next : goal.returns-clause-next
returns-clause-next c item n = c.settle_links.ensures.next item (subst (λ (z : CellParts). IsNextAt c.args.from item z.held.links.items) (sym c.taker.view_is) n)
