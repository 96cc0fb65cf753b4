use Rattle.std.proofs.Common.{true, false, refl, sym, subst}
use Rattle.server_message.specs.declared.load.Load.{Load}
use Rattle.thread_cell.specs.Links.{IsNeighbour}
use Rattle.thread_cell.specs.LaneReceiving.{IsNextAt, IsLookedAt}
use Rattle.thread_cell.specs.Looking.{IsPublicationIn}
use Rattle.thread_cell.proofs.Places.{below-found}
use Rattle.thread_cell.proofs.Sooner.{looked-some}
use Rattle.thread_cell.proofs.Gathered.{named-place}
use Rattle.thread_cell.proofs.looking.look_from.Goals as goal

pub unreachable-requires : goal.unreachable-requires
unreachable-requires g c =
    let n = named-place c.args.links.now.items c.args.from c.requires in
    c.in_default.ensures.none n.0 (subst (IsNeighbour n.0 c.args.from) (sym c.deref.ensures.value) n.1)

pub look_at-requires : goal.look_at-requires
look_at-requires g c =
    let n = subst (IsNeighbour c.in-Some.place c.args.from) c.deref.ensures.value c.in-Some.ensures.some in
    record { place = below-found c.in-Some.place c.args.links.now.items n.0 n.1 }

pub returns-then-not-look_at-clause-looked : goal.returns-then-not-look_at-clause-looked
returns-then-not-look_at-clause-looked g c =
    let n = subst (IsNeighbour c.in-Some.place c.args.from) c.deref.ensures.value c.in-Some.ensures.some in
    record { place = c.in-Some.place; neighbour = n; seen = false; looked = subst (IsLookedAt c.in-Some.place c.args.links.now.items c.look_at.new.links.items) c.if-not-look_at.true c.look_at.ensures.looked; told = refl }

pub next_at-requires-clause-place : goal.next_at-requires-clause-place
next_at-requires-clause-place g c =
    let l = subst (IsLookedAt c.in-Some.place c.args.links.now.items c.look_at.new.links.items) c.if-not-look_at.false c.look_at.ensures.looked in
    rw c.deref-2.ensures.value (below-found c.in-Some.place c.look_at.new.links.items l.1 l.3)

pub next_at-requires-clause-seen : goal.next_at-requires-clause-seen
next_at-requires-clause-seen g c = rw c.deref-2.ensures.value (looked-some c.in-Some.place _ _ c.look_at.result c.look_at.ensures.looked c.if-not-look_at.false)

pub returns-clause-looked : goal.returns-clause-looked
returns-clause-looked g c =
    let n = subst (IsNeighbour c.in-Some.place c.args.from) c.deref.ensures.value c.in-Some.ensures.some in
    record {
      place = c.in-Some.place;
      neighbour = n;
      seen = true;
      looked = subst (IsLookedAt c.in-Some.place c.args.links.now.items c.look_at.new.links.items) c.if-not-look_at.false c.look_at.ensures.looked;
      told = (
        c.next_at.result.now,
        subst (IsNextAt c.in-Some.place c.next_at.result.now) c.deref-2.ensures.value c.next_at.ensures,
        subst (λ (l : Load). IsPublicationIn c.args.tables.now l c.publication_in.result) c.load.ensures c.publication_in.ensures,
      );
    }
