use Rattle.std.proofs.Common.{◌≡◌, sym, ap, subst, ◌∙◌, arith}
use Rattle.filter_text.specs.MessageText.{Each}
use Rattle.thread_cell.specs.Together.{keepings}
use Rattle.base_tree.specs.Tree.{Topology}
use Rattle.net_model.specs.Nets.{topology_at}
use Rattle.net_model.specs.Parts.{NetParts}
use Rattle.thread_outcome.specs.Outcome.{AreKept}
use Rattle.program_threaded.proofs.Parting.{started-viewers, started-keep, started-many, team-first}
use Rattle.program_threaded.proofs.team.Team.make.Goals as goal
use Rattle.net_model.proofs.SoundNets.{count-at}

pub returns-in-Ok-clause-keeps : goal.returns-in-Ok-clause-keeps
returns-in-Ok-clause-keeps g c =
    subst (λ cells. Each (λ keep. keep ≡ c.args.keeps) (keepings cells)) (sym c.part.ensures.cells) (started-keep c.args.keeps c.in-Ok.started.items c.in-Ok.ensures.keeps)

pub returns-in-Ok-clause-team : goal.returns-in-Ok-clause-team
returns-in-Ok-clause-team g c =
    team-first c.args.tables.now c.in-Ok.started.items c.part.new.cells.items c.part.new.viewers.items c.requires c.in-Ok.ensures.started c.part.ensures.cells
    (c.lemma_opens.ensures c.args.tables.now c.in-Ok.started.items c.in-Ok.ensures.started) (subst AreKept c.deref.ensures.value c.lemma_all_kept.ensures) c.part.ensures.viewers

pub part-requires-clause-viewers : goal.part-requires-clause-viewers
part-requires-clause-viewers g c = started-viewers c.args.tables.now c.in-Ok.started.items c.in-Ok.ensures.started

pub part-requires-clause-room : goal.part-requires-clause-room
part-requires-clause-room g c =
    let n = started-many c.args.tables.now c.in-Ok.started.items c.in-Ok.ensures.started in
    let a = c.in_ok-cells.ensures.capacity in
    let b = c.in_ok-viewers.ensures.capacity in
    let t = ap (λ (z : Topology). z.count) c.tree.ensures ∙ ap (λ (n : NetParts). (topology_at n 0).count) c.net.ensures ∙ count-at c.args.tables.now c.requires 0 in
    let v = c.servers-count.ensures.value in
    (omega (arith, n, a, v, t), omega (arith, n, b, v, t))
