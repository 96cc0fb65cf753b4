use Rattle.std.proofs.Common.{refl, sym, ap, subst, ◌∙◌}
use Rattle.net_journal.specs.Journal.{JournalParts}
use Rattle.thread_versions.specs.Ends.{IsViewerOf}
use Rattle.thread_cell.proofs.Fresh.{kept-fresh, opening-stands}
use Rattle.thread_cell.proofs.cell.Cell.fresh.Goals as goal

pub invariant_of-result : goal.invariant_of-result
invariant_of-result c = (
  kept-fresh c.args.tables.now c.args.core c.args.links.items c.requires.state c.requires.clock c.requires.new _ _ c.new-journal.result.entries c.requires.sound (c.of.ensures ∙ c.net.ensures) c.requires.run c.requires.wide c.requires.server refl (ap (λ (j : JournalParts). j.entries) (c.of-2.ensures ∙ c.new-journal.ensures)) c.of-3.ensures (ap (λ l. l.items) c.of-4.ensures) refl refl c.requires.publisher.0 c.requires.publisher.1 c.new.ensures.items (subst (IsViewerOf c.args.publisher) (sym c.of-5.ensures) c.requires.viewer) c.requires.names (ap (λ (j : JournalParts). j.entries) c.new-journal.ensures),
  ap (λ (j : JournalParts). j.kept) c.new-journal.ensures,
)

pub returns-clause-fresh : goal.returns-clause-fresh
returns-clause-fresh c = record {
  net_is = c.of.ensures ∙ c.net.ensures;
  server_is = refl;
  phase = refl;
  before = ap (λ (j : JournalParts). j.entries) (c.of-2.ensures ∙ c.new-journal.ensures);
  core = c.of-3.ensures;
  lanes = c.of-4.ensures;
  links_are = refl;
  clock = c.requires.clock;
  journal = ap (λ (j : JournalParts). j.entries) c.new-journal.ensures;
  opening = opening-stands c.args.tables.now c.args.core c.args.links.items c.requires.state c.requires.clock c.requires.new c.args.server;
}
