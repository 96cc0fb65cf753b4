use Rattle.std.proofs.Common.{Bool, true, false, List, subst, sym}
use Rattle.net_model.specs.Parts.{NetParts, EntryParts}
use Rattle.output_report.specs.Plain.{MayFollow}
use Rattle.net_turns.specs.Told.{told_by}
use Rattle.program_sequential.specs.Printed.{trace_of}
use Rattle.program_sequential.proofs.OneText.{same-lists}
use Rattle.program_sequential.proofs.text_law.lemma_one_text.Goals as goal

pub returns-clause-lists : goal.returns-clause-lists
returns-clause-lists c = same-lists c.one_text.ensures.lists c.lemma_lawful_net.ensures.laws

pub returns-clause-runs : goal.returns-clause-runs
returns-clause-runs c = λ schedule other shown input text journal entries one two.
    (same-lists c.one_text.ensures.lists c.lemma_lawful_net.ensures.laws shown input text one.net two.net one.lists two.lists one.trace two.trace one.well_formed two.well_formed
    (subst MayFollow (sym one.network.run.traced) (follows one.net journal shown.trace)) (subst MayFollow (sym two.network.run.traced) (follows two.net entries shown.trace)) one.clients two.clients).0
  where
    follows : (net : NetParts) (journal : List EntryParts) (wanted : Bool) → MayFollow (trace_of wanted net journal)
    follows net journal true = c.one_text.ensures.trace net journal (told_by net journal)
    follows net journal false = tt
