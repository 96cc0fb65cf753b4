-- Defines the messages of a run's entries, as texts.
use Rattle.std.specs.Prelude.{◌≡◌, ℕ, suc, List, [], ◌∷◌}
use Rattle.law_phases.specs.Runs.{PhasedRun}
use Rattle.law_phases.specs.AtMoments.{messages_at, net_seen}
use Rattle.net_model.specs.Real.{real}
use Rattle.filter_text.specs.declared.sent.Sent.{Sent}
use Rattle.server_spec.specs.Control.{texts}
use Rattle.net_model.specs.Parts.{EntryParts}
use Rattle.net_model.specs.Meaning.{entry_of, journal_of}

-- those of entries from the n-th of a run on, each by rising neighbour
abbrev pub told_from : PhasedRun real → ℕ → List EntryParts → List (List Sent)
told_from run n [] = []
told_from run n (entry ∷ entries) = texts (messages_at real run n (entry_of entry)) ((net_seen real run n).links entry.server) ∷ told_from run (suc n) entries

-- a journal tells a run, and the texts beside it are those of the messages of its entries
pub record IsTold (run : PhasedRun real) (journal : List EntryParts) (outs : List (List Sent)) : Type 0 where
  pub entries : run.journal ≡ journal_of journal
  pub told : outs ≡ told_from run 0 journal
