-- The kind of peers: its network makes its runs, and each output has one verdict.
use Rattle.std.proofs.Common.{◌≡◌, ℕ, List, [], ◌∷◌, ◌++◌, refl}
use Rattle.net_model.specs.declared.turn.Turn.{Turn}
use Rattle.net_model.specs.Meaning.{entry_of, journal_of}
use Rattle.net_model.specs.Nets.{turn_of}
use Rattle.net_model.specs.Parts.{NetParts, EntryParts}
use Rattle.net_turns.specs.Network.{moment_by}
use Rattle.net_turns.specs.Turns.{IsEntryOf}
use Rattle.net_turns.proofs.Drained.{walked-open}
use Rattle.net_turns.proofs.Peers.{peers_telling, peers_trying, peers_walking}
use Rattle.net_turns.proofs.Stopping.{same-entry}
use Rattle.sequential_network.specs.PeersRuling.{peers_ruling}
use Rattle.audit_verdict.specs.Kinds.{peers}
use Rattle.audit_verdict.specs.Laws.{MakesRuns, VerdictLaws}
use Rattle.audit_verdict.proofs.Complete.{run-verdict, shown-of-peers}
use Rattle.audit_verdict.proofs.Runs.{told-length}
use Rattle.audit_verdict.proofs.SameOutputs.{same-output}
use Rattle.audit_verdict.proofs.ToldMore.{told-one-more}

pub peers-make : MakesRuns peers peers_trying peers_walking peers_telling peers_ruling
peers-make = record {
  legal = λ net journal h. h;
  made = λ turn old new x. (x.entry, x.later, x.permitted);
  barred = λ turn old new x. x.1;
  not_drained = walked-open;
  drained = λ old new w. w;
  received = λ net journal client. refl;
  refused = λ net journal client. refl;
  told_is = λ net journal. refl;
  told_length = λ net journal. told-length net journal 0 journal;
  told_more = told-one-more;
}

pub peers-verdict : VerdictLaws peers
peers-verdict = record {
  one_entry = same-entry;
  not_both = λ net journal turn entry x barred. barred (entry_of entry) (moment_by net (journal ++ entry ∷ [])) x;
  confirmed = run-verdict peers shown-of-peers;
  same_output = same-output;
}
