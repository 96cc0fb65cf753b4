-- Proves that the headline holds of a run that is shown.
use Rattle.std.proofs.Common.{◌≡◌, ℕ, List, [], sym, subst}
use Rattle.net_model.specs.Parts.{NetParts, EntryParts}
use Rattle.net_model.specs.Sound.{IsSound}
use Rattle.document_reader.specs.Net.{IsNetOf}
use Rattle.hierarchy_turns.specs.Network.{journal_in}
use Rattle.hierarchy_turns.specs.Promise.{IsWholeRun as IsWholeHierarchy}
use Rattle.hierarchy_turns.specs.Walked.{walk_after}
use Rattle.program_sequential.specs.declared.words.Schedule.{Schedule}
use Rattle.program_sequential.specs.declared.words.Shown.{Shown}
use Rattle.program_sequential.specs.Printed.{run_text, trace_of}
use Rattle.program_sequential.specs.Promise.{ClientPromise, AreOfNotices}
use Rattle.program_sequential.specs.Network.{lists_by, NetworkPromise, IsWholeRun}
use Rattle.program_sequential.specs.Ran.{IsShown}
use Rattle.program_sequential.specs.Headline.{Headline}
use Rattle.program_sequential.specs.Hierarchy.{hierarchy_lists, hierarchy_text, hierarchy_trace, HierarchyWalkPromise, IsHierarchyOf}
use Rattle.program_sequential.specs.HierarchyRan.{IsHierarchyShown}

pub headline : (schedule : Schedule) (shown : Shown) (input text : List ℕ) (net : NetParts) (journal : List EntryParts)
    → IsNetOf input net → IsSound net → AreOfNotices net.clients → IsShown schedule shown net text journal
    → (IsWholeRun net journal → ClientPromise shown input (run_text shown net journal) net (lists_by net journal) (trace_of shown.trace net journal))
    → (IsWholeRun net journal → NetworkPromise schedule shown net journal (lists_by net journal) (trace_of shown.trace net journal))
    → Headline schedule shown input text journal
headline schedule shown input text net journal of sound notices s clients network =
    let whole : IsWholeRun net journal = record { sound = sound; notices = notices; legal = s.legal; drained = s.drained } in record {
      net = net;
      well_formed = of;
      lists = lists_by net journal;
      trace = trace_of shown.trace net journal;
      clients = subst (λ t. ClientPromise shown input t net (lists_by net journal) (trace_of shown.trace net journal)) (sym s.printed) (clients whole);
      network = network whole;
    }

pub hierarchy-headline : (shown : Shown) (input text : List ℕ) (net : NetParts) (journal : List EntryParts)
    → IsNetOf input net → IsSound net → AreOfNotices net.clients → IsHierarchyShown shown net text journal
    → (IsWholeHierarchy net journal → AreOfNotices net.clients
    → ClientPromise shown input (hierarchy_text shown net journal) net (hierarchy_lists net journal) (hierarchy_trace shown.trace net journal))
    → (IsWholeHierarchy net journal → journal_in net journal ≡ walk_after net []
    → HierarchyWalkPromise shown net journal (hierarchy_lists net journal) (hierarchy_trace shown.trace net journal))
    → IsHierarchyOf shown input text journal
hierarchy-headline shown input text net journal of sound notices s clients network =
    let whole : IsWholeHierarchy net journal = record { sound = sound; legal = s.walked.legal; drained = s.walked.drained } in record {
      net = net;
      well_formed = of;
      lists = hierarchy_lists net journal;
      trace = hierarchy_trace shown.trace net journal;
      clients =
          subst (λ t. ClientPromise shown input t net (hierarchy_lists net journal) (hierarchy_trace shown.trace net journal)) (sym s.printed)
          (clients whole notices);
      network = network whole s.walked.walk;
    }
