-- What is printed of the walk of a document's hierarchy, with server 1 at the top.
use Rattle.std.specs.Prelude.{◌≡◌, ℕ, Bool, List, [], ◌++◌}
use Rattle.net_model.specs.Parts.{NetParts, EntryParts}
use Rattle.hierarchy_turns.specs.Network.{journal_in, refused_by, received_by}
use Rattle.hierarchy_turns.specs.Walked.{walk_after}
use Rattle.hierarchy_turns.specs.Told.{told_by}
use Rattle.hierarchy_turns.specs.Promise.{HierarchyPromise}
use Rattle.document_reader.specs.Net.{IsNetOf}
use Rattle.output_report.specs.Trace.{trace_text}
use Rattle.program_sequential.specs.declared.words.Shown.{Shown}
use Rattle.program_sequential.specs.Printed.{where_wanted}
use Rattle.program_sequential.specs.Promise.{ClientLists, ClientPromise, lists_text}

-- what a journal of a hierarchy gives the clients
abbrev pub hierarchy_lists : NetParts → List EntryParts → ClientLists
hierarchy_lists net journal = record { refused = refused_by net journal; received = received_by net journal }

-- its trace with its messages, where it is wanted
abbrev pub hierarchy_trace : Bool → NetParts → List EntryParts → List ℕ
hierarchy_trace wanted net journal = where_wanted wanted (trace_text net journal (told_by net journal))

-- THE TEXT OF A RUN OF A HIERARCHY: what each client received, and the trace where it is wanted
abbrev pub hierarchy_text : Shown → NetParts → List EntryParts → List ℕ
hierarchy_text shown net journal = lists_text net (hierarchy_lists net journal) shown.sorted ++ hierarchy_trace shown.trace net journal

-- WHAT THE NETWORK OF A HIERARCHY IS PROMISED TO HAVE DONE: its journal is the walk, gives these lists and this trace, and has done all that every whole run
-- of a hierarchy does
pub record HierarchyWalkPromise (shown : Shown) (net : NetParts) (journal : List EntryParts) (lists : ClientLists) (trace : List ℕ) : Type 0 where
  pub walk : journal_in net journal ≡ walk_after net []
  pub gives : lists ≡ hierarchy_lists net journal
  pub traced : trace ≡ hierarchy_trace shown.trace net journal
  pub run : HierarchyPromise net journal

-- THE HEADLINE OF A HIERARCHY: for every well-formed input the text is what the clients are promised, as in every run of peers, and the journal what the
-- network of its hierarchy is, with the same lists
pub record IsHierarchyOf (shown : Shown) (input text : List ℕ) (journal : List EntryParts) : Type 0 where
  pub net : NetParts
  pub well_formed : IsNetOf input net
  pub lists : ClientLists
  pub trace : List ℕ
  pub clients : ClientPromise shown input text net lists trace
  pub network : HierarchyWalkPromise shown net journal lists trace
