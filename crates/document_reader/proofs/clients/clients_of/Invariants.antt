use Rattle.std.proofs.Common.{◌≡◌, ◌++◌, map}
use Rattle.document_reader.specs.Net.{client_of}
use Rattle.document_reader.proofs.clients.clients_of.Given as goal

abbrev pub invariant-loop-draft : goal.invariant-loop-draft
invariant-loop-draft l = l.clients.items ++ map client_of l.draft-iterator.rest.items ≡ map client_of l.fn.drafts.items
