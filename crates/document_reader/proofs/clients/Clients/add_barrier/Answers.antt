use Rattle.std.proofs.Common.{refl, arith}
use Rattle.document_reader.specs.Drafts.{with_barrier}
use Rattle.document_reader.proofs.Drafting.{untouched, written, written_named}
use Rattle.document_reader.proofs.clients.Clients.add_barrier.Goals as goal

pub invariant_of-self : goal.invariant_of-self
invariant_of-self c = written_named with_barrier (λ d. refl) c.self.inside.names c.self.inside.drafts.items c.args.place c.index_mut.result.now c.add_barrier.new.draft c.index_mut.ensures.value c.add_barrier.ensures (omega arith) c.self.invariant

pub returns-then-place-len : goal.returns-then-place-len
returns-then-place-len c = written with_barrier c.self.inside.drafts.items c.args.self.now c.args.place c.index_mut.result.now c.add_barrier.new.draft c.self.view_is c.index_mut.ensures.value c.add_barrier.ensures (omega arith)

pub returns-else-place-len : goal.returns-else-place-len
returns-else-place-len c = untouched with_barrier c.self.inside.drafts.items c.args.self.now c.args.place c.self.view_is (omega arith)
