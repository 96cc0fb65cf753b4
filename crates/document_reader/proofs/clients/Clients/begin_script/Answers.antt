use Rattle.std.proofs.Common.{refl, arith}
use Rattle.document_reader.specs.Drafts.{begun}
use Rattle.document_reader.proofs.Drafting.{untouched, written, written_named}
use Rattle.document_reader.proofs.clients.Clients.begin_script.Goals as goal

pub invariant_of-self : goal.invariant_of-self
invariant_of-self c = written_named begun (λ d. refl) c.self.inside.names c.self.inside.drafts.items c.args.place c.index_mut.result.now (begun c.index_mut.result.now) c.index_mut.ensures.value refl (omega arith) c.self.invariant

pub returns-then-place-len : goal.returns-then-place-len
returns-then-place-len c = written begun c.self.inside.drafts.items c.args.self.now c.args.place c.index_mut.result.now (begun c.index_mut.result.now) c.self.view_is c.index_mut.ensures.value refl (omega arith)

pub returns-else-place-len : goal.returns-else-place-len
returns-else-place-len c = untouched begun c.self.inside.drafts.items c.args.self.now c.args.place c.self.view_is (omega arith)
