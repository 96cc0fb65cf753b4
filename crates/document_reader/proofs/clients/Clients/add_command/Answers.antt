use Rattle.std.proofs.Common.{refl, arith}
use Rattle.document_reader.specs.Drafts.{with_command}
use Rattle.document_reader.proofs.Drafting.{tried_named, untouched, written}
use Rattle.document_reader.proofs.clients.Clients.add_command.Goals as goal

pub invariant_of-self : goal.invariant_of-self
invariant_of-self c = tried_named (with_command c.args.command) (λ d. refl) c.self.inside.names c.self.inside.drafts.items c.args.place c.index_mut.result.now c.add_command.new.draft c.add_command.result c.index_mut.ensures.value c.add_command.ensures.ok c.add_command.ensures.err (omega arith) c.self.invariant

pub returns-in_ok-add_command : goal.returns-in_ok-add_command
returns-in_ok-add_command c = written (with_command c.args.command) c.self.inside.drafts.items c.args.self.now c.args.place c.index_mut.result.now c.add_command.new.draft c.self.view_is c.index_mut.ensures.value c.in_ok-add_command.ensures.ok (omega arith)

pub returns-else-place-len : goal.returns-else-place-len
returns-else-place-len c = untouched (with_command c.args.command) c.self.inside.drafts.items c.args.self.now c.args.place c.self.view_is (omega arith)
