use Rattle.std.proofs.lemmas.List.{take_rest}
use Rattle.test_support.proofs.Pieces.{given_piece}
use Rattle.test_support.proofs.memory.MemorySourceSource.read.Goals as goal

pub returns-clause-given : goal.returns-clause-given
returns-clause-given c =
    given_piece c.args.self.now.bytes.items c.give-count.new.into c.args.self.now.at c.give-count.result
    (rw (c.deref.ensures.value, take_rest c.args.self.now.bytes.items c.args.self.now.at) at c.give-count.ensures.moved)
