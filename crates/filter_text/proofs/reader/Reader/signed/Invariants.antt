use Rattle.std.proofs.Common.{◌≡◌, ◌-◌, [], length}
use Rattle.filter_text.specs.Changes.{changes_at}
use Rattle.filter_text.proofs.reader.Reader.signed.Given as goal

abbrev pub invariant-loop : goal.invariant-loop
invariant-loop g l = changes_at g.L.Listed.front l.sign (length l.fn.self.rest.now - l.counter) l.read.items l.self.rest.now ≡ changes_at g.L.Listed.front l.sign (length l.fn.self.rest.now) [] l.fn.self.rest.now
