use Rattle.std.proofs.Common.{◌≡◌, ◌-◌, []}
use Rattle.filter_text.specs.Items.{items_at}
use Rattle.filter_text.proofs.reader.Reader.joined.Given as goal

abbrev pub invariant-loop : goal.invariant-loop
invariant-loop g l = items_at g.T.Joined.front (l.most - l.counter) l.members.items l.self.rest.now ≡ items_at g.T.Joined.front l.most [] l.fn.self.rest.now
