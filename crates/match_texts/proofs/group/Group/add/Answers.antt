use Rattle.match_texts.proofs.Grouping.{push-same}
use Rattle.match_texts.proofs.group.Group.add.Goals as goal

pub returns-clause-added : goal.returns-clause-added
returns-clause-added c = push-same c.args.self.now.key.items c.args.id c.args.self.now.ids.items c.push.new.self.items c.in_ok-push.ensures.items
