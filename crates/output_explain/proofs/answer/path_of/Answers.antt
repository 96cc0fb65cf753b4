use Rattle.output_explain.proofs.Serving.{is_server}
use Rattle.output_explain.proofs.answer.path_of.Goals as goal

pub path-requires-clause-from : goal.path-requires-clause-from
path-requires-clause-from c = is_server c.args.net.now c.args.phase c.args.from c.tree.result.now c.requires.sound c.tree.ensures c.requires.from

pub path-requires-clause-to : goal.path-requires-clause-to
path-requires-clause-to c = is_server c.args.net.now c.args.phase c.args.to c.tree.result.now c.requires.sound c.tree.ensures c.requires.to
