use Rattle.output_explain.proofs.Explained.{explained_ok}
use Rattle.output_explain.proofs.answer.explained.Goals as goal

pub returns : goal.returns
returns c = explained_ok c.args.net.now c.args.client c.args.id c.args.found c.requires.sound c.requires.found c.gathered.result c.gathered.ensures
