use Rattle.document_reader.proofs.Reading.{bad_read, given_read, net_read, refused_read}
use Rattle.document_reader.proofs.read.read_net.Goals as goal

pub returns-clause-net : goal.returns-clause-net
returns-clause-net c = net_read c.args.bytes.now c.answered.result c.answered.ensures

pub returns-clause-given : goal.returns-clause-given
returns-clause-given c = given_read c.args.bytes.now c.answered.result c.answered.ensures

pub returns-clause-bad : goal.returns-clause-bad
returns-clause-bad c = bad_read c.args.bytes.now c.answered.result c.answered.ensures

pub returns-clause-refused : goal.returns-clause-refused
returns-clause-refused c = refused_read c.args.bytes.now c.answered.result c.answered.ensures
