use Rattle.std.proofs.Common.{rules}
use Rattle.filter_values.specs.Name.{IsFirstBad}
use Rattle.filter_text.proofs.names.known_name.Goals as goal

-- src/names.rt:19:39
pub unreachable-requires-in-Err-BadByte : goal.unreachable-requires-in-Err-BadByte
unreachable-requires-in-Err-BadByte c = bad.bad (c.requires.each c.in-Err-BadByte.field-0-0 bad.inside)
  where
    bad : IsFirstBad c.args.bytes.now c.in-Err-BadByte.field-0-0
    bad = (c.read.ensures.bad_byte c.in-Err-BadByte.field-0-0).0 (search rules)
