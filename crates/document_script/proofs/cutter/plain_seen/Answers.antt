use Rattle.std.proofs.Common.{arith}
use Rattle.document_script.proofs.HeadLaws.{broken_seen, control_seen}
use Rattle.document_script.proofs.cutter.plain_seen.Goals as goal

pub returns-in-Err-TooLong : goal.returns-in-Err-TooLong
returns-in-Err-TooLong c = let l = c.in-Err-TooLong.ensures.too_long.0 (let h = c.in-Err-TooLong.field-0-is in cc) in absurd (omega (arith, l))

pub returns-in-Err-BadUtf8 : goal.returns-in-Err-BadUtf8
returns-in-Err-BadUtf8 c = let b = (c.in-Err-BadUtf8.ensures.bad_utf8 c.in-Err-BadUtf8.field-0-0).0 (let h = c.in-Err-BadUtf8.field-0-is in cc) in broken_seen c.args.bytes.now b.bad

pub returns-in-Err-Control : goal.returns-in-Err-Control
returns-in-Err-Control c = let b = (c.in-Err-Control.ensures.control c.in-Err-Control.field-0-0).0 (let h = c.in-Err-Control.field-0-is in cc) in control_seen c.args.bytes.now c.in-Err-Control.field-0-0 b.first
