use Rattle.std.proofs.Common.{◌≡◌, false}
use Rattle.document_reader.specs.Lines.{words}
use Rattle.document_reader.specs.Places.{is_skipped}
use Rattle.document_reader.specs.declared.state.Place.TheVariants as at
use Rattle.document_reader.proofs.Scripting.{in_scripts, section_rule, skipped_rule, word_rule}
use Rattle.document_reader.proofs.places.line.Goals as goal

pub returns-then-is_skipped : goal.returns-then-is_skipped
returns-then-is_skipped c = skipped_rule c.args.state.now c.args.number c.args.line.now (let t = c.if-is_skipped.true in let e = c.is_skipped.ensures in cc)

pub returns-then-is_script : goal.returns-then-is_script
returns-then-is_script c =
    let k : is_skipped (words c.args.line.now) ≡ false = (let t = c.if-is_skipped.false in let e = c.is_skipped.ensures in cc) in
    let p : c.args.state.now.place ≡ at.Scripts = in_scripts c.args.state.now.place (let t = c.if-is_script.true in let e = c.is_script.ensures in cc) in
    rw (section_rule c.args.state.now c.args.number c.args.line.now p k) c.in_script.ensures

pub returns-in-Some : goal.returns-in-Some
returns-in-Some c =
    let k : is_skipped (words c.args.line.now) ≡ false = (let t = c.if-is_skipped.false in let e = c.is_skipped.ensures in cc) in
    rw (word_rule c.args.state.now c.args.number c.args.line.now c.in-Some.word.now (words c.in-Some.rest.now) c.in-Some.ensures k) (c.by_words.ensures c.args.line.now)
