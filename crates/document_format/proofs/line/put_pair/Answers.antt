use Rattle.std.specs.Prelude.{◌++◌, ◌∷◌, codes}
use Rattle.std.specs.Fmt.{decimal}
use Rattle.base_devices.proofs.Outlets.{went-then}
use Rattle.document_format.proofs.line.put_pair.Goals as goal

pub returns : goal.returns
returns g c =
    let words = c.args.words.now in
    let a = decimal c.args.a in
    let b = decimal c.args.b in
    went-then _ _ _ (words ++ a ++ 32 ∷ b) (codes "\n")
    (went-then _ _ _ (words ++ a) (32 ∷ b) (went-then _ _ _ words a c.put.ensures (rw c.from.ensures at c.put_number.ensures)) (went-then _ _ _ (codes " ") b c.put-2.ensures (rw c.from-2.ensures at c.put_number-2.ensures)))
    c.put-3.ensures
