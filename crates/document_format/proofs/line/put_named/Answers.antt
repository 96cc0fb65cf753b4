use Rattle.std.specs.Prelude.{◌++◌, ◌∷◌, codes}
use Rattle.std.specs.Fmt.{decimal}
use Rattle.base_devices.proofs.Outlets.{went-then}
use Rattle.document_format.proofs.line.put_named.Goals as goal

pub returns : goal.returns
returns g c =
    let words = c.args.words.now in
    let word = c.args.word.now in
    let number = decimal c.args.number in
    went-then _ _ _ (words ++ word ++ 32 ∷ number) (codes "\n")
    (went-then _ _ _ (words ++ word) (32 ∷ number) (went-then _ _ _ words word c.put.ensures c.put-2.ensures) (went-then _ _ _ (codes " ") number c.put-3.ensures (rw c.from.ensures at c.put_number.ensures)))
    c.put-4.ensures
