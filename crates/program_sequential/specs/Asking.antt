-- The question that the words of `explain` ask, as a value.
use Rattle.std.specs.Prelude.{ℕ, List}
use Rattle.output_explain.specs.Asked.{Question}

abbrev pub question_of : List ℕ → List ℕ → ℕ → Question
question_of client publisher ordinal = record { client = client; publisher = publisher; ordinal = ordinal }
