-- What is recorded of a device's answers.
use Rattle.std.specs.Prelude.{ℕ, ◌+◌, List, [], ◌++◌, length, take, Result, Ok, Err, if◌then◌else◌, ◌&&◌, nat_eq, nat_lt}

-- the bytes that moved, how often it answered an error, and how often nothing moved though there was room or something to take
pub record AnswersParts : Type 0 where
  pub bytes : List ℕ
  pub errors : ℕ
  pub empties : ℕ

-- nothing was answered yet
abbrev pub blank : AnswersParts
blank = record { bytes = []; errors = 0; empties = 0 }

-- one more where nothing of a piece moved that isn't empty
abbrev pub with_empty : ℕ → ℕ → List ℕ → ℕ
with_empty empties n piece = if nat_eq n 0 && nat_lt 0 (length piece) then empties + 1 else empties

-- AFTER AN ANSWER to a read into the piece or to a write of it: the n bytes at its front moved at `Ok(n)`, and an error counts
abbrev pub noted : {E : Type 0} → AnswersParts → Result ℕ E → List ℕ → AnswersParts
noted old (Ok n) piece = record { bytes = old.bytes ++ take n piece; errors = old.errors; empties = with_empty old.empties n piece }
noted old (Err e) piece = record { bytes = old.bytes; errors = old.errors + 1; empties = old.empties }

-- how often a writer failed: it answered an error, or took nothing of a piece that isn't empty
abbrev pub write_faults : AnswersParts → ℕ
write_faults answers = answers.errors + answers.empties
