use Rattle.std.proofs.Common.{◌≡◌, drop}
use Rattle.program_sequential.specs.Words.{options, plain}
use Rattle.program_sequential.proofs.words.options.Given as goal

abbrev pub invariant-loop-word : goal.invariant-loop-word
invariant-loop-word l = options l.shown (drop l.word-index l.words) ≡ options plain l.words
