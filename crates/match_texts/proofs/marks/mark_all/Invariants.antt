use Rattle.std.proofs.Common.{◌≡◌, ◌⊎◌, ℕ, length}
use Rattle.base_bits.specs.Words.{bit}
use Rattle.match_index.specs.Pairs.{IsIn}
use Rattle.match_texts.specs.Marks.{slots}
use Rattle.match_texts.proofs.marks.mark_all.Given as goal

abbrev pub invariant-loop-rest : goal.invariant-loop-rest
invariant-loop-rest l = record {
  long : length l.words ≡ 129;
  marked : (k : ℕ) → IsIn k (slots l.x) → (bit l.words k ≡ 1) ⊎ IsIn k (slots l.left);
}

abbrev pub decreases-loop-rest : goal.decreases-loop-rest
decreases-loop-rest l = length l.left
