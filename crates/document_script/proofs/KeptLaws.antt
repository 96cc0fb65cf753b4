-- What is kept of attributes, of which more than 64 are too many.
use Rattle.std.proofs.Common.{◌≡◌, ◌<◌, ◌≤◌, ℕ, ap, arith, inl, inr, ◌⊎◌, Bool, List, length}
use Rattle.document_script.specs.Reading.{KeepsFew}
use Rattle.base.proofs.Numbers.{le-or-gt}

same_length : {I : Type 0} (xs ys : List I) → xs ≡ ys → length xs ≡ length ys
same_length xs ys e = ap length e

pub few_given : {I : Type 0} (inner : Bool × List I) (given : List I) → KeepsFew inner given → (64 < length inner.1 → ⊥) → length given ≤ 64
few_given inner given k n = elim (le-or-gt (length given) 64) [ inl few ↦ few | inr many ↦ absurd (n (k.many many)) ]

pub many_given : {I : Type 0} (inner : Bool × List I) (given : List I) → KeepsFew inner given → 64 < length inner.1 → 64 < length given
many_given inner given k l = elim (le-or-gt (length given) 64) [ inl few ↦ (let n = same_length inner.1 given (k.few few) in absurd (omega (arith, l, n, few))) | inr many ↦ many ]
