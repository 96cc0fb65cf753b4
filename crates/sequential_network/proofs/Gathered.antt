-- Lemmas on lists that grow by one.
use Rattle.std.proofs.Common.{◌≡◌, ℕ, ◌+◌, List, [], ◌∷◌, ◌++◌, length, Some, slice_get, ap, subst, arith}
