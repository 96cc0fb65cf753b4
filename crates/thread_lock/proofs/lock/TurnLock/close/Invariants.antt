use Rattle.std.proofs.Common.{◌≡◌, ◌+◌, false, [], List, All, vec_len, Some}
use mathlib.Core.List.{IsPrefix}
use Rattle.thread_lock.specs.Rule.{EachBegins}
use Rattle.thread_lock.specs.Passes.{first_value, pass_count, IsPassOf, has_in_hand, seen_by}
use Rattle.thread_lock.proofs.lock.TurnLock.close.Given as goal

abbrev pub decreases-loop-pass : goal.decreases-loop-pass
decreases-loop-pass g l = vec_len l.passes

abbrev pub invariant-loop-pass : goal.invariant-loop-pass
invariant-loop-pass g l = record {
  table : l.all.table_id ≡ l.self.table.shared.table_id;
  bare : l.all.me.1 ≡ [];
  free : l.all.me.0.hand ≡ false;
  root : l.all.me.0.root ≡ Some (g.T.Standing.root (first_value l.self));
  parts : l.all.me.0.parts + vec_len l.passes ≡ pass_count l.self;
  own : All (λ p. IsPassOf g.T.Standing.root l.self p × (has_in_hand p ≡ false)) l.passes.items;
  known : (xs : List g.row.T-Item.Denot) → IsPrefix l.all.me.0.seen xs → EachBegins xs l.all.me.0.joined
      → All (λ p. IsPrefix (seen_by p) xs) l.passes.items → All (λ p. IsPrefix (seen_by p) xs) l.fn.passes.items;
}
