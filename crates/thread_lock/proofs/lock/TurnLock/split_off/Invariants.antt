use Rattle.std.proofs.Common.{◌≡◌, All, map, vec_len, vec_capacity}
use Rattle.std.specs.List.{range_with_len}
use Rattle.thread_lock.specs.Rule.{IsFirst}
use Rattle.thread_lock.specs.Passes.{first_value, IsPassOf, IsFresh, pass_number}
use Rattle.thread_lock.proofs.lock.TurnLock.split_off.Given as goal

abbrev pub invariant-loop-k : goal.invariant-loop-k
invariant-loop-k g l = let start = first_value l.self in record {
  first : IsFirst l.self.table.shared.table_id (g.T.Standing.root start) (g.T.Standing.list start) l.passes l._k l.first;
  long : vec_len l.made ≡ l._k;
  room : vec_capacity l.made ≡ l.passes;
  numbered : map pass_number l.made.items ≡ range_with_len 0 l._k;
  fresh : All (λ p. IsPassOf g.T.Standing.root l.self p × IsFresh (g.T.Standing.list start) p) l.made.items;
}
