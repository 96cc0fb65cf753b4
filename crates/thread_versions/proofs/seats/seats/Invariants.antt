use Rattle.std.proofs.Common.{◌≡◌, length, All}
use Rattle.left_right.specs.Sides.{view}
use Rattle.thread_versions.specs.Chain.{IsNamedBy}
use Rattle.thread_versions.specs.Ends.{width_of}
use Rattle.thread_versions.proofs.seats.seats.Given as goal

abbrev pub invariant-loop : goal.invariant-loop
invariant-loop g l = record {
  long : length l.viewers.items ≡ l.counter;
  seen : All (λ v. (v.front.seen ≡ l.front.seen) × (width_of v ≡ (view l.initial.writer.desk.place).width)) l.viewers.items;
  desk : l.writer.desk.shown ≡ l.initial.writer.desk.shown;
  log : l.writer.log ≡ l.initial.writer.log;
  behind : l.writer.behind ≡ l.initial.writer.behind;
  told : view l.writer.desk.place ≡ view l.initial.writer.desk.place;
  named : IsNamedBy l.front.seen.book (view l.writer.desk.place).width (view l.writer.desk.place);
}
