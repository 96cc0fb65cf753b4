use Rattle.std.proofs.Common.{◌≡◌, ◌++◌, drop, filter, not}
use Rattle.output_flood.specs.Tables.{is_found}
use Rattle.output_flood.proofs.meeting.without.Given as goal

abbrev pub invariant-loop-place : goal.invariant-loop-place
invariant-loop-place l = l.left.items ++ filter (λ x. not (is_found x l.others)) (drop l.place-index l.places) ≡ filter (λ x. not (is_found x l.others)) l.places
