use Rattle.std.proofs.Common.{◌≡◌, drop, nat_eq}
use Rattle.std.specs.List.{list_any}
use Rattle.audit_claim.proofs.line.is_among.Given as goal

abbrev pub invariant-loop-near : goal.invariant-loop-near
invariant-loop-near l = list_any (λ near. nat_eq near l.number) (drop l.near-index l.list) ≡ list_any (λ near. nat_eq near l.number) l.list
