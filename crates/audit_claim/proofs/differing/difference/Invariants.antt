use Rattle.audit_claim.proofs.Apart.{AreAlike}
use Rattle.audit_claim.proofs.differing.difference.Given as goal

abbrev pub invariant-loop-i : goal.invariant-loop-i
invariant-loop-i l = AreAlike l.claimed l.text l.i
