use Rattle.filter_types.proofs.CanonicalLaws.{rises, contains_canonical, canonical_contains, canonical-permutation, unique-contains}
use Rattle.filter_types.proofs.law.canonical_laws.Goals as goal

pub returns-clause-rising : goal.returns-clause-rising
returns-clause-rising k f = rises f

pub returns-clause-members : goal.returns-clause-members
returns-clause-members k f x = (canonical_contains x f, contains_canonical x f)

pub returns-clause-any_order : goal.returns-clause-any_order
returns-clause-any_order k f g p = canonical-permutation f g p

pub returns-clause-unique : goal.returns-clause-unique
returns-clause-unique k f g r s m = unique-contains f g r s m
