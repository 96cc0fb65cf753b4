use Rattle.std.proofs.Common.{◌≡◌, true, arith}
use Rattle.std.proofs.lemmas.Grind.{common_steps}
use Rattle.filter_types.specs.Canonical.{is_rising}
use Rattle.filter_types.proofs.Shapes.{listed_of}
use Rattle.filter_types.proofs.canonical.listed_of_rising.Goals as goal

pub returns-clause-listed : goal.returns-clause-listed
returns-clause-listed c =
    let rises : is_rising c.deref.result.now ≡ true = grind (arith, common_steps) in
    rw c.in_ok-from_vec.ensures (listed_of c.args.most c.args.constraints.items (grind (arith, common_steps)) (grind (arith, common_steps)) (rw c.deref.ensures.value at rises) (rw c.deref-2.ensures.value at c.lemma_constraints.ensures))
