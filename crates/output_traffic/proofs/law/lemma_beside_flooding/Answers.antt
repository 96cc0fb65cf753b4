use Rattle.std.proofs.Common.{ℕ, ◌+◌, ◌≤◌, sym, ap, subst, ◌∙◌, arith}
use Rattle.law_phases.specs.Trees.{PhasedNet}
use Rattle.net_model.specs.Real.{real, real_laws}
use Rattle.net_model.specs.Nets.{phased_net, clients_in}
use Rattle.output_traffic.specs.Carried.{notices_on}
use Rattle.output_traffic.specs.Flood.{flood_on, flooded}
use Rattle.output_traffic.specs.Links.{links_in}
use Rattle.output_traffic.specs.Runs.{AreClients, IsAllOwed}
use Rattle.law_phases.proofs.Equalling.{all-due, as-flooding}
use Rattle.law_phases.proofs.Saved.{never-more}
use Rattle.law_phases.proofs.Sums.{sum-le}
use Rattle.net_model.proofs.ClientsInNet.{are-clients}
use Rattle.output_traffic.proofs.Few.{are-few}
use Rattle.output_traffic.proofs.Telling.{all-told}
use Rattle.output_traffic.proofs.law.lemma_beside_flooding.Goals as goal
use Rattle.base.proofs.Numbers.{sum_over-same}

pub returns-clause-never_more : goal.returns-clause-never_more
returns-clause-never_more c = λ net sound run same journal outs told.
    let known = subst (λ (n : PhasedNet real). AreClients real n (clients_in net)) (sym same) (are-clients net) in
    let each = λ (from to : ℕ).
    (let carried = ap (λ o. notices_on journal o from to) told.told ∙ all-told run journal told.entries from to in
    let there : notices_on journal outs from to ≤ flooded real run.net (clients_in net) from to = omega (arith, carried, never-more real real_laws run (clients_in net) known from to) in
    subst (λ (n : PhasedNet real). notices_on journal outs from to ≤ flooded real n (clients_in net) from to) same there) in
    record {
      each = each;
      all = sum-le (λ (link : ℕ × ℕ). notices_on journal outs link.0 link.1 + notices_on journal outs link.1 link.0) (λ (link : ℕ × ℕ). flood_on net link.0 link.1 + flood_on net link.1 link.0) (links_in net)
          (λ link h. omega (arith, each link.0 link.1, each link.1 link.0));
    }

pub returns-clause-as_many : goal.returns-clause-as_many
returns-clause-as_many c = λ net sound run same drained journal outs told.
    let known = subst (λ (n : PhasedNet real). AreClients real n (clients_in net)) (sym same) (are-clients net) in
    let each = λ (from to : ℕ) (owed : IsAllOwed real (phased_net net) from to).
    (let carried = ap (λ o. notices_on journal o from to) told.told ∙ all-told run journal told.entries from to in
    let there = subst (λ (n : PhasedNet real). IsAllOwed real n from to) (sym same) owed in
    carried ∙ (as-flooding real real_laws run drained (clients_in net) known from to (all-due real real_laws run from to there) ∙ ap (λ (n : PhasedNet real). flooded real n (clients_in net) from to) same)) in
    record {
      each = each;
      all = λ owed.
          sum_over-same (λ (link : ℕ × ℕ). notices_on journal outs link.0 link.1 + notices_on journal outs link.1 link.0) (λ (link : ℕ × ℕ). flood_on net link.0 link.1 + flood_on net link.1 link.0) (links_in net)
          (λ link h. omega (arith, each link.0 link.1 (owed link.0 link.1), each link.1 link.0 (owed link.1 link.0)));
    }

pub returns-clause-few : goal.returns-clause-few
returns-clause-few c = λ net sound run same journal outs told. are-few run net sound same journal outs told
