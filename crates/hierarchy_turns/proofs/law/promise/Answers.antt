use Rattle.std.proofs.Common.{length, sym, subst}
use Rattle.base.specs.Sets.{Has}
use Rattle.law_routing.specs.Routing.{Network}
use Rattle.net_model.specs.Real.{real}
use Rattle.net_model.specs.Nets.{clients_in}
use Rattle.net_model.proofs.ClientsInNet.{are-clients}
use Rattle.hierarchy_turns.specs.Network.{net_of, run_of, entry_in}
use Rattle.hierarchy_turns.proofs.law.promise.Goals as goal
use Rattle.law_hierarchy.specs.HierarchyRun.{IsInOrder}
use Rattle.std.proofs.lemmas.List.{length-map}

pub returns : goal.returns
returns c = λ net journal whole.
    let laws = c.lawful.ensures.laws net whole.sound in
    let run = run_of net laws journal whole.legal in record {
      laws = laws;
      legal = whole.legal;
      drained = whole.drained;
      climbs_once = λ publication published server master below. c.climbs_once.ensures.once run whole.drained publication published server master.among master.below_top below;
      climbs_nowhere_else = λ publication published server master apart. c.climbs_once.ensures.nowhere_else run (length run.journal) publication published server master.among master.below_top apart;
      carries_wanted_down = c.goes_down.ensures.only run;
      in_force = c.in_force.ensures run;
      owed_once = c.owed_once.ensures run whole.drained;
      flood_owed_once = c.flood_owed_once.ensures run whole.drained;
      by_phase = c.delivered_by_phase.ensures run;
      causal = c.causal_order.ensures run;
      settled_by = c.settled_by.ensures run;
      carries_once = c.never_twice.ensures.put run;
      never_more = (let known = are-clients net in c.economy.ensures run (clients_in net) (record { each = known.each; single = known.single }));
      allowed = λ publication client lives h. c.delivered_allowed.ensures run (length run.journal) (run.net.home client) client publication lives
          (subst (λ (z : Network real (net_of net)). Has publication ((z.state (run.net.home client)).inbox client)) (sym (c.last_moment.ensures run)) h);
      stable = c.stable_inputs.ensures run whole.drained;
      in_order = λ publisher. subst (IsInOrder real run publisher) (length-map journal (entry_in net)) (c.in_order.ensures run publisher (length run.journal));
      bounded = c.bounded.ensures run;
    }
