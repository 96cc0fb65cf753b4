use Rattle.std.proofs.Common.{refl}
use Rattle.hierarchy_turns.specs.Network.{run_of}
use Rattle.program_sequential.proofs.HierarchyClients.{clients-promised}
use Rattle.program_sequential.proofs.hierarchy_law.lemma_hierarchy_promise.Goals as goal

pub returns-clause-clients : goal.returns-clause-clients
returns-clause-clients c = λ shown input net journal of whole notices.
    let p = c.promise.ensures net journal whole in
    let run = run_of net p.laws journal p.legal in
    clients-promised net journal whole notices p (c.last_moment.ensures run) (c.never_twice.ensures.delivered run)
    (c.lemma_lawful_net.ensures.laws net whole.sound) shown input of

pub returns-clause-network : goal.returns-clause-network
returns-clause-network c = λ shown net journal whole walk. record { walk = walk; gives = refl; traced = refl; run = c.promise.ensures net journal whole }
