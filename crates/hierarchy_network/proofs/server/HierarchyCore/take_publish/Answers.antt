use Rattle.hierarchy_network.proofs.server.HierarchyCore.take_publish.Goals as goal

pub take_next-requires-clause-goes : goal.take_next-requires-clause-goes
take_next-requires-clause-goes c = record { publish = c.requires.publish; known = c.requires.known; routed = c.requires.route }
