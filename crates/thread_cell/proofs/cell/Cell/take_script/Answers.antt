use Rattle.std.proofs.Common.{sym, ap, subst, ◌∙◌}
use Rattle.base.specs.Sets.{Has}
use Rattle.net_model.specs.Nets.{clients_of}
use Rattle.thread_cell.specs.declared.held.Root.{Root}
use Rattle.net_model.specs.declared.turn.Act.TheVariants.{Command}
use Rattle.thread_cell.proofs.Housed.{client-within}
use Rattle.thread_cell.proofs.Growing.{asked-grows}
use Rattle.thread_cell.proofs.Walkers.{command-idle}
use Rattle.thread_cell.proofs.cell.Cell.take_script.Goals as goal
use Rattle.law_machine.proofs.Lists.{prefix-trans}

pub returns-then-not-was_made-clause-grown : goal.returns-then-not-was_made-clause-grown
returns-then-not-was_made-clause-grown g c =
    asked-grows c.args.self.now.held c.turn.new.self.held c.args.self.now.journal c.turn.new.self.journal c.args.self.now.root.phase (Command c.args.client) c.turn.result c.turn.ensures.answers c.turn.ensures.still

pub returns-then-not-was_made-clause-idle : goal.returns-then-not-was_made-clause-idle
returns-then-not-was_made-clause-idle g c q =
    command-idle c.args.self.now c.turn.new.self c.turn.ensures.root c.args.client _ c.in_ok-turn.ensures.answers (c.was_made.ensures c.if-not-was_made.true)

pub script_len-end-requires : goal.script_len-end-requires
script_len-end-requires g c =
    client-within c.net.result.now c.args.self.now.root.server c.args.client
    (subst (λ n. Has c.args.client (clients_of n c.args.self.now.root.server)) (sym (c.net.ensures ∙ ap (λ (r : Root). r.net.value) c.turn.ensures.root)) c.requires)

pub loop-init : goal.loop-init
loop-init g c = record {
  root = c.turn.ensures.root;
  grown = asked-grows c.args.self.now.held c.turn.new.self.held c.args.self.now.journal c.turn.new.self.journal c.args.self.now.root.phase (Command c.args.client) c.turn.result c.turn.ensures.answers c.turn.ensures.still;
}

pub loop-preserved : goal.loop-preserved
loop-preserved g c = record {
  root = c.turn-in-loop.ensures.root ∙ c.loop.invariant.root;
  grown = prefix-trans _ _ _ c.loop.invariant.grown
      (asked-grows c.loop.self.held c.turn-in-loop.new.self.held c.loop.self.journal c.turn-in-loop.new.self.journal c.loop.self.root.phase (Command c.args.client) c.turn-in-loop.result c.turn-in-loop.ensures.answers c.turn-in-loop.ensures.still);
}
