use Rattle.std.proofs.Common.{IfOk, sym, subst}
use Rattle.net_model.specs.Parts.{NetParts}
use Rattle.net_model.specs.Sound.{IsSound}
use Rattle.net_turns.specs.Network.{IsLegal}
use Rattle.net_turns.specs.Told.{told_by}
use Rattle.output_traffic.specs.Tallied.{Carries}
use Rattle.program_sequential.proofs.traffic.carried.Goals as goal

pub carried_over-requires-clause-sound : goal.carried_over-requires-clause-sound
carried_over-requires-clause-sound c = subst IsSound (sym c.in_ok-tables.ensures) c.requires.sound

pub carried_over-requires-clause-legal : goal.carried_over-requires-clause-legal
carried_over-requires-clause-legal c = subst (λ (n : NetParts). IsLegal n c.args.journal.now) (sym c.in_ok-tables.ensures) c.requires.legal

pub returns : goal.returns
returns c = subst (λ (n : NetParts). IfOk c.carried_over.result (λ carried. Carries carried c.args.journal.now (told_by n c.args.journal.now))) c.in_ok-tables.ensures c.carried_over.ensures
