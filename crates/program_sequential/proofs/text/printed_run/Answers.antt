use Rattle.std.proofs.Common.{ap, ◌∙◌, length}
use Rattle.std.proofs.lemmas.List.FromFn.{length-map-range_with_len}
use Rattle.net_turns.specs.Network.{refused_by, received_by}
use Rattle.program_sequential.proofs.text.printed_run.Goals as goal

pub printed_lists-requires-clause-refused : goal.printed_lists-requires-clause-refused
printed_lists-requires-clause-refused c =
    ap length c.requires.collected.refused
    ∙ length-map-range_with_len (refused_by c.args.net c.args.ran.journal.entries) 1 (length c.args.net.clients)

pub printed_lists-requires-clause-received : goal.printed_lists-requires-clause-received
printed_lists-requires-clause-received c =
    ap length c.requires.collected.received
    ∙ length-map-range_with_len (received_by c.args.net c.args.ran.journal.entries) 1 (length c.args.net.clients)
