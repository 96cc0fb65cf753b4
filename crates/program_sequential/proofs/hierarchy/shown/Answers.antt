use Rattle.program_sequential.proofs.HierarchyRuns.{received-all, refused-all, shown-where}
use Rattle.program_sequential.proofs.hierarchy.shown.Goals as goal

pub printed_lists-requires-clause-refused : goal.printed_lists-requires-clause-refused
printed_lists-requires-clause-refused c = refused-all c.args.net c.in_ok-ran.ran c.in_ok-ran.ensures.ran

pub printed_lists-requires-clause-received : goal.printed_lists-requires-clause-received
printed_lists-requires-clause-received c = received-all c.args.net c.in_ok-ran.ran c.in_ok-ran.ensures.ran

pub returns : goal.returns
returns c =
    shown-where c.args.shown c.args.net c.in_ok-ran.ran c.in_ok-trace.trace.items c.printed_lists.result c.in_ok-ran.ensures.ran c.in_ok-trace.ensures
    c.printed_lists.ensures.text c.printed_lists.ensures.journal
