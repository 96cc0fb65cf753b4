use Rattle.net_turns.specs.Network.{moment_by}
use Rattle.sequential_network.specs.Seen.{seen}
use Rattle.sequential_network.proofs.Commanding.{rests_now, quiet_where, through_where}
use Rattle.sequential_network.proofs.forwarding_server.ForwardingServerNetworked.begin.Goals as goal

pub begin-requires-clause-state : goal.begin-requires-clause-state
begin-requires-clause-state c =
    let net = c.args.servers.now.tables.now in
    let now = seen c.args.servers.now in
    let kept = c.requires.kept in
    let may = c.requires.may in (
      (moment_by net c.args.servers.now.journal.entries).state,
      kept.cores,
      rests_now net c.args.last c.args.own now kept may.later (quiet_where net c.args.last now kept may.empty may.calm) (through_where net c.args.last now kept c.args.own may.through),
    )
