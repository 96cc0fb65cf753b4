use Rattle.std.proofs.Common.{◌≡◌, ◌≤◌, ◌-◌, Some, slice_get, sym, subst, arith}
use Rattle.net_model.specs.Nets.{first_tree, home_of}
use Rattle.net_turns.specs.Network.{moment_by}
use Rattle.sequential_network.proofs.Commanding.{home_low, lives_there}
use Rattle.thread_outcome.proofs.Sessions.{session-at}
use Rattle.thread_outcome.proofs.ran.session.Goals as goal
use Rattle.base.proofs.Lists.{get-get_or}

pub overflow_sub-home : goal.overflow_sub-home
overflow_sub-home c = (subst (λ z. (1 ≤ z) × (z ≤ (first_tree c.args.end.now.net.now.trees).count)) (sym c.home-home.ensures) (home_low c.args.end.now.net.now c.requires.end.sound c.args.client)).0

pub bounds-cores-home : goal.bounds-cores-home
bounds-cores-home c =
    let low = subst (λ z. (1 ≤ z) × (z ≤ (first_tree c.args.end.now.net.now.trees).count)) (sym c.home-home.ensures) (home_low c.args.end.now.net.now c.requires.end.sound c.args.client) in
    omega (arith, low.0, low.1, c.requires.end.cores_are.all)

pub session-requires : goal.session-requires
session-requires c =
    lives_there c.args.end.now.net.now c.requires.end.sound c.requires.end.phase (moment_by c.args.end.now.net.now c.args.end.now.journal.now.entries).state c.args.end.now.cores.now c.requires.end.cores_are c.args.client c.requires.client c.index-cores-home.result at
  where
    at : slice_get c.args.end.now.cores.now (home_of c.args.end.now.net.now c.args.client - 1) ≡ Some c.index-cores-home.result
    at =
        let low = home_low c.args.end.now.net.now c.requires.end.sound c.args.client in
        let all = c.requires.end.cores_are.all in
        let same = c.home-home.ensures in
        subst (λ z. slice_get c.args.end.now.cores.now (z - 1) ≡ Some c.index-cores-home.result) same
        (get-get_or c.args.end.now.cores.now (c.home-home.result - 1) c.index-cores-home.result (omega (arith, low.0, low.1, all, same)) c.index-cores-home.is)

pub returns : goal.returns
returns c =
    session-at c.args.end.now.net.now c.args.end.now.cores.now c.args.end.now.journal.now.entries c.requires.end c.args.client c.index-cores-home.result at c.session.result.now.session
    c.session.ensures.session c.session.ensures.client c.session.ensures.semantics
  where
    at : slice_get c.args.end.now.cores.now (home_of c.args.end.now.net.now c.args.client - 1) ≡ Some c.index-cores-home.result
    at =
        let low = home_low c.args.end.now.net.now c.requires.end.sound c.args.client in
        let all = c.requires.end.cores_are.all in
        let same = c.home-home.ensures in
        subst (λ z. slice_get c.args.end.now.cores.now (z - 1) ≡ Some c.index-cores-home.result) same
        (get-get_or c.args.end.now.cores.now (c.home-home.result - 1) c.index-cores-home.result (omega (arith, low.0, low.1, all, same)) c.index-cores-home.is)
