-- What an entry of a journal does, and what a server does with it.
use Rattle.std.specs.Prelude.{◌≡◌, ℕ, suc, ◌++◌, ◌==◌, cond, Option, Some, None, slice_get}
use Rattle.law_machine.specs.Machine.{at, Input, Does, Receives, Act, Did, Received, Stamped, unstamped, stamped, act_of, receivers}
use Rattle.law_machine.specs.Network.{IsAvailable, taken_after}
use Rattle.law_routing.specs.Theory.{Theory}
use Rattle.law_routing.specs.Net.{Net}
use Rattle.law_routing.specs.Server.{Message, ServerState}
use Rattle.law_routing.specs.Step.{Task, NextCommand, TableUpdate, Work, work_of, effect}
use Rattle.law_routing.specs.Routing.{routing_machine, Network, NetEntry}

module _ (theory : Theory) (net : Net theory) where
  -- what a reception comes to, where there is a message
  abbrev pub reception_work : ℕ → ServerState theory → ℕ → Option (Stamped (Message theory)) → Option (Work theory)
  reception_work server state from None = None
  reception_work server state from (Some message) = work_of theory net server state (Receives from message.message)

  -- what an act of a server comes to in a state of the network
  abbrev pub work_at : Network theory net → ℕ → Act Task → Option (Work theory)
  work_at network server (Did task) = work_of theory net server (network.state server) (Does task)
  work_at network server (Received from) = reception_work server (network.state server) from (slice_get (network.put from server) (network.taken from server))

  -- how many commands of each client are executed after an input
  abbrev pub done_after : {M : Type 0} → (ℕ → ℕ) → Input Task M → ℕ → ℕ
  done_after done (Does (NextCommand client)) = at done client (suc (done client))
  done_after done (Does TableUpdate) = done
  done_after done (Receives from message) = done

  -- the states are the same but for the counts of commands
  pub record IsSameButCount (s s' : ServerState theory) : Type 0 where
    pub subs : s'.subs ≡ s.subs
    pub advs : s'.advs ≡ s.advs
    pub installed : s'.installed ≡ s.installed
    pub pending : s'.pending ≡ s.pending
    pub inbox : s'.inbox ≡ s.inbox

  -- an entry does this work
  pub record Works (w : Network theory net) (e : NetEntry theory net) (v : Network theory net) : Type 0 where
    pub deed : Input Task (Stamped (Message theory))
    pub from : ServerState theory
    pub work : Work theory
    pub stamp : ℕ
    pub act : e.act ≡ act_of (routing_machine theory net) deed
    pub possible : work_of theory net e.server (w.state e.server) (unstamped (routing_machine theory net) deed) ≡ Some work
    pub is : work_at w e.server e.act ≡ Some work
    pub counts : IsSameButCount (w.state e.server) from
    pub done : from.done ≡ done_after (w.state e.server).done deed
    pub outs : e.outs ≡ receivers (routing_machine theory net) (effect theory net e.server from work).outs (net.links e.server)
    pub given : IsAvailable (routing_machine theory net) w e.server deed
    pub state : v.state ≡ at w.state e.server (effect theory net e.server from work).state
    pub put : v.put ≡ (λ a b. cond (a == e.server)
        (w.put a b ++ stamped (routing_machine theory net) stamp ((effect theory net e.server from work).outs b))
        (w.put a b))
    pub taken : v.taken ≡ taken_after (routing_machine theory net) w.taken e.server deed
