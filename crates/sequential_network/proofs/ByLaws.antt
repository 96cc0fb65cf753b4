-- What the laws of a kind of network show of its turns: of unchanged servers, of a client's home, of a command, and of the last entry.
use Rattle.std.proofs.Common.{◌≡◌, ℕ, ◌-◌, ◌≤◌, Bool, true, false, List, [], ◌∷◌, ◌++◌, length, map, slice_get, Some, Result, Ok, Err, IfOk, OnOk, OnErr, sym, ap, subst, ◌∙◌, arith}
use Rattle.base.specs.Sets.{Has}
use Rattle.base.specs.declared.memory.NoMemory.{NoMemory}
use Rattle.law_machine.specs.Machine.{Does}
use Rattle.law_routing.specs.Step.{NextCommand}
use Rattle.filter_text.specs.declared.sent.Sent.{Sent}
use Rattle.server_message.specs.Parts.{SendingParts}
use Rattle.net_model.specs.declared.turn.Act.TheVariants as acts
use Rattle.net_model.specs.declared.turn.Turn.TheVariants as turns
use Rattle.net_model.specs.Nets.{home_of}
use Rattle.net_model.specs.Parts.{NetParts, EntryParts}
use Rattle.server_core.specs.Clients.{client_numbers}
use Rattle.net_turns.specs.Network.{network_parts}
use Rattle.net_turns.specs.Kinds.{Trying, Telling}
use Rattle.sequential_network.specs.declared.servers.Servers as code
use Rattle.sequential_network.specs.Acted.{Servers, IsActed}
use Rattle.sequential_network.specs.Last.{LieLast, text_of_sending}
use Rattle.sequential_network.specs.Ruling.{Ruling, RulingLaws, IsSame}
use Rattle.sequential_network.specs.Seen.{seen, IsUnchanged}
use Rattle.sequential_network.specs.Stepping.{Stepping}
use Rattle.sequential_network.proofs.Last.{split-last, last-is}

-- what the code tells of servers that nothing changed
pub same : {P : Type 0} (old new : code.Servers P) → IsUnchanged old new → IsSame (seen old) (seen new)
same old new is = record { run = is.run; cores = is.cores; messages = is.messages; journal = is.journal }

pub same_of : {P : Type 0} (old new : code.Servers P) (answer : Result Bool NoMemory) → IfOk answer (λ made. (made ≡ false) × IsUnchanged old new)
    → IfOk answer (λ made. (made ≡ false) × IsSame (seen old) (seen new))
same_of old new (Ok made) is = (is.0, same old new is.1)
same_of old new (Err e) is = tt

pub same_on_err : {P T : Type 0} (old new : code.Servers P) (answer : Result T NoMemory) → OnErr answer (IsUnchanged old new)
    → OnErr answer (IsSame (seen old) (seen new))
same_on_err old new (Ok made) is = tt
same_on_err old new (Err e) is = same old new is

-- what a kind's laws show
module _ {P : Type 0} (kind : Stepping P) (trying : Trying) (telling : Telling trying) (ruling : Ruling P) (laws : RulingLaws kind trying telling ruling) where
  -- a client lives at its home
  pub lives_home : (net : NetParts) (phase : ℕ) (now : Servers P) → ruling.IsKept net phase now → (client : ℕ) → (1 ≤ client) × (client ≤ length net.clients)
      → (core : P) → slice_get now.cores (home_of net client - 1) ≡ Some core → Has client (client_numbers (kind.core core).clients)
  lives_home net phase now kept client within core at = (laws.inboxes net phase now kept).lives client core (omega (arith, within.0)) within.1 at

  -- what an answer tells of a command of the phase in hand: it was made, or nothing changed
  pub record IsCommanded (net : NetParts) (client phase : ℕ) (old new : Servers P) (answer : Result (Unit {0}) NoMemory) : Type 0 where
    pub made : OnOk answer (trying.IsTurn true (turns.Command client) (network_parts net old.journal) (network_parts net new.journal))
    pub kept_on : ruling.IsKept net phase new
    pub err : OnErr answer (new.journal ≡ old.journal)

  pub commanded : (net : NetParts) (phase : ℕ) (old new : Servers P) → ruling.IsKept net phase old → (client home : ℕ) → home ≡ home_of net client
      → trying.next_phase_by net old.journal client ≡ Some phase → (answer : Result (Unit {0}) NoMemory)
      → OnOk answer (IsActed kind (home - 1) (Does (NextCommand client)) (acts.Command client) old new) → OnErr answer (IsSame old new)
      → IsCommanded net client phase old new answer
  commanded net phase old new kept client home e next (Ok x) acted same =
      let turn = laws.command_turn net phase old new kept client next (subst (λ z. IsActed kind (z - 1) (Does (NextCommand client)) (acts.Command client) old new) e acted) in
      record { made = turn.0; kept_on = turn.1; err = tt }
  commanded net phase old new kept client home e next (Err x) acted same = record { made = tt; kept_on = laws.stays net phase old new kept same; err = same.journal }

  -- the last entry of the journal, and the texts of its messages
  module _ (net : NetParts) (phase : ℕ) (now : Servers P) (kept : ruling.IsKept net phase now) (x : EntryParts) (server : ℕ) (outs : List ℕ)
      (here : slice_get now.journal (length now.journal - 1) ≡ Some x) (server-is : x.server ≡ server) (outs-are : x.outs ≡ outs) where
    pub small_last : (to : ℕ) → Has to outs → (server ≤ 64) × (to ≤ 64)
    small_last to h =
        let b = split-last now.journal x here in
        subst (λ z. (z ≤ 64) × (to ≤ 64)) server-is (laws.last_small net phase now kept b.0 x b.1 to (subst (Has to) (sym outs-are) h))

    pub told_last : (told : List Sent) → ((sent : List SendingParts) → LieLast now.messages server outs sent → told ≡ map text_of_sending sent)
        → (before : List EntryParts) (entry : EntryParts) → now.journal ≡ before ++ entry ∷ [] → told ≡ telling.told_at net now.journal (length before) entry
    told_last told so before entry is =
        let x-is : x ≡ entry = last-is now.journal x here before entry is in
        let (sent, lies, texts) = laws.last_sent net phase now kept before entry is in
        so sent
        (subst (λ z. LieLast now.messages server z sent) (ap (λ z. z.outs) (sym x-is) ∙ outs-are)
        (subst (λ z. LieLast now.messages z entry.outs sent) (ap (λ z. z.server) (sym x-is) ∙ server-is) lies))
        ∙ texts
