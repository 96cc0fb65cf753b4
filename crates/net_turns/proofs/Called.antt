-- What a call for a turn answers, over any kind.
use Rattle.std.proofs.Common.{◌≡◌, ℕ, Bool, false, [], ◌∷◌, Some, Result, Ok, Err, IfOk, OnOk, OnErr, subst}
use Rattle.base.specs.declared.memory.NoMemory.{NoMemory}
use Rattle.net_model.specs.declared.turn.Turn.{Turn}
use Rattle.net_model.specs.declared.turn.Turn.TheVariants as turns
use Rattle.net_turns.specs.Network.{NetworkParts, IsLater}
use Rattle.net_turns.specs.Trying.{command_turn}
use Rattle.net_turns.proofs.Later.{later-same}
use Rattle.net_turns.specs.Kinds.{Trying}

-- the turn of a next command of the phase
pub called-tries : (t : Trying) (result : Result Bool NoMemory) (client phase : ℕ) (old new : NetworkParts)
    → IfOk result (λ made. t.IsTurn made (turns.Command client) old new) → t.next_phase_by old.net old.journal client ≡ Some phase
    → OnOk result (t.Tries phase (command_turn old.net client ∷ []) old new)
called-tries t (Ok made) client phase old new x own = t.tries_command made client phase old new x own
called-tries t (Err e) client phase old new x own = tt

-- where it answers that it made none
pub called-none : (t : Trying) (result : Result Bool NoMemory) (turn : Turn) (old new : NetworkParts) → IfOk result (λ made. t.IsTurn made turn old new)
    → IfOk result (λ made. made ≡ false → new ≡ old)
called-none t (Ok made) turn old new x = λ e. t.turn_none turn old new (subst (λ b. t.IsTurn b turn old new) e x)
called-none t (Err e) turn old new x = tt

-- whatever it answers
pub called-later : (t : Trying) (result : Result Bool NoMemory) (turn : Turn) (old new : NetworkParts) → IfOk result (λ made. t.IsTurn made turn old new)
    → OnErr result (new ≡ old) → IsLater old new
called-later t (Ok made) turn old new x e = t.turn_later made turn old new x
called-later t (Err want) turn old new x e = later-same old new e
