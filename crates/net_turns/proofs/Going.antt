-- What is left of turns that are tried, over any kind: repetitions, two lists one after the other, and what a stop leaves.
use Rattle.std.proofs.Common.{◌≡◌, ℕ, suc, List, [], ◌++◌, refl, sym, ap}
use Rattle.std.proofs.lemmas.List.{append-nil}
use Rattle.law_machine.specs.Walk.{repeated}
use Rattle.law_phases.specs.Trees.{machine_at}
use Rattle.law_phases.specs.Runs.{Turn}
use Rattle.net_model.specs.Real.{real}
use Rattle.net_model.specs.Nets.{phased_net}
use Rattle.net_turns.specs.Network.{NetworkParts}
use Rattle.net_turns.specs.Kinds.{Trying}

-- one repetition of what is left
pub going-repeats : (t : Trying) (phase q left k : ℕ) (all turns : List Turn) (old middle new : NetworkParts) → left ≡ suc k
    → t.Going phase all (repeated (machine_at real (phased_net old.net) q) left turns) old middle
    → t.Tries phase turns middle new → t.Going phase all (repeated (machine_at real (phased_net old.net) q) k turns) old new
going-repeats t phase q left k all turns old middle new e way tries =
    t.going_on phase all (repeated (machine_at real (phased_net old.net) q) left turns) turns (repeated (machine_at real (phased_net old.net) q) k turns) old middle new
    (ap (λ n. repeated (machine_at real (phased_net old.net) q) n turns) e) way tries

-- of it a beginning
pub repeat-breaks : (t : Trying) (phase q left k : ℕ) (all turns : List Turn) (old middle new : NetworkParts) → left ≡ suc k
    → t.Going phase all (repeated (machine_at real (phased_net old.net) q) left turns) old middle
    → t.Begins phase turns middle new → t.Begins phase all old new
repeat-breaks t phase q left k all turns old middle new e way begun =
    t.going_breaks phase all (repeated (machine_at real (phased_net old.net) q) left turns) turns (repeated (machine_at real (phased_net old.net) q) k turns) old middle new
    (ap (λ n. repeated (machine_at real (phased_net old.net) q) n turns) e) way begun

-- two lists of turns, one after the other
pub both-tried : (t : Trying) (phase : ℕ) (part more : List Turn) (old middle new : NetworkParts) → t.Tries phase part old middle → t.Tries phase more middle new
    → t.Tries phase (part ++ more) old new
both-tried t phase part more old middle new first second =
    t.going_ends phase (part ++ more) [] old new refl
    (t.going_on phase (part ++ more) more more [] old middle new (sym (append-nil more))
    (t.going_on phase (part ++ more) (part ++ more) part more old old middle refl (t.going_starts phase (part ++ more) old) first) second)

-- of these the first was begun, or the second
pub first-begun : (t : Trying) (phase : ℕ) (part more : List Turn) (old new : NetworkParts) → t.Begins phase part old new → t.Begins phase (part ++ more) old new
first-begun t phase part more old new begun =
    t.going_breaks phase (part ++ more) (part ++ more) part more old old new refl (t.going_starts phase (part ++ more) old) begun

pub second-begun : (t : Trying) (phase : ℕ) (part more : List Turn) (old middle new : NetworkParts) → t.Tries phase part old middle → t.Begins phase more middle new
    → t.Begins phase (part ++ more) old new
second-begun t phase part more old middle new tries begun =
    t.going_breaks phase (part ++ more) more more [] old middle new (sym (append-nil more))
    (t.going_on phase (part ++ more) (part ++ more) part more old old middle refl (t.going_starts phase (part ++ more) old) tries) begun

-- nothing more was made
pub going-stops : (t : Trying) (phase : ℕ) (turns left : List Turn) (old middle new : NetworkParts) → t.Going phase turns left old middle → new ≡ middle
    → t.Begins phase turns old new
going-stops t phase turns left old middle new way same = t.going_breaks phase turns left [] left old middle new refl way (t.begun_none phase [] middle new same)
