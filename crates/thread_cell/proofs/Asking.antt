-- Proves that a turn answers what was asked of a cell.
use Rattle.std.proofs.Common.{◌≡◌, ℕ, Bool, true, false, List, Option, None, Some, sym, ap, subst, ◌∙◌}
use Rattle.std.specs.Prelude.{Result, Ok, Err, IfOk, OnErr, IsErrOf}
use Rattle.std.proofs.lemmas.Option.{same_Some}
use Rattle.base.specs.Sets.{Has}
use Rattle.law_machine.specs.Machine.{Receives}
use Rattle.thread_cell.specs.Acted.{Represented}
use Rattle.net_model.specs.Parts.{EntryParts}
use Rattle.server_core.specs.declared.stepped.StepFault.{StepFault}
use Rattle.server_core.specs.declared.stepped.StepFault.TheVariants.{StampsExhausted}
use Rattle.thread_versions.specs.Ends.{matched_in}
use Rattle.thread_cell.specs.declared.held.ServerInHand.{ServerInHand}
use Rattle.thread_cell.specs.declared.link.Link.{Link}
use Rattle.thread_cell.specs.declared.choice.Matched.{Matched}
use Rattle.net_model.specs.declared.turn.Act.TheVariants.{Receive, TableUpdate}
use Rattle.thread_cell.specs.declared.turned.Turned.{Turned}
use Rattle.thread_cell.specs.declared.turned.Turned.TheVariants.{Made, Stale, Idle}
use Rattle.thread_cell.specs.Links.{IsNeighbour, IsUnmoved}
use Rattle.thread_cell.specs.Cell.{IsServerInHand}
use Rattle.thread_cell.specs.Turns.{IsCellTurn, IsStill, IsReceptionFrom, IsWornAt}
use Rattle.thread_cell.specs.Asked.{Answers, IsMadeStep, IsWorn, SuitsHeld}
use Rattle.thread_cell.specs.Ahead.{AnswersBy, IsReceptionBy}
use Rattle.thread_cell.proofs.Places.{both-behind}
use Rattle.thread_cell.proofs.Gathered.{named-place}
use Rattle.thread_cell.proofs.Aheads.{update_table-routes}

-- a neighbour has a place
pub place-of : (held : ServerInHand) (from : ℕ) → IsServerInHand held → SuitsHeld (Receive from) held → (p : ℕ) × IsNeighbour p from held.links.items
place-of held from is suits = named-place held.links.items from (subst (Has from) (sym is.neighbours) suits)

module _ (phase place from : ℕ) (old new : ServerInHand) (before after : List EntryParts) (named : IsNeighbour place from old.links.items) where
  -- a reception from a place is one from its neighbour
  turn-from : (m : Represented) → IsReceptionFrom phase place m old new before after → IsCellTurn phase (Receives from m) (Receive from) old new before after
  turn-from m t = subst (λ n. IsCellTurn phase (Receives n m) (Receive n) old new before after) (ap (λ (l : Link). l.neighbour) (same_Some t.link named.0 (sym t.there ∙ named.1)) ∙ named.2) t.turn

  abbrev made-from : (m : Represented) → IsReceptionFrom phase place m old new before after → IsMadeStep phase (Receive from) old new before after
  made-from m t = record { input = Receives from m; turn = turn-from m t; busy = (place, named, t.seen) }

  -- the neighbour is still at its place
  pub neighbour-still : IsStill old new before after → IsNeighbour place from new.links.items
  neighbour-still s = let y = both-behind IsUnmoved place old.links.items new.links.items named.0 s.links named.1 in (y.0, y.1, y.2.same.neighbour ∙ named.2)

  pub worn-from : (s : ℕ) → IsStill old new before after → IsWornAt place old.core.clock s new.links.items → IsWorn (Receive from) s old new
  worn-from s still w = (place, neighbour-still still, w)

  pub worn-by : (r : Result Turned StepFault) (s : ℕ) → OnErr r (IsStill old new before after) → (IsErrOf r (StampsExhausted s) → IsWornAt place old.core.clock s new.links.items) → IsErrOf r (StampsExhausted s) → IsWorn (Receive from) s old new
  worn-by (Ok t) s still worn e = absurd (let q : ◌≡◌ {A = Result Turned StepFault} (Ok t) (Err (StampsExhausted s)) = e in cc)
  worn-by (Err f) s still worn e = worn-from s still (worn e)

  -- what was taken from the place was taken from its neighbour
  pub taken-by : (matched : Option Matched) (r : Result Turned StepFault) → IfOk r (IsReceptionBy phase place matched old new before after) → IfOk r (AnswersBy phase (Receive from) matched old new before after)
  taken-by None (Ok Made) (m, t) = made-from m t
  taken-by None (Ok Stale) t = absurd t
  taken-by None (Ok Idle) t = (t.0, (place, named, t.1))
  taken-by (Some h) (Ok Made) (m, t, agrees) = (made-from m t, agrees)
  taken-by (Some h) (Ok Stale) (m, t, is, old-one) = (made-from m t, is, old-one)
  taken-by (Some h) (Ok Idle) t = (t.0, (place, named, t.1))
  taken-by matched (Err e) t = tt

-- a table update isn't matched ahead
pub update_table-by : (phase : ℕ) (old new : ServerInHand) (before after : List EntryParts) (matched : Option Matched) (r : Result Turned StepFault) → IfOk r (Answers phase TableUpdate old new before after)
    → IfOk r (AnswersBy phase TableUpdate matched old new before after)
update_table-by phase old new before after None r a = a
update_table-by phase old new before after (Some h) (Ok Made) a = (a, λ routes. absurd (update_table-routes old.core a.input (matched_in h.ahead.now) a.turn.told routes))
update_table-by phase old new before after (Some h) (Ok Stale) a = absurd a
update_table-by phase old new before after (Some h) (Ok Idle) a = a
update_table-by phase old new before after (Some h) (Err e) a = tt
