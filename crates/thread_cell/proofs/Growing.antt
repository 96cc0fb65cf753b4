-- Lemmas on journals that go on.
use Rattle.std.proofs.Common.{◌≡◌, ℕ, zero, suc, ◌<◌, List, [], ◌∷◌, length, get_or, set, Result, Ok, Err, IfOk, OnErr, sym, ap, ◌∙◌, arith}
use Rattle.std.proofs.lemmas.List.{append-nil}
use mathlib.Core.List.{IsPrefix}
use Rattle.server_core.specs.declared.stepped.StepFault.{StepFault}
use Rattle.net_model.specs.Parts.{EntryParts}
use Rattle.thread_cell.specs.declared.held.ServerInHand.{ServerInHand}
use Rattle.net_model.specs.declared.turn.Act.{Act}
use Rattle.thread_cell.specs.declared.turned.Turned.{Turned}
use Rattle.thread_cell.specs.declared.turned.Turned.TheVariants.{Made, Stale, Idle}
use Rattle.thread_cell.specs.Cell.{CellParts}
use Rattle.thread_cell.specs.Turns.{IsStill}
use Rattle.thread_cell.specs.Asked.{Answers}
use Rattle.thread_cell.specs.Together.{Sight, sight, sights, HasGrown, HaveGrown}
use Rattle.thread_cell.proofs.Walks.{both-comp}
use Rattle.law_machine.proofs.Lists.{prefix-self, prefix-trans}

pub same-prefix : (before after : List EntryParts) → after ≡ before → IsPrefix before after
same-prefix before after e = ([], append-nil before ∙ sym e)

module _ (old new : ServerInHand) (before after : List EntryParts) where
  pub asked-grows : (phase : ℕ) (what : Act) (r : Result Turned StepFault) → IfOk r (Answers phase what old new before after) → OnErr r (IsStill old new before after) → IsPrefix before after
  asked-grows phase what (Ok Made) a s = (_, sym a.turn.entry)
  asked-grows phase what (Ok Stale) a s = elim a [ ]
  asked-grows phase what (Ok Idle) a s = same-prefix before after a.0.journal
  asked-grows phase what (Err e) a s = same-prefix before after s.journal

pub grown-same : (cells : List CellParts) → HaveGrown cells cells
grown-same [] = tt
grown-same (x ∷ xs) = (prefix-self x.journal, grown-same xs)

pub grown-on : (a b c : List CellParts) → HaveGrown a b → HaveGrown b c → HaveGrown a c
grown-on = both-comp HasGrown HasGrown HasGrown (λ x y z p q. prefix-trans x.journal y.journal z.journal p q)

-- where all that is seen of them is as before
pub grown-sights : (xs ys : List CellParts) → sights ys ≡ sights xs → HaveGrown xs ys
grown-sights [] [] e = tt
grown-sights [] (y ∷ ys) e = absurd cc
grown-sights (x ∷ xs) [] e = absurd cc
grown-sights (x ∷ xs) (y ∷ ys) e = (same-prefix x.journal y.journal (ap (λ (z : Sight). z.journal) (heads e)), grown-sights xs ys (tails e))
  where
    heads : sight y ∷ sights ys ≡ sight x ∷ sights xs → sight y ≡ sight x
    heads e = cc

    tails : sight y ∷ sights ys ≡ sight x ∷ sights xs → sights ys ≡ sights xs
    tails e = cc

-- where one of them went on
pub grown-set : (cells : List CellParts) (k : ℕ) (d new : CellParts) → k < length cells → IsPrefix (get_or cells k d).journal new.journal → HaveGrown cells (set cells k new)
grown-set [] k d new lt p = absurd (omega arith)
grown-set (x ∷ xs) zero d new lt p = (p, grown-same xs)
grown-set (x ∷ xs) (suc k) d new lt p = (prefix-self x.journal, grown-set xs k d new (omega arith) p)
