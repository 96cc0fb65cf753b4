-- Cells that are back from their workers: what their journals have.
use Rattle.std.proofs.Common.{◌≡◌, ℕ, zero, suc, ◌≤◌, List, [], ◌∷◌, ◌++◌, All, drop, length, map, Option, Some, None, inl, inr, refl, ap, subst, ◌∙◌, arith}
use Rattle.std.proofs.lemmas.List.{map-append}
use mathlib.Core.List.{IsPrefix}
use Rattle.thread_lock.specs.declared.lock.Pass.{Pass}
use Rattle.thread_lock.specs.Passes.{first_value, seen_by}
use Rattle.filter_text.specs.MessageText.{Each}
use Rattle.base_devices.specs.declared.gate.WorkerRole.TheVariants.{Commands}
use Rattle.server_core.specs.declared.stepped.StepFault.{StepFault}
use Rattle.server_core.specs.declared.stepped.StepFault.TheVariants.{NoMemory, StampsExhausted}
use Rattle.net_model.specs.Parts.{EntryParts}
use Rattle.thread_cell.specs.declared.held.Root.{Root}
use Rattle.thread_cell.specs.Cell.{CellParts, count_before}
use Rattle.thread_cell.specs.Together.{HasGrown, HaveGrown}
use Rattle.thread_workers.specs.ServerWorkers.{HasSeenFirst}
use Rattle.thread_workers.specs.WorkerHandles.{CellLock}
use Rattle.thread_workers.specs.Journals.{commands_of, entries_since, HasCommands, IsWornBy, HasExecuted}
use Rattle.thread_workers.specs.Work.{EndsWith}

commands-more : (client : ℕ) (es fs : List EntryParts) → commands_of client es ≤ commands_of client (es ++ fs)
commands-more client [] fs = omega arith
commands-more client (e ∷ es) fs = let more = commands-more client es fs in omega (arith, more)

dropped-more : (n client : ℕ) (es fs : List EntryParts) → commands_of client (drop n es) ≤ commands_of client (drop n (es ++ fs))
dropped-more zero client es fs = commands-more client es fs
dropped-more (suc n) client [] fs = omega arith
dropped-more (suc n) client (e ∷ es) fs = dropped-more n client es fs

-- a journal that goes on still has every command
pub has-more : (phase : ℕ) (root : Root) (seen journal : List EntryParts) → IsPrefix seen journal → HasCommands phase root seen → HasCommands phase root journal
has-more phase root seen journal p has s h lives =
    let here = has s h lives in
    let more : commands_of s.client (entries_since root seen) ≤ commands_of s.client (entries_since root journal) = subst (λ l. commands_of s.client (entries_since root seen) ≤ commands_of s.client (drop (count_before root) l)) p.1 (dropped-more (count_before root) s.client seen p.0) in
    omega (arith, here, more)

-- how far the cell is, by how the worker for commands ended
pub back-executed : (cell : CellParts) (seen : List EntryParts) (fault : Option StepFault) → IsPrefix seen cell.journal → EndsWith Commands cell.root seen fault → (fault ≡ Some NoMemory → ⊥) → HasExecuted cell
back-executed cell seen None p ends some = inl (has-more cell.root.phase cell.root seen cell.journal p ends)
back-executed cell seen (Some NoMemory) p ends some = absurd (some refl)
back-executed cell seen (Some (StampsExhausted s)) p ends some = inr (seen, p, subst (λ z. IsWornBy z cell.root seen) ends.0 ends)

-- one more cell at the end
pub grown-more : (xs ys : List CellParts) (x y : CellParts) → HaveGrown xs ys → HasGrown x y → HaveGrown (xs ++ x ∷ []) (ys ++ y ∷ [])
grown-more [] [] x y p r = (r, tt)
grown-more [] (b ∷ ys) x y p r = absurd p
grown-more (a ∷ xs) [] x y p r = absurd p
grown-more (a ∷ xs) (b ∷ ys) x y p r = (p.0, grown-more xs ys x y p.1 r)

pub each-more : (P : CellParts → Type 0) (xs : List CellParts) (x : CellParts) → Each P xs → P x → Each P (xs ++ x ∷ [])
each-more P [] x e p = (p, tt)
each-more P (a ∷ xs) x e p = (e.0, each-more P xs x e.1 p)

-- of passes that are there one has both
pub one-has : {X : Type 0} (P Q : X → Type 0) (xs : List X) (n : ℕ) → length xs ≡ suc n → All P xs → All Q xs → (x : X) × P x × Q x
one-has P Q [] n e p q = absurd (omega (arith, e))
one-has P Q (x ∷ xs) n e p q = (x, p 0 x (omega arith), q 0 x (omega arith))

-- the first journal is a beginning of the last, as a pass that saw the first shows
pub seen-grown : (lock : CellLock) (cell : CellParts) (passes : List (Pass EntryParts Root)) (n : ℕ) → length passes ≡ suc n → All (HasSeenFirst lock) passes → All (λ p. IsPrefix (seen_by p) cell.journal) passes → HasGrown (first_value lock) cell
seen-grown lock cell passes n e a p =
    let x = one-has (HasSeenFirst lock) (λ p. IsPrefix (seen_by p) cell.journal) passes n e a p in
    subst (λ l. IsPrefix l cell.journal) x.1 x.2

pub firsts-more : (locks less : List CellLock) (lock : CellLock) → locks ≡ less ++ lock ∷ [] → map first_value locks ≡ map first_value less ++ first_value lock ∷ []
firsts-more locks less lock e = ap (map first_value) e ∙ map-append first_value less (lock ∷ [])
