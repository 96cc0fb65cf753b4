-- Cells and their viewers, put apart one by one.
use Rattle.std.proofs.Common.{◌≡◌, ℕ, suc, Bool, List, [], ◌∷◌, ◌++◌, length, map, Some, slice_get, refl, sym, ap, subst, ◌∙◌}
use Rattle.std.proofs.lemmas.List.{map-append}
use Rattle.net_model.specs.Parts.{NetParts}
use Rattle.filter_text.specs.MessageText.{Each}
use Rattle.net_model.specs.Nets.{first_tree}
use Rattle.thread_cell.specs.declared.starting.Started.{Started}
use Rattle.thread_cell.specs.Cell.{CellParts}
use Rattle.thread_cell.specs.Started.{AreStarted}
use Rattle.thread_cell.specs.Together.{AreTogether, cell_roots, keepings}
use Rattle.thread_outcome.specs.Outcome.{AreKept, StandBetween}
use Rattle.net_model.specs.Sound.{IsSound}
use Rattle.thread_workers.specs.declared.server_workers.Viewers.{Viewers}
use Rattle.thread_workers.specs.ServerWorkers.{AreViewersOf, Pairwise}
use Rattle.program_threaded.specs.Teams.{HasViewers, HaveViewers, IsTeam}

pub pair-more : {A B : Type 0} (R : A → B → Type 0) (xs : List A) (ys : List B) (x : A) (y : B) → Pairwise R xs ys → R x y → Pairwise R (xs ++ x ∷ []) (ys ++ y ∷ [])
pair-more R [] [] x y p r = (r, tt)
pair-more R [] (b ∷ ys) x y p r = absurd p
pair-more R (a ∷ xs) [] x y p r = absurd p
pair-more R (a ∷ xs) (b ∷ ys) x y p r = (p.0, pair-more R xs ys x y p.1 r)

pub viewers-more : (cells : List CellParts) (viewers : List Viewers) (cell : CellParts) (two : Viewers) → Pairwise AreViewersOf (cell_roots cells) viewers → AreViewersOf cell.root two
    → Pairwise AreViewersOf (cell_roots (cells ++ cell ∷ [])) (viewers ++ two ∷ [])
viewers-more cells viewers cell two p r =
    subst (λ l. Pairwise AreViewersOf l (viewers ++ two ∷ [])) (sym (map-append (λ (c : CellParts). c.root) cells (cell ∷ []))) (pair-more AreViewersOf (cell_roots cells) viewers cell.root two p r)

-- what comes with started cells is of their publishers
pub started-viewers : (net : NetParts) (started : List Started) → AreStarted net started → HaveViewers started
started-viewers net started are = each started (λ k s e. let i = (are.each k s e).1 in (i.commands, i.links_viewer))
  where
    each : (started : List Started) → ((k : ℕ) (s : Started) → slice_get started k ≡ Some s → HasViewers s) → HaveViewers started
    each [] f = tt
    each (s ∷ started) f = (f 0 s refl, each started (λ k t e. f (suc k) t e))

-- the cells keep the entries of their journals as they were started
pub started-keep : (keeps : Bool) (started : List Started) → Each (λ s. s.cell.root.keeps ≡ keeps) started → Each (λ keep. keep ≡ keeps) (keepings (map (λ s. s.cell) started))
started-keep keeps [] each = tt
started-keep keeps (s ∷ started) each = (each.0, started-keep keeps started each.1)

pub team-first : (net : NetParts) (started : List Started) (cells : List CellParts) (viewers : List Viewers) → IsSound net → AreStarted net started → cells ≡ map (λ s. s.cell) started
    → StandBetween net 0 0 (map (λ s. s.cell) started) → AreKept cells → Pairwise AreViewersOf (cell_roots cells) viewers → IsTeam net 0 cells viewers
team-first net started cells viewers sound are same stand kept looks = record {
  between = record {
    next = 0;
    stand = subst (StandBetween net 0 0) (sym same) stand;
    hand = record { sound = sound; together = subst (λ l. AreTogether net 0 (cell_roots l)) (sym same) (subst (AreTogether net 0) (sym (roots-of started)) are.together); kept = kept };
  };
  viewers_of = looks;
}
  where
    roots-of : (started : List Started) → cell_roots (map (λ (s : Started). s.cell) started) ≡ map (λ s. s.cell.root) started
    roots-of [] = refl
    roots-of (s ∷ started) = ap (λ l. s.cell.root ∷ l) (roots-of started)

-- as many as there are servers
pub started-many : (net : NetParts) (started : List Started) → AreStarted net started → length started ≡ (first_tree net.trees).count
started-many net started are = sym (long started) ∙ are.together.all
  where
    long : (started : List Started) → length (map (λ (s : Started). s.cell.root) started) ≡ length started
    long [] = refl
    long (s ∷ started) = ap suc (long started)
