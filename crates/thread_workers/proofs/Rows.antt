-- Lemmas on the last cell of a row, with its viewers.
use Rattle.std.proofs.Common.{◌≡◌, ℕ, zero, suc, ◌+◌, List, [], ◌∷◌, ◌++◌, map, length, Some, slice_get, refl, sym, ap, subst, ◌∙◌, arith}
use Rattle.std.proofs.lemmas.List.{length-map, map-append}
use Rattle.thread_lock.specs.Passes.{first_value}
use Rattle.net_model.specs.Parts.{NetParts}
use Rattle.thread_cell.specs.declared.held.Root.{Root}
use Rattle.thread_cell.specs.Cell.{CellParts}
use Rattle.thread_cell.specs.Together.{cell_roots}
use Rattle.thread_workers.specs.declared.server_workers.Viewers.{Viewers}
use Rattle.thread_workers.specs.declared.server_workers.ServerWorkers.{ServerWorkers}
use Rattle.thread_workers.specs.ServerWorkers.{Pairwise, AreAllWorkers, AreViewersOf, AreInPlace, AreWorkersOf}
use Rattle.thread_workers.specs.WorkerHandles.{CellLock, IsLockFor, lock_root}
use Rattle.thread_workers.proofs.Pairs.{pairs-less, pairs-more, pairs-long}

get-left : {X : Type 0} (xs ys : List X) (k : ℕ) (x : X) → slice_get xs k ≡ Some x → slice_get (xs ++ ys) k ≡ Some x
get-left [] ys k x e = absurd cc
get-left (z ∷ xs) ys zero x e = e
get-left (z ∷ xs) ys (suc k) x e = get-left xs ys k x e

get-last : {X : Type 0} (xs : List X) (x : X) → slice_get (xs ++ x ∷ []) (length xs) ≡ Some x
get-last [] x = refl
get-last (z ∷ xs) x = get-last xs x

module _ (all less : List CellParts) (cell : CellParts) (is : all ≡ less ++ cell ∷ []) where
  pub roots-last : cell_roots all ≡ cell_roots less ++ cell.root ∷ []
  roots-last = ap cell_roots is ∙ map-append (λ (c : CellParts). c.root) less (cell ∷ [])

  -- the viewers of the others, and of the last
  pub viewers-last : (es fs : List Viewers) (both : Viewers) → es ≡ fs ++ both ∷ [] → Pairwise AreViewersOf (cell_roots all) es → Pairwise AreViewersOf (cell_roots less) fs × AreViewersOf cell.root both
  viewers-last es fs both e p = pairs-less AreViewersOf (cell_roots less) fs cell.root both (subst (λ z. Pairwise AreViewersOf z (fs ++ both ∷ [])) roots-last (subst (Pairwise AreViewersOf (cell_roots all)) e p))

  -- the others are in place, and the last is
  pub place-less : (net : NetParts) (phase : ℕ) → AreInPlace net phase (cell_roots all) → AreInPlace net phase (cell_roots less)
  place-less net phase p k root e = p k root (subst (λ z. slice_get z k ≡ Some root) (sym roots-last) (get-left (cell_roots less) (cell.root ∷ []) k root e))

  pub place-last : (net : NetParts) (phase : ℕ) → AreInPlace net phase (cell_roots all) → (cell.root.net.value ≡ net) × (cell.root.server ≡ suc (length (cell_roots less))) × (cell.root.phase ≡ phase)
  place-last net phase p = p (length (cell_roots less)) cell.root (subst (λ z. slice_get z (length (cell_roots less)) ≡ Some cell.root) (sym roots-last) (get-last (cell_roots less) cell.root))

  -- a cell that was taken out of its lock again stands at the end
  pub roots-back : (now pushed : List CellParts) (closed : CellParts) → pushed ≡ now ++ closed ∷ [] → cell_roots now ≡ cell_roots less → closed.root ≡ cell.root → cell_roots pushed ≡ cell_roots all
  roots-back now pushed closed e n r =
      ap cell_roots e ∙ map-append (λ (c : CellParts). c.root) now (closed ∷ []) ∙ ap (λ z. z ++ closed.root ∷ []) n ∙ ap (λ z. cell_roots less ++ z ∷ []) r ∙ sym roots-last

  pub viewers-back : (now pushed : List Viewers) (both : Viewers) → pushed ≡ now ++ both ∷ [] → Pairwise AreViewersOf (cell_roots less) now → AreViewersOf cell.root both → Pairwise AreViewersOf (cell_roots all) pushed
  viewers-back now pushed both e p q = subst (λ z. Pairwise AreViewersOf z pushed) (sym roots-last) (subst (Pairwise AreViewersOf (cell_roots less ++ cell.root ∷ [])) (sym e) (pairs-more AreViewersOf (cell_roots less) now cell.root both p q))

  -- its lock is for it
  pub lock-for : (net : NetParts) (phase n : ℕ) (lock : CellLock) → first_value lock ≡ cell → AreInPlace net phase (cell_roots all) → n ≡ length less → IsLockFor net (n + 1) phase lock
  lock-for net phase n lock e p long =
      let same : lock_root lock ≡ cell.root = ap (λ (c : CellParts). c.root) e in
      let last = place-last net phase p in
      record {
        net_is = ap (λ (r : Root). r.net.value) same ∙ last.0;
        server_is = ap (λ (r : Root). r.server) same ∙ (let s = last.1 in let m = length-map less (λ (c : CellParts). c.root) in omega (arith, s, m, long));
        phase_is = ap (λ (r : Root). r.phase) same ∙ last.2;
      }

  pub lock-viewers : (lock : CellLock) (both : Viewers) → first_value lock ≡ cell → AreViewersOf cell.root both → AreViewersOf (lock_root lock) both
  lock-viewers lock both e q = subst (λ (z : Root). AreViewersOf z both) (sym (ap (λ (c : CellParts). c.root) e)) q

  -- with its lock and its workers behind the others
  pub locked-back : (net : NetParts) (phase : ℕ) (locks pushed : List CellLock) (all_workers behind : List ServerWorkers) (lock : CellLock) (server_workers : ServerWorkers) → pushed ≡ locks ++ lock ∷ [] → behind ≡ all_workers ++ server_workers ∷ [] → AreAllWorkers net phase locks all_workers
      → AreWorkersOf net phase lock server_workers → map lock_root locks ≡ cell_roots less → first_value lock ≡ cell → AreAllWorkers net phase pushed behind × (map lock_root pushed ≡ cell_roots all)
  locked-back net phase locks pushed all_workers behind lock server_workers e f p q m v = (
    subst (λ z. AreAllWorkers net phase z behind) (sym e) (subst (AreAllWorkers net phase (locks ++ lock ∷ [])) (sym f) (pairs-more (AreWorkersOf net phase) locks all_workers lock server_workers p q)),
    ap (map lock_root) e ∙ map-append lock_root locks (lock ∷ []) ∙ ap (λ z. z ++ lock_root lock ∷ []) m ∙ ap (λ (z : Root). cell_roots less ++ z ∷ []) (ap (λ (c : CellParts). c.root) v) ∙ sym roots-last,
  )

pub viewers-long : (xs : List CellParts) (es : List Viewers) → Pairwise AreViewersOf (cell_roots xs) es → length xs ≡ length es
viewers-long xs es p = sym (length-map xs (λ (c : CellParts). c.root)) ∙ pairs-long AreViewersOf (cell_roots xs) es p

pub locks-long : (locks : List CellLock) (xs : List CellParts) → map lock_root locks ≡ cell_roots xs → length locks ≡ length xs
locks-long locks xs e = sym (length-map locks lock_root) ∙ ap length e ∙ length-map xs (λ (c : CellParts). c.root)

-- what stands beside the other locks, and beside the last
pub beside-last : {Y : Type 0} (R : CellLock → Y → Type 0) (locks less : List CellLock) (lock : CellLock) (ys fewer : List Y) (y : Y) → locks ≡ less ++ lock ∷ [] → ys ≡ fewer ++ y ∷ [] → Pairwise R locks ys → Pairwise R less fewer × R lock y
beside-last R locks less lock ys fewer y e f p = pairs-less R less fewer lock y (subst (λ z. Pairwise R z (fewer ++ y ∷ [])) e (subst (Pairwise R locks) f p))

pub beside-back : {Y : Type 0} (R : CellLock → Y → Type 0) (locks less : List CellLock) (lock : CellLock) (fewer pushed : List Y) (y : Y) → locks ≡ less ++ lock ∷ [] → pushed ≡ fewer ++ y ∷ [] → Pairwise R less fewer → R lock y → Pairwise R locks pushed
beside-back R locks less lock fewer pushed y e f p q = subst (λ z. Pairwise R z pushed) (sym e) (subst (Pairwise R (less ++ lock ∷ [])) (sym f) (pairs-more R less fewer lock y p q))
