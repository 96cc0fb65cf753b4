-- Reading members one after the other, as a loop does.
use Rattle.std.proofs.Common.{◌≡◌, ℕ, suc, ◌-◌, ◌+◌, ◌≤◌, ◌<◌, true, false, List, [], ◌∷◌, ◌++◌, refl, sym, ◌∙◌, arith}
use Rattle.std.specs.Prelude.{Some, None}
use Rattle.std.specs.declared.option.Option.{Option}
use Rattle.filter_text.specs.declared.fault.WireFault.{WireFault}
use Rattle.filter_text.specs.declared.fault.WireFault.TheVariants as faults
use Rattle.filter_text.specs.Reading.{Fails}
use Rattle.filter_text.specs.Items.{items_at, more_at}

pub goes_on : {A : Type 0} (one : List ℕ → Option (A × List ℕ)) (most i : ℕ) (read : List A) (bytes : List ℕ) (x : A) (after more : List ℕ) (total : Option (List A × List ℕ)) → i < most → one bytes ≡ Some (x, after) → (true, more) ≡ more_at after
    → items_at one (most - i) read bytes ≡ total → items_at one (most - (i + 1)) (read ++ x ∷ []) more ≡ total
unfolding items_at
goes_on one most i read bytes x after more total lt h m so_far =
    let k : most - i ≡ suc (most - (i + 1)) = omega arith in
    let step : items_at one (most - i) read bytes ≡ items_at one (most - (i + 1)) (read ++ x ∷ []) more = rw (k, h, ← m) refl in
    sym step ∙ so_far

pub stops : {A : Type 0} (one : List ℕ → Option (A × List ℕ)) (most i : ℕ) (read : List A) (bytes : List ℕ) (x : A) (after more : List ℕ) (total : Option (List A × List ℕ)) → i < most → one bytes ≡ Some (x, after) → (false, more) ≡ more_at after
    → items_at one (most - i) read bytes ≡ total → total ≡ Some (read ++ x ∷ [], more)
unfolding items_at
stops one most i read bytes x after more total lt h m so_far =
    let k : most - i ≡ suc (most - (i + 1)) = omega arith in
    let step : items_at one (most - i) read bytes ≡ Some (read ++ x ∷ [], more) = rw (k, h, ← m) refl in
    sym so_far ∙ step

pub ends : {A : Type 0} (e : WireFault) (one : List ℕ → Option (A × List ℕ)) (most i : ℕ) (read : List A) (bytes : List ℕ) (total : Option (List A × List ℕ)) → i < most → Fails e (one bytes)
    → items_at one (most - i) read bytes ≡ total → Fails e total
unfolding items_at
ends faults.NoMemory one most i read bytes total lt h so_far = tt
ends faults.Outside one most i read bytes total lt h so_far =
    let k : most - i ≡ suc (most - (i + 1)) = omega arith in
    let step : items_at one (most - i) read bytes ≡ None = rw (k, h) refl in
    sym so_far ∙ step

pub runs_out : {A : Type 0} (one : List ℕ → Option (A × List ℕ)) (most i : ℕ) (read : List A) (bytes : List ℕ) (total : Option (List A × List ℕ)) → most ≤ i → items_at one (most - i) read bytes ≡ total → total ≡ None
unfolding items_at
runs_out one most i read bytes total le so_far = let k : most - i ≡ 0 = omega arith in let step : items_at one (most - i) read bytes ≡ None = rw k refl in sym so_far ∙ step
